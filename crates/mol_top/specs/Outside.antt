-- A store and a sink, as a run sees them.
use Rattle.std.specs.Prelude.{◌≡◌, ◌≤◌, ℕ, List, Option, Some}
use Rattle.mol_outside.specs.Contents.{Contents}
use Rattle.mol_outside.specs.declared.outside.Files.{Ghosts as FilesGhosts}
use Rattle.mol_outside.specs.declared.outside.Sink.{Ghosts as SinkGhosts}

-- what a store holds, where it tells, and how many of its listings and reads, and of its writes, have failed
pub record Store : Type 0 where
  pub held : Option Contents
  pub reads : ℕ
  pub writes : ℕ

-- what a sink was given, where it tells, and how many puts have failed
pub record Sink : Type 0 where
  pub given : Option (List ℕ)
  pub puts : ℕ

-- This holds of what the store holds, if it tells. A store may tell nothing of what it holds, as the folders of a computer do; of such a store
-- nothing is said.
abbrev pub IfTold : Option Contents → (Contents → Type 0) → Type 0
IfTold held P = (contents : Contents) → held ≡ Some contents → P contents

pub record State : Type 0 where
  pub store : Store
  pub sink : Sink

abbrev pub store : {X : Type 0} → FilesGhosts X → X → Store
store F files = record { held = F.holds files; reads = F.read_faults files; writes = F.write_faults files }

abbrev pub sink : {Y : Type 0} → SinkGhosts Y → Y → Sink
sink S out = record { given = S.written out; puts = S.faults out }

abbrev pub state : {X Y : Type 0} → FilesGhosts X → SinkGhosts Y → X → Y → State
state F S files out = record { store = store F files; sink = sink S out }

-- a store was listed and read, and not written
pub record OnlyReads (old new : Store) : Type 0 where
  pub held : new.held ≡ old.held
  pub reads : old.reads ≤ new.reads
  pub writes : new.writes ≡ old.writes
