-- What a command makes before the first write, and what stops it.
use Rattle.std.specs.Prelude.{◌≡◌, Some}
use Rattle.mol_outside.specs.Contents.{Contents}
use Rattle.mol_top.specs.Command.{Command, paths_of}
use Rattle.mol_top.specs.Outcome.{Refuses, ComesTo, HasLine}
use Rattle.mol_top.specs.Output.{Outcome, IsWork}
use Rattle.mol_top.specs.Outside.{IfTold, Store}
use Rattle.mol_top.specs.Report.{line_bytes}
use Rattle.mol_top.specs.Steps.{IsNamed, StopsBy}
use Rattle.mol_top.specs.declared.output.Work.{Work}
use Rattle.mol_top.specs.declared.refusal.Refusal.{Refusal}
use Rattle.mol_top.specs.declared.status.Status.{Status}

-- the command comes to an outcome, and this is made for it
pub record IsPrepared (c : Command) (held : Contents) (work : Work) : Type 0 where
  pub outcome : Outcome
  pub comes : ComesTo c held outcome
  pub is : IsWork work outcome

-- this is made for the command over what the store holds, where it tells
abbrev pub Prepares : Command → Store → Work → Type 0
Prepares c store work = IfTold store.held (λ held. IsPrepared c held work)

-- the command stops before the first write
abbrev pub StopsCommand : Command → Store → Store → Status → Type 0
StopsCommand c old new status = StopsBy (IsNamed (paths_of c) old.held) old new (Refuses c) status

-- a refusal has the line of its status
abbrev pub HasItsLine : Command → Store → Refusal → Type 0
HasItsLine c store refusal = HasLine (Some c) store refusal.status (λ line. line_bytes refusal.line ≡ line)

-- the command stops, and this is its refusal
pub record IsStopped (c : Command) (old new : Store) (refusal : Refusal) : Type 0 where
  pub cause : StopsCommand c old new refusal.status
  pub line : HasItsLine c old refusal
