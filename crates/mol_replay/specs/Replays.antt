-- When a log replays on a base, and why it does not.
use Rattle.std.specs.Prelude.{◌≡◌, ◌≢◌, Some}
use Rattle.mol_base.specs.declared.ident.Stamp.{Stamp}
use Rattle.mol_faults.specs.First.{IsFirst}
use Rattle.mol_faults_rules.specs.Kept.{kept_fault}
use Rattle.mol_faults_rules.specs.declared.fault.Fault.{Fault}
use Rattle.mol_log.specs.declared.log.Log.{Log}
use Rattle.mol_log_rules.specs.Histories.{History, AppliesOn, after, first_refused}
use Rattle.mol_log_rules.specs.Logs.{history}
use Rattle.mol_op.specs.declared.fault.OpFault.{OpFault}
use Rattle.mol_replay.specs.declared.fault.Inapplicable.{Inapplicable}
use Rattle.mol_replay.specs.declared.fault.Inapplicable.TheVariants.{At, OutOfMemory}
use Rattle.mol_replay.specs.declared.fault.ReplayFault.{ReplayFault}
use Rattle.mol_replay.specs.declared.fault.ReplayFault.TheVariants as faults
use Rattle.mol_spell_files.specs.Bundle.{digest_of}
use Rattle.mol_spell_rules.specs.Clean.{Clean}
use Rattle.mol_table_rules.specs.Program.{Program}

-- The log replays on the base: it was recorded over it, each entry applies to what those before it leave, and what all of them leave is
-- clean.
pub record Replays (base : Program) (log : Log) : Type 0 where
  pub digest : log.base_digest ≡ digest_of base
  pub applies : AppliesOn base (history log)
  pub clean : Clean (after base (history log))

-- The log does not replay, for this fault: of the three parts of a replay it tells the first that fails.
pub data ReplayRefuses (base : Program) (log : Log) : ReplayFault → Type 0 where
  differs : log.base_digest ≢ digest_of base → ReplayRefuses base log (faults.BaseDiffers (digest_of base) log.base_digest)
  inapplicable : {stamp : Stamp} {why : OpFault} → log.base_digest ≡ digest_of base
      → first_refused base (history log) ≡ Some (stamp, why) → ReplayRefuses base log (faults.NotApplicable stamp why)
  unclean : {fault : Fault} → log.base_digest ≡ digest_of base → AppliesOn base (history log)
      → IsFirst (after base (history log)) (Some (kept_fault fault)) → ReplayRefuses base log (faults.NotClean fault)

-- what stops a history that is applied: its first entry that does not apply, or want of memory
abbrev pub IsInapplicable : Program → History → Inapplicable → Type 0
IsInapplicable base history (At stamp why) = first_refused base history ≡ Some (stamp, why)
IsInapplicable base history OutOfMemory = Unit {0}

-- the same as a fault of a replay
abbrev pub as_replay_fault : Inapplicable → ReplayFault
as_replay_fault (At stamp why) = faults.NotApplicable stamp why
as_replay_fault OutOfMemory = faults.OutOfMemory

-- this is the first fault of a program, as a fault of a replay
abbrev pub IsUnclean : Program → ReplayFault → Type 0
IsUnclean left fault = (found : Fault) × (fault ≡ faults.NotClean found) × IsFirst left (Some (kept_fault found))
