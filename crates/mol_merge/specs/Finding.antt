-- What two logs that were applied to one base come to together, and what the parts of a merge tell.
use Rattle.std.specs.List.{flat_map}
use Rattle.std.specs.Prelude.{◌≡◌, ◌≢◌, List, []}
use Rattle.mol_base.specs.Order.{stamp_cmp}
use Rattle.mol_faults_rules.specs.Kept.{kept_fault}
use Rattle.mol_faults_rules.specs.declared.conflict.Conflict.{Conflict}
use Rattle.mol_faults_rules.specs.declared.conflict.ConflictKind.TheVariants.{Bad}
use Rattle.mol_faults_rules.specs.declared.fault.Fault.{Fault}
use Rattle.mol_log.specs.declared.log.Log.{Log}
use Rattle.mol_log_rules.specs.Histories.{History}
use Rattle.mol_merge.specs.Outcomes.{IsLarge, as_limit}
use Rattle.mol_merge.specs.declared.found.Found.{Found}
use Rattle.mol_merge.specs.declared.found.Found.TheVariants.{United, Conflicts}
use Rattle.mol_merge.specs.declared.outcome.MergeFault.{MergeFault}
use Rattle.mol_merge_rules.specs.Conflicts.{AreConflicts, writers}
use Rattle.mol_merge_rules.specs.United.{united}
use Rattle.mol_replay.specs.Replays.{ReplayRefuses}
use Rattle.mol_replay.specs.declared.fault.ReplayFault.{ReplayFault}
use Rattle.mol_spell_files.specs.declared.limits.LimitFault.{LimitFault}
use Rattle.mol_spell_rules.specs.Sets.{as_set}
use Rattle.mol_spell_rules.specs.Support.{IsSupport}
use Rattle.mol_table_rules.specs.Program.{Program}
use Rattle.mol_values_types.specs.declared.cell.Cell.{Cell}

-- all their conflicts, of which there are some; else what the one leaves and then the other
abbrev pub IsFound : Program → History → History → Found → Type 0
IsFound base one other (United table) = AreConflicts base one other [] × (table ≡ united base one other)
IsFound base one other (Conflicts list) = AreConflicts base one other list × (list ≢ [])

-- A fault of a program, with the last writers, in either history, of what it rests on there.
pub record IsBadIn (program : Program) (one other : History) (fault : Fault) (conflict : Conflict) : Type 0 where
  pub kind : conflict.kind ≡ Bad fault
  pub cells : List Cell
  pub rests : IsSupport program (kept_fault fault) cells
  pub stamps : conflict.stamps ≡ as_set stamp_cmp (flat_map (writers one other) cells)

-- why a log does not replay, told as the fault of one of the two
pub record TellsReplay (which : ReplayFault → MergeFault) (base : Program) (log : Log) (fault : MergeFault) : Type 0 where
  pub why : ReplayFault
  pub is : fault ≡ which why
  pub refuses : ReplayRefuses base log why

-- nothing in two logs conflicts, and the fault is that of a limit which the result passes
pub record TellsLarge (base : Program) (one other : Log) (fault : MergeFault) : Type 0 where
  pub limit : LimitFault
  pub is : fault ≡ as_limit limit
  pub large : IsLarge base one other limit
