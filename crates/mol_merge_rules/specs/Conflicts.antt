-- The conflicts of two histories over one base.
use Rattle.std.specs.List.{AllZip, flat_map}
use Rattle.std.specs.Option.{option_to_list}
use Rattle.std.specs.Ordering.{is_lt}
use Rattle.std.specs.Prelude.{◌≡◌, Bool, true, false, List, [], ◌∷◌, ◌++◌, map, Option, None, Some, Contains, if◌then◌else◌}
use Rattle.std.specs.declared.cmp.Ordering.{Ordering}
use Rattle.std.specs.declared.cmp.Ordering.TheVariants.{Less, Equal, Greater}
use Rattle.mol_base.specs.Order.{stamp_cmp}
use Rattle.mol_base.specs.declared.ident.Id.{Id}
use Rattle.mol_base.specs.declared.ident.Stamp.{Stamp}
use Rattle.mol_faults_rules.specs.Kept.{kept_fault}
use Rattle.mol_faults_rules.specs.declared.conflict.Conflict.{Conflict}
use Rattle.mol_faults_rules.specs.declared.conflict.ConflictKind.{ConflictKind}
use Rattle.mol_faults_rules.specs.declared.conflict.ConflictKind.TheVariants.{Twice, GoneChanged, GoneUsed, Bad}
use Rattle.mol_faults_rules.specs.declared.fault.Fault.{Fault}
use Rattle.mol_faults_rules.specs.declared.fault.Fault.TheVariants.{Misread}
use Rattle.mol_log_rules.specs.Histories.{Stamped, History, after, last}
use Rattle.mol_log_rules.specs.Writers.{writer, entity_writer, life_writer}
use Rattle.mol_merge_rules.specs.PairConflicts.{Pair, twice, gone_changed, gone_used, ArePairs}
use Rattle.mol_merge_rules.specs.United.{united}
use Rattle.mol_spell_rules.specs.FaultList.{AreFaults}
use Rattle.mol_spell_rules.specs.Sets.{as_set}
use Rattle.mol_spell_rules.specs.Support.{IsSupport}
use Rattle.mol_table_rules.specs.Life.{is_living_entity}
use Rattle.mol_table_rules.specs.Program.{Program}
use Rattle.mol_values_types.specs.declared.cell.Cell.{Cell}
use Rattle.mol_values_types.specs.declared.value.Value.{Value}

-- ---- stamps

-- stamps in order, each once
abbrev pub ascending_stamps : List Stamp → List Stamp
ascending_stamps = as_set stamp_cmp

-- two of them
abbrev pub both_stamps : Ordering → Stamp → Stamp → List Stamp
both_stamps Less one other = one ∷ other ∷ []
both_stamps Equal one other = one ∷ []
both_stamps Greater one other = other ∷ one ∷ []

-- of two stamps those that are there, in order
abbrev pub stamps_of : Option Stamp → Option Stamp → List Stamp
stamps_of (Some one) (Some other) = both_stamps (stamp_cmp one other) one other
stamps_of (Some one) None = one ∷ []
stamps_of None other = option_to_list other

-- of what is gone after a history: who wrote last whether it lives, and who wrote in the other history
abbrev pub gone_stamps : Program → History → Id → Option Stamp → List Stamp
gone_stamps base history id user = stamps_of (life_writer (after base history) history id) user

-- For a cell that is set twice: its last writer in each history. For what is gone after one of them: the last writer there of whether it
-- lives, and in the other one the last writer of any cell of it, or of the cell that uses it.
abbrev pub pair_stamps : Program → History → History → Pair → List Stamp
pair_stamps base one other (twice at) = stamps_of (writer one at) (writer other at)
pair_stamps base one other (gone_changed id) =
    if is_living_entity (after base one) id then gone_stamps base other id (entity_writer one id)
    else gone_stamps base one id (entity_writer other id)
pair_stamps base one other (gone_used id at) =
    if is_living_entity (after base one) id then gone_stamps base other id (writer one at)
    else gone_stamps base one id (writer other at)

-- the last writers of a cell, in either
abbrev pub writers : History → History → Cell → List Stamp
writers one other at = option_to_list (writer one at) ++ option_to_list (writer other at)

-- ---- conflicts of pairs

-- of two that two entries wrote, that of the lesser stamp first
abbrev pub in_stamp_order : {X : Type 0} → Option Stamp → Option Stamp → X → X → X × X
in_stamp_order (Some one) (Some other) first second = if is_lt (stamp_cmp other one) then (second, first) else (first, second)
in_stamp_order one other first second = (first, second)

abbrev pub twice_kind : Cell → Option Value × Option Value → Option ConflictKind
twice_kind at (Some first, Some second) = Some (Twice at first second)
twice_kind at other = None

-- which conflict a pair is; a cell is in conflict only where both write it
abbrev pub pair_kind : History → History → Pair → Option ConflictKind
pair_kind one other (twice at) = twice_kind at (in_stamp_order (writer one at) (writer other at) (last one at) (last other at))
pair_kind one other (gone_changed id) = Some (GoneChanged id)
pair_kind one other (gone_used id at) = Some (GoneUsed id at)

pub record IsConflictOf (base : Program) (one other : History) (pair : Pair) (conflict : Conflict) : Type 0 where
  pub kind : pair_kind one other pair ≡ Some conflict.kind
  pub stamps : conflict.stamps ≡ pair_stamps base one other pair

-- the conflicts of all pairs, in the order of these
pub record ArePairConflicts (base : Program) (one other : History) (list : List Conflict) : Type 0 where
  pub pairs : List Pair
  pub are : ArePairs base one other pairs
  pub each : AllZip (IsConflictOf base one other) pairs list

-- ---- faults of both together

-- A fault as a conflict: with the last writers, in either history, of what it rests on in what both leave. That it is a fault of what both
-- leave is asked of the list of all.
pub record IsBad (base : Program) (one other : History) (fault : Fault) (conflict : Conflict) : Type 0 where
  pub kind : conflict.kind ≡ Bad fault
  pub cells : List Cell
  pub rests : IsSupport (united base one other) (kept_fault fault) cells
  pub stamps : conflict.stamps ≡ ascending_stamps (flat_map (writers one other) cells)

-- all faults of what both leave, in the order of faults
pub record AreBads (base : Program) (one other : History) (list : List Conflict) : Type 0 where
  pub faults : List Fault
  pub are : AreFaults (united base one other) (map kept_fault faults)
  pub each : AllZip (IsBad base one other) faults list

-- ---- all conflicts

-- those of pairs where there are any, and else the faults
pub data AreConflicts (base : Program) (one other : History) : List Conflict → Type 0 where
  of_pairs : {conflict : Conflict} {rest : List Conflict} → ArePairConflicts base one other (conflict ∷ rest)
      → AreConflicts base one other (conflict ∷ rest)
  of_faults : {list : List Conflict} → ArePairConflicts base one other [] → AreBads base one other list
      → AreConflicts base one other list

-- ---- the entries that a conflict names

-- it names an entry of the history
abbrev pub NamesEntry : History → Conflict → Type 0
NamesEntry history conflict = (entry : Stamped) × Contains history entry × Contains conflict.stamps entry.stamp

-- an entry of each
pub record NamesBoth (one other : History) (conflict : Conflict) : Type 0 where
  pub one_named : NamesEntry one conflict
  pub other_named : NamesEntry other conflict

-- whether it is the fault of a name that reads as something else: that may come of what one history did alone
abbrev pub is_misread : ConflictKind → Bool
is_misread (Bad (Misread at number target)) = true
is_misread other = false
