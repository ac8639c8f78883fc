-- The conflict that is made of a pair.
use Rattle.std.specs.FinMap.{get}
use Rattle.std.specs.Ordering.{is_lt}
use Rattle.std.specs.Prelude.{◌≡◌, Bool, false, List, Contains, Option, Some, if◌then◌else◌}
use Rattle.mol_base.specs.Order.{stamp_cmp}
use Rattle.mol_base.specs.declared.ident.Stamp.{Stamp}
use Rattle.mol_conflict.specs.Found.{pair_of}
use Rattle.mol_conflict.specs.declared.pair.Pair.{Pair as Row}
use Rattle.mol_conflict.specs.declared.pair.Pair.TheVariants.{Twice, GoneChanged, GoneUsed}
use Rattle.mol_faults_rules.specs.declared.conflict.Conflict.{Conflict}
use Rattle.mol_log_rules.specs.Histories.{History, last}
use Rattle.mol_log_rules.specs.Writers.{entity_writer, life_writer, writer}
use Rattle.mol_merge_rules.specs.Conflicts.{pair_kind, stamps_of}
use Rattle.mol_table_rules.specs.Life.{is_living_entity}
use Rattle.mol_table_rules.specs.Program.{Program}
use Rattle.mol_values_types.specs.declared.cell.Cell.{Cell}
use Rattle.mol_values_types.specs.declared.value.Value.{Value}

-- both are there, and the first is the later one
abbrev pub is_later : Option Stamp → Option Stamp → Bool
is_later (Some first) (Some second) = is_lt (stamp_cmp second first)
is_later first second = false

-- a program holds the value that a history writes last
pub record IsHeld (left : Program) (history : History) (at : Cell) : Type 0 where
  pub value : Value
  pub held : get left.cells at ≡ Some value
  pub written : last history at ≡ Some value

-- what the two histories leave, and these
module _ (first second : Program) (one other : History) where
  -- the last writers of what a pair is of
  abbrev pub writers_in : Row → Option Stamp × Option Stamp
  writers_in (Twice at) = (writer one at, writer other at)
  writers_in (GoneChanged id) =
      if is_living_entity first id then (life_writer second other id, entity_writer one id)
      else (life_writer first one id, entity_writer other id)
  writers_in (GoneUsed id at) =
      if is_living_entity first id then (life_writer second other id, writer one at)
      else (life_writer first one id, writer other at)

  abbrev pub stamps_in : Row → List Stamp
  stamps_in row = stamps_of (writers_in row).0 (writers_in row).1

  abbrev pub AreHeld : Cell → Type 0
  AreHeld at = IsHeld first one at × IsHeld second other at

  -- of a cell that is set twice, both values are there
  abbrev pub IsValued : Row → Type 0
  IsValued (Twice at) = AreHeld at
  IsValued row = Unit {0}

  abbrev pub AreValued : List Row → Type 0
  AreValued rows = (row : Row) → Contains rows row → IsValued row

  pub record IsMade (row : Row) (conflict : Conflict) : Type 0 where
    pub kind : pair_kind one other (pair_of row) ≡ Some conflict.kind
    pub stamps : conflict.stamps ≡ stamps_in row
