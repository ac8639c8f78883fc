-- The cells that a fault rests on, in any order.
use Rattle.std.specs.Prelude.{◌≡◌, ◌↔◌, ◌⊎◌, List, Some, Contains}
use Rattle.mol_base.specs.declared.ident.Id.{Id}
use Rattle.mol_spell_rules.specs.references.References.{Target}
use Rattle.mol_spell_rules.specs.DefaultCreations.{default_creations}
use Rattle.mol_spell_rules.specs.FaultList.{Fault}
use Rattle.mol_spell_rules.specs.Support.{Calls, Concerns, HeaderCell, IsConstructorOf, LifeCell, Supports}
use Rattle.mol_table_rules.specs.Program.{Program, value_at, cell}
use Rattle.mol_values_types.specs.declared.cell.Cell.{Cell}
use Rattle.mol_values_types.specs.declared.cell.Slot.TheVariants as slots
use Rattle.mol_values_types.specs.declared.value.Value.{Value}

-- These are all of them, each any number of times.
abbrev pub RestsOn : Program → Fault → List Cell → Type 0
RestsOn program fault cells = (at : Cell) → Contains cells at ↔ Supports program fault at

-- Beside the old cells the new list has these, and no other; order and number do not count.
abbrev pub Adds : List Cell → List Cell → (Cell → Type 0) → Type 0
Adds old new Added = (at : Cell) → Contains new at ↔ (Contains old at ⊎ Added at)

-- ---- parts

-- These are the cells that say whether these identities live.
abbrev pub AreLives : Program → List Id → List Cell → Type 0
AreLives program ids cells = (at : Cell) → Contains cells at ↔ ((id : Id) × Contains ids id × LifeCell program id at)

-- The parameters of a method that a value calls; whether a constructor lives of a class that it creates by its default constructor.
pub data IsOfValue (program : Program) (value : Value) : Cell → Type 0 where
  called : {method : Id} → Calls value method → IsOfValue program value (cell method slots.Params)
  created : {class declaration : Id} → Contains (default_creations value) class → IsConstructorOf program class declaration
      → IsOfValue program value (cell declaration slots.Live)

-- the same of the value of a cell
pub record IsOfCell (program : Program) (at here : Cell) : Type 0 where
  pub value : Value
  pub holds : value_at program at.id at.slot ≡ Some value
  pub of_value : IsOfValue program value here

-- A cell that says where something is, and what it is, that one of these targets has to do with.
pub record IsOfTargets (program : Program) (targets : List Target) (at : Cell) : Type 0 where
  pub target : Target
  pub id : Id
  pub among : Contains targets target
  pub concerns : Concerns program target id
  pub header : HeaderCell program id at
