-- Faults by the cells that they rest on.
use Rattle.std.specs.Prelude.{◌≡◌, Bool, true, false, IsTrue, IsFalse, Some, Contains}
use Rattle.std.specs.FinMap.{get}
use Rattle.mol_base.specs.declared.ident.Id.{Id}
use Rattle.mol_spell_rules.specs.Clean.{Clean}
use Rattle.mol_spell_rules.specs.FaultList.{Fault, IsFault, misread}
use Rattle.mol_spell_rules.specs.Support.{Supports}
use Rattle.mol_table_rules.specs.Life.{is_living_entity}
use Rattle.mol_table_rules.specs.Mentions.{a_class, mentions}
use Rattle.mol_table_rules.specs.Program.{Program}
use Rattle.mol_table_rules.specs.Rules.{IsProgram}
use Rattle.mol_values_types.specs.declared.cell.Cell.{Cell}
use Rattle.mol_values_types.specs.declared.cell.Slot.{Slot}
use Rattle.mol_values_types.specs.declared.cell.Slot.TheVariants as slots
use Rattle.mol_values_types.specs.declared.known.Known.{Known}
use Rattle.mol_values_types.specs.declared.value.Value.{Value}

-- A slot that names the class which an entity stands in or below.
pub data NamesAbove : Slot → Type 0 where
  its_owner : NamesAbove slots.Owner
  its_superclass : NamesAbove slots.Super

-- The second program is part of the first one.
pub record IsPart (whole part : Program) : Type 0 where
  -- What it knows, the whole knows as the same,
  pub known : (id : Id) (known : Known) → get part.known id ≡ Some known → get whole.known id ≡ Some known
  -- and what of it lives in the whole lives in it.
  pub life : (id : Id) (known : Known) → get part.known id ≡ Some known → IsTrue (is_living_entity whole id)
      → IsTrue (is_living_entity part id)
  -- Where both name one class above what lives in the whole, that lives in the whole where it lives in the part.
  pub above : (at : Cell) (value : Value) (class : Id) → NamesAbove at.slot → IsTrue (is_living_entity whole at.id)
      → get whole.cells at ≡ Some value → get part.cells at ≡ Some value → Contains (mentions value) (record { role = a_class; id = class })
      → IsTrue (is_living_entity part class) → IsTrue (is_living_entity whole class)

abbrev pub is_misread : Fault → Bool
is_misread (misread at number target) = true
is_misread fault = false

-- both hold the same in each cell that a fault of the first program rests on
abbrev pub HoldSupport : Program → Program → Fault → Type 0
HoldSupport whole part fault = (at : Cell) → Supports whole fault at → get whole.cells at ≡ get part.cells at

-- Where a part of a program holds what a fault of the whole rests on, the part is not clean either. A name may read as something else by
-- what is added beside it, so this is said of all faults but misread names.
pub record FaultsSupported : Type 0 where
  pub supported : (whole part : Program) (fault : Fault) → IsProgram whole → IsProgram part → IsPart whole part → IsFault whole fault
      → IsFalse (is_misread fault) → HoldSupport whole part fault → ¬ Clean part
