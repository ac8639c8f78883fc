-- The identity of a cell that is there is known.
use Rattle.std.specs.Prelude.{◌≡◌, Option, None, Some, is_some, IsSome, true}
use Rattle.std.proofs.Common.{refl, sym, ◌∙◌}
use Rattle.std.specs.FinMap.{get}
use Rattle.mol_table_rules.specs.Program.{Program}
use Rattle.mol_table_rules.specs.Rules.{IsProgram}
use Rattle.mol_values_types.specs.Slots.{has_slot}
use Rattle.mol_values_types.specs.declared.cell.Cell.{Cell}
use Rattle.mol_values_types.specs.declared.cell.Slot.{Slot}
use Rattle.mol_values_types.specs.declared.known.Known.{Known}

slot_some : (known : Option Known) (slot : Slot) → has_slot known slot ≡ true → is_some known ≡ true
slot_some None slot has = has
slot_some (Some known) slot has = refl

pub owner-known : (program : Program) → IsProgram program → (at : Cell) → IsSome (get program.cells at) → IsSome (get program.known at.id)
owner-known program rules at there = slot_some (get program.known at.id) at.slot (sym (rules.whole at.id at.slot) ∙ there)
