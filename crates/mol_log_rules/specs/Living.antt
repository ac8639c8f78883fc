-- Life before and after a history.
use Rattle.std.specs.FinMap.{get}
use Rattle.std.specs.Prelude.{◌≡◌, Bool, false, ◌&&◌, ◌||◌, IsTrue, Option, None, Some}
use Rattle.mol_base.specs.declared.ident.Id.{Id}
use Rattle.mol_table_rules.specs.Life.{entity_in, is_decl_of, is_living_entity}
use Rattle.mol_table_rules.specs.Program.{Program, same_id}
use Rattle.mol_values_types.specs.Slots.{same_slot}
use Rattle.mol_values_types.specs.declared.cell.Cell.{Cell}
use Rattle.mol_values_types.specs.declared.cell.Slot.TheVariants as slots
use Rattle.mol_values_types.specs.declared.known.Known.{Known}

-- each entity that the program knows lives
abbrev pub HasNoDead : Program → Type 0
HasNoDead program = (id : Id) (known : Known) → entity_in (get program.known id) ≡ Some known → IsTrue (is_living_entity program id)

-- whether something that may be known is known as a declaration of the method
abbrev pub is_known_decl : Id → Option Known → Bool
is_known_decl method None = false
is_known_decl method (Some known) = is_decl_of method known

-- whether the cell says if an entity lives: it is the cell `live` of the entity, or that of a known declaration of it
abbrev pub is_life_cell : Program → Id → Cell → Bool
is_life_cell program id at = same_slot at.slot slots.Live && (same_id id at.id || is_known_decl id (get program.known at.id))
