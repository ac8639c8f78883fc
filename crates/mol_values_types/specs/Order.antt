-- The order of cells, and `==` on identities as the code has it.
use Rattle.std.specs.Prelude.{ℕ, Bool}
use Rattle.std.specs.Ordering.{nat_cmp, on, then_cmp}
use Rattle.std.specs.declared.cmp.Ordering.{Ordering}
use Rattle.mol_base.specs.Order.{id_cmp}
use Rattle.mol_base.specs.contracts.ident.IdPartialEq as ids
use Rattle.mol_base.specs.declared.ident.Id.{Id}
use Rattle.mol_values_types.specs.declared.cell.Slot.{Slot}
use Rattle.mol_values_types.specs.declared.cell.Slot.TheVariants.{Live, Package, Owner, Method, Name, Super, Result, Params, Kind, Fixed, Words, Notes, Body, Value}
use Rattle.mol_values_types.specs.declared.cell.Cell.{Cell}

abbrev pub id_eq : Id → Id → Bool
id_eq = ids.TheImpl.eq-value.it

-- the place of a slot in the order of slots
abbrev pub slot_number : Slot → ℕ
slot_number Live = 0
slot_number Package = 1
slot_number Owner = 2
slot_number Method = 3
slot_number Name = 4
slot_number Super = 5
slot_number Result = 6
slot_number Params = 7
slot_number Kind = 8
slot_number Fixed = 9
slot_number Words = 10
slot_number Notes = 11
slot_number Body = 12
slot_number Value = 13

-- cells go by identity, then by slot
abbrev pub cell_cmp : Cell → Cell → Ordering
cell_cmp = then_cmp (on (λ cell. cell.id) id_cmp) (on (λ cell. slot_number cell.slot) nat_cmp)
