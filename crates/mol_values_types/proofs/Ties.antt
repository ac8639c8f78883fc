-- `==` on identities, slots and cells, against their orders.
use Rattle.std.proofs.Common.{◌≡◌, rules, refl, Bool, List, [], ◌∷◌}
use Rattle.std.specs.List.{list_any}
use denote.Enum.Declared.{tag_of}
use Rattle.std.specs.Ordering.{eq_by_cmp, nat_cmp, on}
use Rattle.std.specs.Cmp.{unsigned_ties}
use Rattle.std.specs.Cmp.Rules.{comparing}
use Rattle.mol_base.specs.Order.{id_cmp}
use Rattle.mol_base.specs.declared.ident.Id.{Id}
use Rattle.mol_values_types.specs.Order.{id_eq, slot_number, cell_cmp}
use Rattle.mol_values_types.specs.declared.cell.Cell.{Cell}
use Rattle.mol_values_types.specs.declared.cell.Slot.{Slot}
use Rattle.mol_values_types.specs.declared.cell.Slot.TheVariants.{Live, Package, Owner, Method, Name, Super, Result, Params, Kind, Fixed, Words, Notes, Body, Value}
use Rattle.mol_values_types.specs.contracts.cell.Slot.{the_type}
use Rattle.mol_values_types.specs.contracts.cell.SlotPartialEq as slots
use Rattle.mol_values_types.specs.contracts.cell.CellPartialEq as cells

abbrev pub cell_eq : Cell → Cell → Bool
cell_eq = cells.TheImpl.eq-value.it

-- the place of a slot is the number of its variant
slot_tag : (slot : Slot) → tag_of the_type slot ≡ slot_number slot
slot_tag Live = refl
slot_tag Package = refl
slot_tag Owner = refl
slot_tag Method = refl
slot_tag Name = refl
slot_tag Super = refl
slot_tag Result = refl
slot_tag Params = refl
slot_tag Kind = refl
slot_tag Fixed = refl
slot_tag Words = refl
slot_tag Notes = refl
slot_tag Body = refl
slot_tag Value = refl

slot_ties : (x y : Slot) → slots.TheImpl.eq-value.it x y ≡ eq_by_cmp (on slot_number nat_cmp) x y
slot_ties x y = rw (slot_tag x, slot_tag y) (unsigned_ties (slot_number x) (slot_number y))

pub id_ties : (x y : Id) → id_eq x y ≡ eq_by_cmp id_cmp x y
id_ties = search (comparing, rules) depth 9

pub cell_ties : (x y : Cell) → cell_eq x y ≡ eq_by_cmp cell_cmp x y
cell_ties = search (comparing, rules, slot_ties) depth 9

-- whether one of some identities is this one
pub any_tied : {X : Type 0} (id_of : X → Id) (id : Id) (xs : List X) → list_any (λ x. id_eq id (id_of x)) xs ≡ list_any (λ x. eq_by_cmp id_cmp id (id_of x)) xs
any_tied id_of id [] = refl
any_tied id_of id (x ∷ xs) = rw (id_ties id (id_of x), any_tied id_of id xs) refl
