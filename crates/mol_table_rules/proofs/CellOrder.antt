-- Cells are in a total order, and those that compare as equal are one.
use Rattle.std.specs.Prelude.{◌≡◌, List, [], ◌∷◌, slice_index_or, refl}
use Rattle.std.proofs.Common.{rules, sym, ap, ◌∙◌}
use Rattle.std.specs.Ordering.{nat_cmp, ordering_then}
use Rattle.std.specs.Cmp.{IsTotalOrder}
use Rattle.std.specs.Cmp.Rules.{comparing}
use Rattle.std.specs.FinMap.{IsAntisymmetric, nat_cmp-IsAntisymmetric}
use Rattle.std.specs.declared.cmp.Ordering.{Ordering}
use Rattle.std.specs.declared.cmp.Ordering.TheVariants.{Less, Equal, Greater}
use Rattle.mol_base.specs.Order.{id_cmp, id_cmp-IsAntisymmetric}
use Rattle.mol_values_types.specs.Order.{slot_number, cell_cmp}
use Rattle.mol_values_types.specs.declared.cell.Slot.{Slot}
use Rattle.mol_values_types.specs.declared.cell.Slot.TheVariants.{Live, Package, Owner, Method, Name, Super, Result, Params, Kind, Fixed, Words, Notes, Body, Value}

-- all slots in their order
abbrev pub every_slot : List Slot
every_slot = Live ∷ Package ∷ Owner ∷ Method ∷ Name ∷ Super ∷ Result ∷ Params ∷ Kind ∷ Fixed ∷ Words ∷ Notes ∷ Body ∷ Value ∷ []

-- a slot stands at its place
pub slot_at : (slot d : Slot) → slice_index_or every_slot (slot_number slot) d ≡ slot
slot_at Live d = refl
slot_at Package d = refl
slot_at Owner d = refl
slot_at Method d = refl
slot_at Name d = refl
slot_at Super d = refl
slot_at Result d = refl
slot_at Params d = refl
slot_at Kind d = refl
slot_at Fixed d = refl
slot_at Words d = refl
slot_at Notes d = refl
slot_at Body d = refl
slot_at Value d = refl

pub slot_same : (x y : Slot) → slot_number x ≡ slot_number y → x ≡ y
slot_same x y e = sym (slot_at x x) ∙ ap (λ k. slice_index_or every_slot k x) e ∙ slot_at y x

pub cell_cmp-total : IsTotalOrder cell_cmp
cell_cmp-total = search (comparing, rules) depth 9

then_both : (a b : Ordering) → ordering_then a b ≡ Equal → (a ≡ Equal) × (b ≡ Equal)
then_both Less b e = absurd cc
then_both Equal b e = (refl, e)
then_both Greater b e = absurd cc

-- cells that compare as equal are one
pub cell_cmp-IsAntisymmetric : IsAntisymmetric cell_cmp
cell_cmp-IsAntisymmetric x y e =
    let both = then_both (id_cmp x.id y.id) (nat_cmp (slot_number x.slot) (slot_number y.slot)) e in
    let id = id_cmp-IsAntisymmetric x.id y.id both.0 in
    let slot = slot_same x.slot y.slot (nat_cmp-IsAntisymmetric (slot_number x.slot) (slot_number y.slot) both.1) in
    λ i. record { id = id i; slot = slot i }
