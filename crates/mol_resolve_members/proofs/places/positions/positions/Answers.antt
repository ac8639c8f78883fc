use Rattle.std.proofs.Common.{◌≡◌, ◌<◌, ◌+◌, ◌-◌, ℕ, length, get_or, replicate, refl, sym, ◌∙◌, ap, subst, arith}
use Rattle.std.proofs.lemmas.List.{length-replicate, length-set}
use Rattle.mol_resolve_members.proofs.places_lemmas.OrderPlaces.{PlacedFrom, placed-none, placed-more, placed-all}
use Rattle.mol_resolve_members.proofs.places.positions.positions.Goals as goal

pub loop-place-init : goal.loop-place-init
loop-place-init c =
    let order = c.args.order.now in
    let places = c.in_ok-places.places.items in
    let count : c.in_ok-count.count ≡ length order = c.in_ok-count.ensures.ok in
    let items : places ≡ replicate (length order) (length order) =
    c.in_ok-places.ensures.items_if_clones_equal (λ y is. is) ∙ ap (replicate (length order)) count in
    record {
      size = ap length items ∙ length-replicate (length order) (length order);
      placed = subst (λ (from : ℕ). PlacedFrom order from places) (sym count)
          (subst (PlacedFrom order (length order)) (sym items) (placed-none order));
    }

pub loop-place-preserved : goal.loop-place-preserved
loop-place-preserved c =
    let order = c.args.order.now in
    let places = c.loop-place.places.items in
    let from = c.loop-place.place - 1 in
    let number = get_or order from 0 in
    let next : c.loop-place.place ≡ from + 1 = omega (arith, c.loop-place-test.true) in
    let within : from < length order = omega (arith, c.loop-place-test.true, c.loop-place.auto.place, c.in_ok-count.ensures.ok) in
    let inside : number < length places = omega (arith, c.requires from 0 within, c.loop-place.invariant.size) in
    record {
      size = length-set places number from ∙ c.loop-place.invariant.size;
      placed = placed-more order from number places within refl inside
          (subst (λ (start : ℕ). PlacedFrom order start places) next c.loop-place.invariant.placed);
    }

pub returns : goal.returns
returns c =
    let order = c.args.order.now in
    let places = c.loop-place.places.items in
    let first : c.loop-place.place ≡ 0 = omega (arith, c.loop-place-test.false) in
    placed-all order places c.loop-place.invariant.size
    (subst (λ (from : ℕ). PlacedFrom order from places) first c.loop-place.invariant.placed)
