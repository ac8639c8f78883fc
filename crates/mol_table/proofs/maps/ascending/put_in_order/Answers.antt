use Rattle.std.proofs.Common.{◌≡◌, ◌∙◌, ◌+◌, sym, ap, arith, List, ◌++◌, length, take, position, Some, get_or}
use Rattle.mol_base.specs.declared.ident.Id.{Id}
use Rattle.mol_values_types.specs.Order.{id_eq}
use Rattle.mol_values_types.specs.declared.known.Known.{Known}
use Rattle.mol_table.proofs.Identities.{ids_of, agrees-swap, next-found, next-within, order-long, ordered-distinct, ordered-long, ordered-there, same-knowns, same-list}
use Rattle.std.proofs.lemmas.List.{length-map}
use Rattle.mol_table.proofs.maps.ascending.put_in_order.Goals as goal

pub unwrap-at-requires : goal.unwrap-at-requires
unwrap-at-requires c =
    c.get_index_of.ensures.found
    ∙ ordered-there c.args.known.now.entries c.args.order.now c.args.from c.requires.within c.requires.order c.len-size.ensures.unique
    c.loop-place.known.entries c.loop-place.invariant.known c.loop-place.place c.index-order-place.result c.loop-place-test.true c.index-order-place.is

pub swap_indices-requires-clause-a_in_bounds : goal.swap_indices-requires-clause-a_in_bounds
swap_indices-requires-clause-a_in_bounds c =
    let long = order-long c.args.known.now.entries c.args.order.now c.args.from c.requires.within c.requires.order c.len-size.ensures.unique in
    omega (arith, long, c.loop-place-test.true, c.loop-place.invariant.len)

pub loop-place-preserved : goal.loop-place-preserved
loop-place-preserved c =
    let old : List (Id × Known) = c.args.known.now.entries in
    let now : List (Id × Known) = c.loop-place.known.entries in
    let order : List Id = c.args.order.now in
    let from = c.args.from in
    let place = c.loop-place.place in
    let id = c.index-order-place.result in
    let i = c.loop-place.invariant in
    let less = c.loop-place-test.true in
    let long = order-long old order from c.requires.within c.requires.order c.len-size.ensures.unique in
    let whole = ordered-long old order from c.requires.within c.requires.order c.len-size.ensures.unique in
    let found : position (id_eq id) (ids_of now) ≡ Some c.unwrap-at.result = sym c.get_index_of.ensures.index ∙ c.unwrap-at.ensures in
    let step = agrees-swap now (take from (ids_of old) ++ order) (from + place) c.unwrap-at.result i.agrees
    (ordered-distinct old order from c.requires.within c.requires.order c.len-size.ensures.unique)
    (omega (arith, whole, long, less)) (omega (arith, long, less, i.len))
    (next-within old order from c.requires.within c.requires.order c.len-size.ensures.unique now c.unwrap-at.result id found)
    (λ d. next-found old order from c.requires.within c.requires.order c.len-size.ensures.unique now place c.unwrap-at.result id d less c.index-order-place.is found) in
    record {
      agrees = λ k d lt. ap (λ (es : List (Id × Known)). get_or (ids_of es) k d) c.swap_indices.ensures.entries ∙ step k d (omega (arith, lt));
      known = same-knowns c.swap_indices.new.self.entries now c.swap_indices.ensures.reordered.2 ∙ i.known;
      len = c.swap_indices.ensures.reordered.1 ∙ i.len;
    }

pub returns-clause-order : goal.returns-clause-order
returns-clause-order c =
    let old : List (Id × Known) = c.args.known.now.entries in
    let order : List Id = c.args.order.now in
    let i = c.loop-place.invariant in
    let long = order-long old order c.args.from c.requires.within c.requires.order c.len-size.ensures.unique in
    let whole = ordered-long old order c.args.from c.requires.within c.requires.order c.len-size.ensures.unique in
    let same : length (ids_of c.loop-place.known.entries) ≡ length c.loop-place.known.entries = length-map c.loop-place.known.entries (λ (e : Id × Known). e.0) in
    same-list (ids_of c.loop-place.known.entries) (take c.args.from (ids_of old) ++ order) (same ∙ i.len ∙ sym whole)
    (λ k d lt. i.agrees k d (omega (arith, lt, same, i.len, long, c.loop-place-test.false)))
