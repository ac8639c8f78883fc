use Rattle.std.proofs.Common.{◌∷◌, ◌++◌, [], sym, ◌∙◌}
use Rattle.mol_resolve_members.proofs.places_lemmas.OrderPlaces.{below-more}
use Rattle.mol_resolve_members.proofs.places.order.numbers_of.Goals as goal

pub loop-place-preserved : goal.loop-place-preserved
loop-place-preserved c =
    c.in_ok-push.ensures.items ∙ (λ i. c.loop-place.invariant i ++ c.in_ok-number.ensures.ok i ∷ []) ∙ sym (below-more c.loop-place.place)
