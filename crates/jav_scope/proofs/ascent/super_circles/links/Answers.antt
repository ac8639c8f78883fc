use Rattle.std.proofs.Common.{◌∷◌, ◌++◌, [], sym, ◌∙◌, arith}
use Rattle.std.proofs.lemmas.List.FromFn.{map-range_with_len_more}
use Rattle.jav_scope.specs.Entries.{view_in}
use Rattle.jav_scope.specs.ascent.Circles.{link_up}
use Rattle.jav_scope.proofs.ascent.super_circles.links.Goals as goal

pub loop-class-preserved : goal.loop-class-preserved
loop-class-preserved c =
    let view = view_in c.args.scope.now in
    let link = c.above.ensures ∙ (λ i. link_up view (c.in_ok-end.ensures.ok i) c.loop-class.class) in
    c.in_ok-push.ensures.items ∙ (λ i. c.loop-class.invariant i ++ link i ∷ [])
    ∙ sym (map-range_with_len_more (link_up view c.args.count) 0 c.loop-class.class c.loop-class.class (omega arith))
