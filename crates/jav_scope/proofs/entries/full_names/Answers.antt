use Rattle.std.proofs.Common.{◌≡◌, ◌∷◌, ◌++◌, [], ◌∙◌, sym, ap}
use Rattle.jav_scope.specs.Entries.{class_entry}
use Rattle.jav_scope.proofs.Numbered.{units-mapped-more}
use Rattle.jav_scope.proofs.entries.full_names.Goals as goal

pub loop-place-preserved : goal.loop-place-preserved
loop-place-preserved c =
    let source = c.index-sources-place.result in
    let made : c.in_ok-entry.entry ≡ class_entry (c.loop-place.place, source.unit) =
    c.in_ok-entry.ensures ∙ ap (λ n. class_entry (n, source.unit)) c.in_ok-number.ensures.ok in
    c.in_ok-push.ensures.items ∙ (λ i. c.loop-place.invariant i ++ made i ∷ [])
    ∙ sym (units-mapped-more c.args.sources.now c.loop-place.place source c.loop-place-test.true c.index-sources-place.is class_entry)
