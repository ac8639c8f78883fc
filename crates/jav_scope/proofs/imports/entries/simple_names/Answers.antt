use Rattle.std.proofs.Common.{◌≡◌, ◌∷◌, ◌++◌, [], ◌∙◌, sym, ap}
use Rattle.jav_scope.proofs.Numbered.{mapped-more}
use Rattle.jav_scope.specs.Entries.{import_entry}
use Rattle.jav_scope.proofs.imports.entries.simple_names.Goals as goal

pub loop-place-preserved : goal.loop-place-preserved
loop-place-preserved c =
    let full = c.index-imports-place.result in
    let made : c.in_ok-entry.entry ≡ import_entry 0 (c.loop-place.place, full) =
    c.in_ok-entry.ensures ∙ ap (λ n. import_entry 0 (n, full)) c.in_ok-number.ensures.ok in
    c.in_ok-push.ensures.items ∙ (λ i. c.loop-place.invariant i ++ made i ∷ [])
    ∙ sym (mapped-more c.args.imports.now c.loop-place.place full c.loop-place-test.true c.index-imports-place.is (import_entry 0))
