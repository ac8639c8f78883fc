use Rattle.std.proofs.Common.{◌≡◌, ◌∷◌, ◌++◌, [], ◌∙◌, sym, ap, map, take}
use Rattle.std.proofs.lemmas.List.{append_assoc}
use Rattle.jav_names.specs.UnitViews.{numbered}
use Rattle.jav_scope.specs.Entries.{import_entry}
use Rattle.jav_scope.proofs.Numbered.{mapped-more}
use Rattle.jav_scope.proofs.entries.add_imports.Goals as goal

pub loop-place-preserved : goal.loop-place-preserved
loop-place-preserved c =
    let full = c.index-imports-place.result in
    let made : c.in_ok-entry.entry ≡ import_entry c.args.unit (c.loop-place.place, full) =
    c.in_ok-entry.ensures ∙ ap (λ n. import_entry c.args.unit (n, full)) c.in_ok-number.ensures.ok in
    c.in_ok-push.ensures.items ∙ (λ i. c.loop-place.invariant i ++ made i ∷ [])
    ∙ append_assoc c.args.entries.now.items (map (import_entry c.args.unit) (numbered (take c.loop-place.place c.args.imports.now)))
    (import_entry c.args.unit (c.loop-place.place, full) ∷ [])
    ∙ ap (λ entries. c.args.entries.now.items ++ entries)
    (sym (mapped-more c.args.imports.now c.loop-place.place full c.loop-place-test.true c.index-imports-place.is
    (import_entry c.args.unit)))
