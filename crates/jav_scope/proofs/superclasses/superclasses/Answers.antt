use Rattle.std.proofs.Common.{◌≡◌, ◌∷◌, ◌++◌, [], ◌∙◌, ℕ, sym, ap, Some, slice_get, refl}
use Rattle.std.proofs.lemmas.Option.{slice_get_read}
use Rattle.jav_tree.specs.declared.unit.Unit.{Unit}
use Rattle.jav_names.specs.UnitViews.{superclass_of}
use Rattle.jav_scope.specs.Answers.{superclass_answered}
use Rattle.jav_scope.specs.Entries.{classes_in}
use Rattle.jav_scope.specs.declared.source.SourceUnit.{SourceUnit}
use Rattle.jav_scope.proofs.Numbered.{units-mapped-more}
use Rattle.jav_scope.proofs.superclasses.superclasses.Goals as goal

pub loop-place-preserved : goal.loop-place-preserved
loop-place-preserved c =
    let sources = c.args.sources.now in
    let place = c.loop-place.place in
    let source : SourceUnit = c.index-sources-place.result in
    let there : slice_get sources place ≡ Some source = slice_get_read sources _ place source refl c.loop-place-test.true
    c.index-sources-place.is in
    let found = c.superclass-found.ensures source (ap (λ n. slice_get c.args.names.now n) c.in_ok-number.ensures.ok
    ∙ ap (λ all. slice_get all place) c.requires ∙ there) in
    let made = found ∙ (λ i. superclass_answered (superclass_of (classes_in (c.requires i)) (c.in_ok-number.ensures.ok i, source.unit))) in
    c.in_ok-push.ensures.items ∙ (λ i. c.loop-place.invariant i ++ made i ∷ [])
    ∙ sym (units-mapped-more sources place source c.loop-place-test.true c.index-sources-place.is
    (λ (unit : ℕ × Unit). superclass_answered (superclass_of (classes_in sources) unit)))
