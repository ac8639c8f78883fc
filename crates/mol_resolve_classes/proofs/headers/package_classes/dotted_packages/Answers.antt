use Rattle.std.proofs.Common.{[], ◌∷◌, ◌++◌, map, take, sym, ◌∙◌, ap, arith}
use Rattle.std.proofs.lemmas.List.{map-append, take_all}
use Rattle.jav_scope.proofs.Numbered.{one-more}
use Rattle.mol_resolve_classes.specs.headers.Packages.{dotted_package}
use Rattle.mol_resolve_classes.proofs.headers.package_classes.dotted_packages.Goals as goal

pub loop-source-preserved : goal.loop-source-preserved
loop-source-preserved c =
    let sources = c.args.sources.now in
    let place = c.loop-source.source-index in
    let source = c.source-item.result in
    c.in_ok-push.ensures.items ∙ (λ i. c.loop-source.invariant i ++ c.in_ok-dotted_package.ensures i ∷ [])
    ∙ sym (ap (map dotted_package) (one-more sources place source c.loop-source-test.true c.source-item.is)
    ∙ map-append dotted_package (take place sources) (source ∷ []))

pub returns : goal.returns
returns c =
    let sources = c.args.sources.now in
    c.loop-source.invariant
    ∙ ap (map dotted_package) (take_all c.loop-source.source-index sources (omega (arith, c.loop-source-test.false)))
