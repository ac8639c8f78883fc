use Rattle.std.proofs.Common.{ℕ, [], ◌∷◌, ◌++◌, List, map, sym, ◌∙◌, ap, subst, arith, nat_cmp}
use Rattle.std.specs.Cmp.Lexicographic.{slice_cmp}
use Rattle.std.specs.List.{list_any}
use Rattle.std.specs.List.Sorted.{IsSorted}
use Rattle.std.proofs.lemmas.List.{take_all}
use Rattle.jav_names.specs.UnitViews.{numbered}
use Rattle.jav_scope.specs.declared.source.SourceUnit.{SourceUnit}
use Rattle.jav_scope.proofs.Numbered.{mapped-more}
use Rattle.mol_resolve_rules.specs.FaultKinds.{package_is_class}
use Rattle.mol_resolve_classes.specs.headers.Headers.{fails}
use Rattle.mol_resolve_classes.specs.headers.Packages.{begins}
use Rattle.mol_resolve_classes.proofs.headers_lemmas.PackagesFound.{package-is}
use Rattle.mol_resolve_classes.proofs.headers.package_classes.packages.Goals as goal

pub any_begins-requires : goal.any_begins-requires
any_begins-requires c =
    subst (λ (texts : List (List ℕ)). IsSorted (slice_cmp nat_cmp) texts) (sym c.as_slice.ensures.value) c.in_ok-sorted.ensures.sorted

pub loop-source-preserved : goal.loop-source-preserved
loop-source-preserved c =
    let sources = c.args.sources.now in
    let place = c.loop-source.source-index in
    let source = c.source-item.result in
    let sorted = c.in_ok-sorted.sorted.items in
    let here = c.any_begins.ensures
    ∙ (λ i. list_any (begins ((c.bytes.ensures.bytes ∙ c.in_ok-name.ensures) i)) (c.as_slice.ensures.value i))
    ∙ package-is sources sorted c.in_ok-sorted.ensures.packages source in
    c.in_ok-push.ensures.items ∙ (λ i. c.loop-source.invariant i ++ here i ∷ [])
    ∙ sym (mapped-more sources place source c.loop-source-test.true c.source-item.is (fails sources package_is_class))

pub returns : goal.returns
returns c =
    let sources = c.args.sources.now in
    c.loop-source.invariant
    ∙ ap (λ (all : List SourceUnit). map (fails sources package_is_class) (numbered all))
    (take_all c.loop-source.source-index sources (omega (arith, c.loop-source-test.false)))
