use Rattle.std.proofs.Common.{◌≡◌, ◌∙◌, List, Some, ap, sym, slice_get}
use Rattle.jav_scope.specs.Entries.{classes_in}
use Rattle.jav_scope.specs.declared.source.SourceUnit.{SourceUnit}
use Rattle.jav_names.specs.LookUps.{import_of}
use Rattle.jav_names.specs.UnitViews.{header_of}
use Rattle.mol_resolve_rules.specs.ReadTrees.{name_before}
use Rattle.mol_resolve_names.proofs.lone_names_lemmas.FirstOutside.{import-first, written-first}
use Rattle.mol_resolve_names.proofs.lone_names.lone.outside.Goals as goal

pub returns-in_ok-outside_class-in-Some : goal.returns-in_ok-outside_class-in-Some
returns-in_ok-outside_class-in-Some c = λ source reader locals follow at begins.
    let there : slice_get c.scope.result.now c.args.class ≡ Some source =
    ap (λ (all : List SourceUnit). slice_get all c.args.class) c.scope.ensures ∙ at in
    ap (λ value. Some value) c.in_ok-outside_class-in-Some.ensures
    ∙ sym (ap (λ front. (name_before reader c.args.name.now locals front).value)
    (import-first (classes_in c.args.finder.now) (header_of (c.args.class, source.unit)) c.args.name.now follow c.in-Some.import.now
    (c.in-Some.ensures source there ∙ ap (import_of source.unit.imports) c.as_str.ensures) begins))

pub returns-in_ok-outside_name-in-None : goal.returns-in_ok-outside_name-in-None
returns-in_ok-outside_name-in-None c = λ source reader locals follow at begins.
    let there : slice_get c.scope.result.now c.args.class ≡ Some source =
    ap (λ (all : List SourceUnit). slice_get all c.args.class) c.scope.ensures ∙ at in
    ap (λ value. Some value) c.in_ok-outside_name-in-None.ensures
    ∙ sym (ap (λ front. (name_before reader c.args.name.now locals front).value)
    (written-first (classes_in c.args.finder.now) (header_of (c.args.class, source.unit)) c.args.name.now follow
    (c.in-None.ensures source there ∙ ap (import_of source.unit.imports) c.as_str.ensures) begins))
