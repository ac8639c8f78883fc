use Rattle.std.proofs.Common.{◌≡◌, ◌∙◌, ◌<◌, List, length, sym, ap, find, get_or, subst, rules, Some, None, slice_get}
use Rattle.std.proofs.lemmas.Option.{get_or_from_slice_get}
use Rattle.jav_names.specs.DottedNames.{Name, Names}
use Rattle.jav_names.specs.index.Seeking.{is_sought}
use Rattle.jav_scope.specs.declared.source.SourceUnit.{SourceUnit}
use Rattle.jav_scope.proofs.Finding.{lent-at}
use Rattle.jav_scope.proofs.NamesFound.{import-there, import-nowhere}
use Rattle.jav_scope.proofs.type_names.TypeNames.import_of.Goals as goal

pub bounds-sources-unit : goal.bounds-sources-unit
bounds-sources-unit c = subst (λ (all : List SourceUnit). c.args.unit < length all) (sym c.self.view_is) c.requires

pub offset_bounds-sources-unit : goal.offset_bounds-sources-unit
offset_bounds-sources-unit c =
    let below : c.args.unit < length c.self.inside.sources.now =
    subst (λ (all : List SourceUnit). c.args.unit < length all) (sym c.self.view_is) c.requires in
    search rules

pub returns-in-Some : goal.returns-in-Some
returns-in-Some c = λ source at.
    let sources : List SourceUnit = c.self.inside.sources.now in
    let name : Name = c.args.name.now in
    let here : slice_get sources c.args.unit ≡ Some source = ap (λ (all : List SourceUnit). slice_get all c.args.unit) c.self.view_is
    ∙ at in
    let own : get_or sources c.args.unit c.index-sources-unit.result ≡ source =
    get_or_from_slice_get sources c.args.unit source c.index-sources-unit.result here in
    let imports : c.items-imports.result.now ≡ source.unit.imports = c.items-imports.ensures
    ∙ ap (λ (s : SourceUnit). s.unit.imports) own in
    let sought : find (is_sought c.args.unit 0 name) c.self.inside.imports ≡ Some c.in-Some.entry.now =
    sym (c.in-Some.ensures ∙ ap (λ text. find (is_sought c.args.unit 0 text) c.self.inside.imports) c.as_bytes.ensures.value) in
    lent-at c.items-imports.result.now c.in-Some.entry.now.place c.get.result c.get.ensures.lookup
    ∙ ap (λ (all : Names). slice_get all c.in-Some.entry.now.place) imports
    ∙ import-there name sources c.self.inside.imports c.self.invariant.imports c.args.unit source here c.in-Some.entry.now sought

pub returns-in-None : goal.returns-in-None
returns-in-None c = λ source at.
    let sources : List SourceUnit = c.self.inside.sources.now in
    let name : Name = c.args.name.now in
    let here : slice_get sources c.args.unit ≡ Some source = ap (λ (all : List SourceUnit). slice_get all c.args.unit) c.self.view_is
    ∙ at in
    let sought : find (is_sought c.args.unit 0 name) c.self.inside.imports ≡ None =
    sym (c.in-None.ensures ∙ ap (λ text. find (is_sought c.args.unit 0 text) c.self.inside.imports) c.as_bytes.ensures.value) in
    sym (import-nowhere name sources c.self.inside.imports c.self.invariant.imports c.args.unit source here sought)
