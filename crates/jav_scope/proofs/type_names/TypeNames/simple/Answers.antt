use Rattle.std.proofs.Common.{◌≡◌, ◌∙◌, ◌<◌, ◌++◌, ◌∷◌, List, length, get_or, sym, ap, subst, rules, refl, true, false, bytes_eq, Some, slice_get}
use Rattle.std.proofs.lemmas.Option.{get_or_from_slice_get}
use Rattle.jav_names.specs.DottedNames.{Name, dot}
use Rattle.jav_names.specs.LookUps.{class_named, class_or_written}
use Rattle.jav_names.specs.UnitViews.{class_of, header_of}
use Rattle.jav_scope.specs.Answers.{reading_of}
use Rattle.jav_scope.specs.Entries.{classes_in}
use Rattle.jav_scope.specs.declared.source.SourceUnit.{SourceUnit}
use Rattle.jav_scope.proofs.TypesFound.{simple-imported, simple-own, simple-near}
use Rattle.jav_scope.proofs.type_names.TypeNames.simple.Goals as goal

pub bounds-sources-unit : goal.bounds-sources-unit
bounds-sources-unit c = subst (λ (all : List SourceUnit). c.args.unit < length all) (sym c.self.view_is) c.requires

pub offset_bounds-sources-unit : goal.offset_bounds-sources-unit
offset_bounds-sources-unit c =
    let below : c.args.unit < length c.self.inside.sources.now =
    subst (λ (all : List SourceUnit). c.args.unit < length all) (sym c.self.view_is) c.requires in
    search rules

-- the import is what `class_or_imported` looks for
pub returns-in-Some : goal.returns-in-Some
returns-in-Some c = λ source at.
    c.class_or_imported.ensures
    ∙ simple-imported (classes_in c.args.self.now) (header_of (c.args.unit, source.unit)) c.args.name.now c.in-Some.full.now
    (c.in-Some.ensures source at)

-- the name of the class of the file, by the test of its bytes
pub returns-then-eq : goal.returns-then-eq
returns-then-eq c = λ source at.
    let sources : List SourceUnit = c.self.inside.sources.now in
    let name : Name = c.args.name.now in
    let here : slice_get sources c.args.unit ≡ Some source =
    ap (λ (all : List SourceUnit). slice_get all c.args.unit) c.self.view_is ∙ at in
    let is : get_or sources c.args.unit c.index-sources-unit.result ≡ source =
    get_or_from_slice_get sources c.args.unit source c.index-sources-unit.result here in
    let named : c.bytes.result.now ≡ source.unit.class.name = c.bytes.ensures.bytes ∙ ap (λ (s : SourceUnit). s.unit.class.name) is in
    let same : bytes_eq source.unit.class.name name ≡ true =
    sym (c.if-eq.ensures ∙ (λ i. bytes_eq (named i) (c.as_bytes.ensures.value i))) in
    simple-own (classes_in c.args.self.now) (header_of (c.args.unit, source.unit)) name (class_of (c.args.unit, source.unit)) refl
    (c.in_default.ensures source at) same

-- the package, a dot and the name
pub returns : goal.returns
returns c = λ source at.
    let sources : List SourceUnit = c.self.inside.sources.now in
    let name : Name = c.args.name.now in
    let here : slice_get sources c.args.unit ≡ Some source =
    ap (λ (all : List SourceUnit). slice_get all c.args.unit) c.self.view_is ∙ at in
    let is : get_or sources c.args.unit c.index-sources-unit.result ≡ source =
    get_or_from_slice_get sources c.args.unit source c.index-sources-unit.result here in
    let named : c.bytes.result.now ≡ source.unit.class.name = c.bytes.ensures.bytes ∙ ap (λ (s : SourceUnit). s.unit.class.name) is in
    let differs : bytes_eq source.unit.class.name name ≡ false =
    sym (c.if-eq.ensures ∙ (λ i. bytes_eq (named i) (c.as_bytes.ensures.value i))) in
    let front : c.bytes-2.result.now ≡ source.unit.«package» =
    c.bytes-2.ensures.bytes ∙ ap (λ (s : SourceUnit). s.unit.«package») is in
    c.class_or_written.ensures name
    ∙ (λ i. reading_of (class_or_written (class_named (classes_in c.args.self.now) (front i ++ dot ∷ c.as_bytes-2.ensures.value i)) name))
    ∙ simple-near (classes_in c.args.self.now) (header_of (c.args.unit, source.unit)) name (class_of (c.args.unit, source.unit)) refl
    (c.in_default.ensures source at) differs
