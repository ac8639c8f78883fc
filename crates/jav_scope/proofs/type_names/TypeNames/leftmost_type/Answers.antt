use Rattle.std.proofs.Common.{◌≡◌, ◌∙◌, ap, get_or}
use Rattle.jav_names.specs.DottedNames.{Names}
use Rattle.jav_names.specs.LookUps.{simple_type}
use Rattle.jav_names.specs.UnitViews.{header_of}
use Rattle.jav_scope.specs.Answers.{reading_of}
use Rattle.jav_scope.specs.Entries.{classes_in}
use Rattle.jav_scope.proofs.LeftmostFound.{first-class, first-imported, first-written, first-nothing}
use Rattle.jav_scope.proofs.type_names.TypeNames.leftmost_type.Goals as goal

pub returns-in-Class : goal.returns-in-Class
returns-in-Class c = λ source first rest at is.
    let classes = classes_in c.args.self.now in
    let header = header_of (c.args.unit, source.unit) in
    let name : c.as_str.result.now ≡ first =
    c.as_str.ensures ∙ c.index-names-0.is ∙ ap (λ (all : Names). get_or all 0 c.index-names-0.result) is in
    first-class classes first rest (simple_type classes header first) c.in-Class.class
    (c.in-Class.ensures source at ∙ ap (λ n. reading_of (simple_type classes header n)) name)

pub returns-in-Imported : goal.returns-in-Imported
returns-in-Imported c = λ source first rest at is.
    let classes = classes_in c.args.self.now in
    let header = header_of (c.args.unit, source.unit) in
    let name : c.as_str.result.now ≡ first =
    c.as_str.ensures ∙ c.index-names-0.is ∙ ap (λ (all : Names). get_or all 0 c.index-names-0.result) is in
    first-imported classes first rest (simple_type classes header first)
    (c.in-Imported.ensures source at ∙ ap (λ n. reading_of (simple_type classes header n)) name)

pub returns-in-Written : goal.returns-in-Written
returns-in-Written c = λ source first rest at is.
    let classes = classes_in c.args.self.now in
    let header = header_of (c.args.unit, source.unit) in
    let name : c.as_str.result.now ≡ first =
    c.as_str.ensures ∙ c.index-names-0.is ∙ ap (λ (all : Names). get_or all 0 c.index-names-0.result) is in
    c.fewest.ensures first rest is
    ∙ first-written classes first rest (simple_type classes header first)
    (c.in-Written.ensures source at ∙ ap (λ n. reading_of (simple_type classes header n)) name)

pub returns-in-Nothing : goal.returns-in-Nothing
returns-in-Nothing c = λ source first rest at is.
    let classes = classes_in c.args.self.now in
    let header = header_of (c.args.unit, source.unit) in
    let name : c.as_str.result.now ≡ first =
    c.as_str.ensures ∙ c.index-names-0.is ∙ ap (λ (all : Names). get_or all 0 c.index-names-0.result) is in
    first-nothing classes first rest (simple_type classes header first)
    (c.in-Nothing.ensures source at ∙ ap (λ n. reading_of (simple_type classes header n)) name)
