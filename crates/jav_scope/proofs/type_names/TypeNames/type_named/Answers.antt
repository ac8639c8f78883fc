use Rattle.std.proofs.Common.{◌∙◌, Some, None, sym, ap, lit<}
use Rattle.std.proofs.lemmas.Str.Pattern.{split_parts}
use Rattle.jav_names.specs.DottedNames.{cut}
use Rattle.jav_names.specs.LookUps.{class_named, class_or_written, simple_type, type_named}
use Rattle.jav_names.specs.UnitViews.{header_of}
use Rattle.jav_scope.specs.Answers.{reading_answered, type_answered}
use Rattle.jav_scope.specs.Entries.{classes_in}
use Rattle.jav_scope.proofs.CutTexts.{read-simple, read-more}
use Rattle.jav_scope.proofs.TypesFound.{answered-reading, more-imported, more-written, more-class, more-nothing}
use Rattle.jav_scope.proofs.type_names.TypeNames.type_named.Goals as goal

-- there is no dot
pub returns-in_default : goal.returns-in_default
returns-in_default c = λ source at.
    let classes = classes_in c.args.self.now in
    let header = header_of (c.args.unit, source.unit) in
    let text = c.as_str-text.result.now in
    let none = split_parts 46 text None c.in_default.ensures.cases (lit< tt) in
    c.answer.ensures ∙ ap reading_answered (c.simple.ensures source at) ∙ answered-reading (simple_type classes header text)
    ∙ ap type_answered (sym (read-simple classes header text none))
    ∙ ap (λ t. type_answered (type_named classes header (cut t).first (cut t).rest)) c.as_str-text.ensures

-- what the first name reads as, and then the rest of the text
pub returns-in-Imported : goal.returns-in-Imported
returns-in-Imported c = λ source at.
    let classes = classes_in c.args.self.now in
    let header = header_of (c.args.unit, source.unit) in
    let first = c.in-Some.first.now in
    let rest = c.in-Some._rest.now in
    let parts = split_parts 46 c.as_str-text.result.now (Some (c.in-Some.first, c.in-Some._rest)) c.in-Some.ensures.cases (lit< tt) in
    more-imported classes c.args.name.now rest (simple_type classes header first) (c.in-Imported.ensures source at)
    ∙ ap type_answered (sym (read-more classes header c.args.name.now first rest (sym c.as_str-text.ensures ∙ parts.0) parts.1))

pub returns-in-Written : goal.returns-in-Written
returns-in-Written c = λ source at.
    let classes = classes_in c.args.self.now in
    let header = header_of (c.args.unit, source.unit) in
    let name = c.args.name.now in
    let first = c.in-Some.first.now in
    let rest = c.in-Some._rest.now in
    let parts = split_parts 46 c.as_str-text.result.now (Some (c.in-Some.first, c.in-Some._rest)) c.in-Some.ensures.cases (lit< tt) in
    c.answer-in-Written.ensures ∙ ap reading_answered (c.class_or_written.ensures name)
    ∙ answered-reading (class_or_written (class_named classes c.bytes.result.now) name)
    ∙ ap (λ t. type_answered (class_or_written (class_named classes t) name)) c.bytes.ensures.bytes
    ∙ more-written classes name rest (simple_type classes header first) (c.in-Written.ensures source at)
    ∙ ap type_answered (sym (read-more classes header name first rest (sym c.as_str-text.ensures ∙ parts.0) parts.1))

pub returns-in-Class : goal.returns-in-Class
returns-in-Class c = λ source at.
    let classes = classes_in c.args.self.now in
    let header = header_of (c.args.unit, source.unit) in
    let first = c.in-Some.first.now in
    let rest = c.in-Some._rest.now in
    let parts = split_parts 46 c.as_str-text.result.now (Some (c.in-Some.first, c.in-Some._rest)) c.in-Some.ensures.cases (lit< tt) in
    more-class classes c.args.name.now rest (simple_type classes header first) c.in-Class.field-0 (c.in-Class.ensures source at)
    ∙ ap type_answered (sym (read-more classes header c.args.name.now first rest (sym c.as_str-text.ensures ∙ parts.0) parts.1))

pub returns-in-Nothing : goal.returns-in-Nothing
returns-in-Nothing c = λ source at.
    let classes = classes_in c.args.self.now in
    let header = header_of (c.args.unit, source.unit) in
    let first = c.in-Some.first.now in
    let rest = c.in-Some._rest.now in
    let parts = split_parts 46 c.as_str-text.result.now (Some (c.in-Some.first, c.in-Some._rest)) c.in-Some.ensures.cases (lit< tt) in
    more-nothing classes c.args.name.now rest (simple_type classes header first) (c.in-Nothing.ensures source at)
    ∙ ap type_answered (sym (read-more classes header c.args.name.now first rest (sym c.as_str-text.ensures ∙ parts.0) parts.1))
