use Rattle.std.proofs.Common.{◌∙◌, Some, None, sym, ap, lit<}
use Rattle.std.proofs.lemmas.Str.Pattern.{split_parts}
use Rattle.jav_scope.proofs.CutTexts.{with_rest, read-simple, read-more}
use Rattle.jav_names.specs.DottedNames.{Name}
use Rattle.jav_names.specs.LookUps.{class_named, class_or_written}
use Rattle.mol_scope.specs.typenames.Readings.{classes_of, header_of}
use Rattle.mol_scope.proofs.typenames.class_file.ClassFile.type_named.Goals as goal

-- there is no dot
pub returns-in_default : goal.returns-in_default
returns-in_default c =
    let file = c.args.self.now in
    let none = split_parts 46 c.args.text.now None c.in_default.ensures.cases (lit< tt) in
    c.simple.ensures ∙ sym (read-simple (classes_of file) (header_of file) c.args.text.now none)

pub returns-in-Imported : goal.returns-in-Imported
returns-in-Imported c =
    let file = c.args.self.now in
    let text = c.args.text.now in
    let first = c.in-Some.first.now in
    let rest = c.in-Some.rest.now in
    let parts = split_parts 46 text (Some (c.in-Some.first, c.in-Some.rest)) c.in-Some.ensures.cases (lit< tt) in
    ap (with_rest (classes_of file) text rest) c.in-Imported.ensures
    ∙ sym (read-more (classes_of file) (header_of file) text first rest parts.0 parts.1)

-- the whole text may be the full name of a class
pub returns-in-Written : goal.returns-in-Written
returns-in-Written c =
    let file = c.args.self.now in
    let text = c.args.text.now in
    let first = c.in-Some.first.now in
    let rest = c.in-Some.rest.now in
    let parts = split_parts 46 text (Some (c.in-Some.first, c.in-Some.rest)) c.in-Some.ensures.cases (lit< tt) in
    c.class_or_written.ensures text
    ∙ ap (λ (name : Name). class_or_written (class_named (classes_of file) name) text) c.as_bytes.ensures.value
    ∙ ap (with_rest (classes_of file) text rest) c.in-Written.ensures
    ∙ sym (read-more (classes_of file) (header_of file) text first rest parts.0 parts.1)

pub returns-in-Class : goal.returns-in-Class
returns-in-Class c =
    let file = c.args.self.now in
    let text = c.args.text.now in
    let first = c.in-Some.first.now in
    let rest = c.in-Some.rest.now in
    let parts = split_parts 46 text (Some (c.in-Some.first, c.in-Some.rest)) c.in-Some.ensures.cases (lit< tt) in
    ap (with_rest (classes_of file) text rest) c.in-Class.ensures
    ∙ sym (read-more (classes_of file) (header_of file) text first rest parts.0 parts.1)

pub returns-in-Nothing : goal.returns-in-Nothing
returns-in-Nothing c =
    let file = c.args.self.now in
    let text = c.args.text.now in
    let first = c.in-Some.first.now in
    let rest = c.in-Some.rest.now in
    let parts = split_parts 46 text (Some (c.in-Some.first, c.in-Some.rest)) c.in-Some.ensures.cases (lit< tt) in
    ap (with_rest (classes_of file) text rest) c.in-Nothing.ensures
    ∙ sym (read-more (classes_of file) (header_of file) text first rest parts.0 parts.1)
