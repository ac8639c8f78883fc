use Rattle.std.proofs.Common.{◌∙◌, ap}
use Rattle.mol_scope.proofs.asked_lemmas.PlacesRead.{type-is}
use Rattle.mol_scope.specs.asked.Places.{reader_of}
use Rattle.mol_spell_rules.specs.Answers.{type_answer}
use Rattle.mol_scope.proofs.asked.place.NamePlace.type_named.Goals as goal

pub returns-in-Class : goal.returns-in-Class
returns-in-Class c = λ locals.
    let place = c.args.self.now in
    ap (type_answer (reader_of place))
    (c.in-Class.ensures ∙ type-is place c.file.result c.file.ensures.classes c.file.ensures.class c.file.ensures.imports c.args.text.now)

pub returns-in-Imported : goal.returns-in-Imported
returns-in-Imported c = λ locals.
    let place = c.args.self.now in
    c.imported.ensures
    ∙ ap (type_answer (reader_of place))
    (c.in-Imported.ensures ∙ type-is place c.file.result c.file.ensures.classes c.file.ensures.class c.file.ensures.imports c.args.text.now)

pub returns-in-Written : goal.returns-in-Written
returns-in-Written c = λ locals.
    let place = c.args.self.now in
    c.written.ensures
    ∙ ap (type_answer (reader_of place))
    (c.in-Written.ensures ∙ type-is place c.file.result c.file.ensures.classes c.file.ensures.class c.file.ensures.imports c.args.text.now)

pub returns-in-Nothing : goal.returns-in-Nothing
returns-in-Nothing c = λ locals.
    let place = c.args.self.now in
    ap (type_answer (reader_of place))
    (c.in-Nothing.ensures ∙ type-is place c.file.result c.file.ensures.classes c.file.ensures.class c.file.ensures.imports c.args.text.now)
