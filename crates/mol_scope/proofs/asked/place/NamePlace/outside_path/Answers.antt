use Rattle.std.proofs.Common.{◌∙◌, ◌++◌, ap, sym}
use Rattle.mol_scope.proofs.asked_lemmas.NamesAnswered.{type-first, variable-first}
use Rattle.mol_scope.specs.asked.Answers.{dotted_of}
use Rattle.mol_scope.specs.asked.Places.{reader_of}
use Rattle.mol_spell_rules.specs.Answers.{path_answer}
use Rattle.mol_scope.proofs.asked.place.NamePlace.outside_path.Goals as goal

pub returns-in-Variable : goal.returns-in-Variable
returns-in-Variable c = λ locals follow at is.
    let place = c.args.self.now in
    let names = dotted_of c.args.path in
    let read = variable-first place locals at names.first (names.rest ++ follow) _
    (c.in-Variable.ensures names.first (names.rest ++ follow) is) in
    sym (ap (path_answer (reader_of place) names) read.1)

pub returns-in-Type : goal.returns-in-Type
returns-in-Type c = λ locals follow at is.
    let place = c.args.self.now in
    let names = dotted_of c.args.path in
    c.outside.ensures place
    ∙ ap (path_answer (reader_of place) names)
    (type-first place locals at names.first (names.rest ++ follow) c.in-Type.first
    (c.in-Type.ensures names.first (names.rest ++ follow) is))
