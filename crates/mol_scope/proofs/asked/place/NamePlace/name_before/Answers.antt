use Rattle.std.proofs.Common.{◌≡◌, ◌∙◌, ap, get_or, sym}
use Rattle.jav_names.specs.DottedNames.{Names}
use Rattle.mol_scope.proofs.asked_lemmas.NamesAnswered.{type-first, variable-first}
use Rattle.mol_scope.specs.asked.Places.{reader_of}
use Rattle.mol_spell_rules.specs.Answers.{before_answer}
use Rattle.mol_scope.proofs.asked.place.NamePlace.name_before.Goals as goal

pub returns-in-Variable : goal.returns-in-Variable
returns-in-Variable c = λ locals name follow at is.
    let place = c.args.self.now in
    let read = variable-first place locals at name follow c.in-Variable.variable (c.in-Variable.ensures name follow is) in
    c.variable.ensures locals read.0 at read.2
    ∙ sym (ap (before_answer (reader_of place) locals name) read.1)

pub returns-in-Type : goal.returns-in-Type
returns-in-Type c = λ locals name follow at is.
    let place = c.args.self.now in
    let front : c.as_str.result.now ≡ name =
    c.as_str.ensures ∙ c.index-names-0.is ∙ ap (λ (all : Names). get_or all 0 c.index-names-0.result) is in
    c.type_before.ensures place locals
    ∙ (λ i. before_answer (reader_of place) locals (front i)
    (type-first place locals at name follow c.in-Type.first (c.in-Type.ensures name follow is) i))
