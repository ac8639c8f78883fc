use Rattle.std.proofs.Common.{◌∙◌}
use Rattle.mol_scope.proofs.asked_lemmas.NamesAnswered.{nothing-alone, outside-alone, variable-alone}
use Rattle.mol_scope.specs.asked.Answers.{answer_of}
use Rattle.mol_scope.specs.asked.Places.{program_of}
use Rattle.mol_resolve_rules.specs.ProgramReaders.{class_header}
use Rattle.mol_scope.proofs.asked.place.NamePlace.name_alone.Goals as goal

pub returns-in-Found : goal.returns-in-Found
returns-in-Found c = λ locals at.
    let place = c.args.self.now in
    let header = class_header (program_of place) place.variables.class place.imports.now in
    variable-alone place locals at c.args.name.now c.in-Found.variable (answer_of c.variable-in-Found.result) (c.in-Found.ensures header)
    (λ read is. c.variable-in-Found.ensures locals read at is)

pub returns-in-Outside : goal.returns-in-Outside
returns-in-Outside c = λ locals at.
    let place = c.args.self.now in
    let header = class_header (program_of place) place.variables.class place.imports.now in
    c.written.ensures ∙ outside-alone place locals at c.args.name.now (c.in-Outside.ensures header)

pub returns-in-NotFound : goal.returns-in-NotFound
returns-in-NotFound c = λ locals at.
    let place = c.args.self.now in
    let header = class_header (program_of place) place.variables.class place.imports.now in
    nothing-alone place locals at c.args.name.now (c.in-NotFound.ensures header)
