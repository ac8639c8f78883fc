use Rattle.jav_scope.specs.declared.found.Found.TheVariants as answer
use Rattle.jav_names.specs.LookUps.{first_place, last_place, field_from}
use Rattle.mol_resolve_rules.specs.ProgramViews.{program_view}
use Rattle.mol_scope.proofs.variables_lemmas.VariablesFound.{is-in-scope, is-field}
use Rattle.mol_scope.proofs.variables.place.VariablePlace.variable.Goals as goal

pub returns-in-Some : goal.returns-in-Some
returns-in-Some c = λ header.
    is-in-scope (field_from (program_view c.args.self.now.members.now) c.args.self.now.class c.args.name.now)
    (last_place c.args.name.now c.args.self.now.locals.now) (first_place c.args.name.now c.args.self.now.params.now)
    c.in-Some.variable c.in-Some.ensures

pub returns-in-Found : goal.returns-in-Found
returns-in-Found c = λ header.
    is-field (field_from (program_view c.args.self.now.members.now) c.args.self.now.class c.args.name.now)
    (last_place c.args.name.now c.args.self.now.locals.now) (first_place c.args.name.now c.args.self.now.params.now)
    (answer.Found c.in-Found.field) c.in_default.ensures c.in-Found.ensures

pub returns-in-Outside : goal.returns-in-Outside
returns-in-Outside c = λ header.
    is-field (field_from (program_view c.args.self.now.members.now) c.args.self.now.class c.args.name.now)
    (last_place c.args.name.now c.args.self.now.locals.now) (first_place c.args.name.now c.args.self.now.params.now)
    answer.Outside c.in_default.ensures c.in-Outside.ensures

pub returns-in-NotFound : goal.returns-in-NotFound
returns-in-NotFound c = λ header.
    is-field (field_from (program_view c.args.self.now.members.now) c.args.self.now.class c.args.name.now)
    (last_place c.args.name.now c.args.self.now.locals.now) (first_place c.args.name.now c.args.self.now.params.now)
    answer.NotFound c.in_default.ensures c.in-NotFound.ensures
