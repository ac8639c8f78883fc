use Rattle.jav_names.specs.LookUps.{first_place, last_place, field_from}
use Rattle.jav_scope.specs.Entries.{view_in}
use Rattle.jav_scope.proofs.VariablesFound.{is-local, is-parameter, is-field, is-outside, is-nothing}
use Rattle.jav_scope.proofs.scope.Scope.variable.Goals as goal

pub returns-in-Some : goal.returns-in-Some
returns-in-Some c = λ source at.
    is-local (last_place c.args.name.now c.args.locals.now) (first_place c.args.name.now c.args.params.now)
    (field_from (view_in c.args.self.now) c.args.unit c.args.name.now) c.in-Some.place c.in-Some.ensures

pub returns-in-Some-first_place : goal.returns-in-Some-first_place
returns-in-Some-first_place c = λ source at.
    is-parameter (last_place c.args.name.now c.args.locals.now) (first_place c.args.name.now c.args.params.now)
    (field_from (view_in c.args.self.now) c.args.unit c.args.name.now) c.in-Some-first_place.place c.in_default.ensures
    c.in-Some-first_place.ensures

pub returns-in-Found : goal.returns-in-Found
returns-in-Found c = λ source at.
    is-field (last_place c.args.name.now c.args.locals.now) (first_place c.args.name.now c.args.params.now)
    (field_from (view_in c.args.self.now) c.args.unit c.args.name.now) c.in_default.ensures c.in_default-first_place.ensures
    c.in-Found.field c.in-Found.ensures

pub returns-in-Outside : goal.returns-in-Outside
returns-in-Outside c = λ source at.
    is-outside (last_place c.args.name.now c.args.locals.now) (first_place c.args.name.now c.args.params.now)
    (field_from (view_in c.args.self.now) c.args.unit c.args.name.now) c.in_default.ensures c.in_default-first_place.ensures
    c.in-Outside.ensures

pub returns-in-NotFound : goal.returns-in-NotFound
returns-in-NotFound c = λ source at.
    is-nothing (last_place c.args.name.now c.args.locals.now) (first_place c.args.name.now c.args.params.now)
    (field_from (view_in c.args.self.now) c.args.unit c.args.name.now) c.in_default.ensures c.in_default-first_place.ensures
    c.in-NotFound.ensures
