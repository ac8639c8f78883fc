use Rattle.std.proofs.Common.{◌∙◌, sym, ap}
use Rattle.jav_names.specs.LookUps.{first_place, last_place}
use Rattle.mol_resolve_rules.specs.ProgramViews.{program_view}
use Rattle.mol_scope.proofs.variables_lemmas.NoField.{scope-alone}
use Rattle.mol_scope.proofs.variables.place.VariablePlace.found.Goals as goal
use Rattle.mol_scope.specs.variables.Keys.{found_in}

pub returns-then-is_field_name : goal.returns-then-is_field_name
returns-then-is_field_name c = λ header. c.found_in.ensures ∙ ap found_in (c.variable.ensures header)

pub returns-else-is_field_name : goal.returns-else-is_field_name
returns-else-is_field_name c = λ header.
    c.in_scope.ensures
    ∙ scope-alone (program_view c.args.self.now.members.now) c.args.self.now.class c.args.name.now
    (sym c.is_field_name.ensures ∙ c.if-is_field_name.false)
    (last_place c.args.name.now c.args.self.now.locals.now) (first_place c.args.name.now c.args.self.now.params.now)
