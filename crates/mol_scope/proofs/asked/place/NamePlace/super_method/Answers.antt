use Rattle.jav_names.specs.LookUps.{super_method}
use Rattle.mol_scope.proofs.asked_lemmas.FoundMembers.{super_method-stands}
use Rattle.mol_scope.specs.asked.Places.{program_of}
use Rattle.mol_resolve_rules.specs.ProgramViews.{program_view}
use Rattle.mol_scope.proofs.asked.place.NamePlace.super_method.Goals as goal

pub returns : goal.returns
returns c = λ locals.
    let place = c.args.self.now in
    c.instance_only.ensures (super_method (program_view (program_of place)) place.variables.class c.args.name.now c.args.arity)
    (super_method-stands (program_of place) place.variables.class c.args.name.now c.args.arity) c.super_method.ensures
