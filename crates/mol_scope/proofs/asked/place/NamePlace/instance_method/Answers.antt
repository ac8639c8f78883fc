use Rattle.std.proofs.Common.{◌∙◌}
use Rattle.jav_names.specs.LookUps.{method_from}
use Rattle.mol_scope.proofs.asked_lemmas.FoundMembers.{method-stands}
use Rattle.mol_scope.proofs.asked_lemmas.MembersAnswered.{method-on}
use Rattle.mol_scope.specs.asked.Places.{program_of}
use Rattle.mol_resolve_rules.specs.ProgramViews.{program_view}
use Rattle.mol_scope.proofs.asked.place.NamePlace.instance_method.Goals as goal

pub returns : goal.returns
returns c =
    let place = c.args.self.now in
    let read = method_from (program_view (program_of place)) c.args.class.now c.args.name.now c.args.arity in
    c.instance_only.ensures read (method-stands (program_of place) c.args.class.now c.args.name.now c.args.arity) c.method_of.ensures
    ∙ method-on place c.args.name.now read
