use Rattle.std.proofs.Common.{◌∙◌, Some, ap}
use Rattle.jav_scope.specs.declared.found.Found.TheVariants as answer
use Rattle.jav_names.specs.LookUps.{method_from}
use Rattle.mol_scope.proofs.asked_lemmas.MembersAnswered.{call-is}
use Rattle.mol_scope.specs.asked.Places.{program_of}
use Rattle.mol_spell_rules.specs.references.References.{method_target, outside_target}
use Rattle.mol_resolve_rules.specs.ProgramViews.{program_view}
use Rattle.mol_scope.proofs.asked.place.NamePlace.call.Goals as goal

pub returns-in-Found : goal.returns-in-Found
returns-in-Found c = λ locals.
    let place = c.args.self.now in
    let read = method_from (program_view (program_of place)) place.variables.class c.args.name.now c.args.arity in
    ap (λ method. Some (method_target method)) c.method_at.ensures
    ∙ call-is place c.args.name.now read (answer.Found c.in-Found.declared) c.in-Found.ensures

pub returns-in-Outside : goal.returns-in-Outside
returns-in-Outside c = λ locals.
    let place = c.args.self.now in
    let read = method_from (program_view (program_of place)) place.variables.class c.args.name.now c.args.arity in
    c.written.ensures ∙ ap (λ text. Some (outside_target text)) c.as_str.ensures
    ∙ call-is place c.args.name.now read answer.Outside c.in-Outside.ensures

pub returns-in-NotFound : goal.returns-in-NotFound
returns-in-NotFound c = λ locals.
    let place = c.args.self.now in
    let read = method_from (program_view (program_of place)) place.variables.class c.args.name.now c.args.arity in
    call-is place c.args.name.now read answer.NotFound c.in-NotFound.ensures
