use Rattle.std.proofs.Common.{◌∙◌, cond, None, Some, sym, ap}
use Rattle.jav_scope.specs.declared.found.Found.TheVariants as answer
use Rattle.mol_scope.proofs.asked_lemmas.MembersAnswered.{instance-is, is_static_method}
use Rattle.mol_scope.specs.asked.Places.{program_of}
use Rattle.mol_base.specs.declared.ident.Id.{Id}
use Rattle.mol_spell_rules.specs.references.References.{method_target, outside_target}
use Rattle.mol_resolve_rules.specs.ProgramViews.{method_at}
use Rattle.mol_scope.proofs.asked.place.NamePlace.instance_only.Goals as goal

pub returns-then-is_static : goal.returns-then-is_static
returns-then-is_static c = λ read stands is.
    let place = c.args.self.now in
    ap (λ b. cond b None (Some (method_target (method_at (program_of place) c.in-Found.declared))))
    (sym c.if-is_static.true ∙ c.is_static.ensures ∙ ap (is_static_method place) c.method_at-method.ensures)
    ∙ instance-is place c.args.name.now read stands (answer.Found c.in-Found.declared) (sym c.in-Found.is ∙ is)

pub returns-else-is_static : goal.returns-else-is_static
returns-else-is_static c = λ read stands is.
    let place = c.args.self.now in
    ap (λ (method : Id). Some (method_target method)) c.method_at-method.ensures
    ∙ ap (λ b. cond b None (Some (method_target (method_at (program_of place) c.in-Found.declared))))
    (sym c.if-is_static.false ∙ c.is_static.ensures ∙ ap (is_static_method place) c.method_at-method.ensures)
    ∙ instance-is place c.args.name.now read stands (answer.Found c.in-Found.declared) (sym c.in-Found.is ∙ is)

pub returns-in-Outside : goal.returns-in-Outside
returns-in-Outside c = λ read stands is.
    c.written.ensures ∙ ap (λ text. Some (outside_target text)) c.as_str.ensures
    ∙ instance-is c.args.self.now c.args.name.now read stands answer.Outside (sym c.in-Outside.is ∙ is)

pub returns-in-NotFound : goal.returns-in-NotFound
returns-in-NotFound c = λ read stands is.
    instance-is c.args.self.now c.args.name.now read stands answer.NotFound (sym c.in-NotFound.is ∙ is)
