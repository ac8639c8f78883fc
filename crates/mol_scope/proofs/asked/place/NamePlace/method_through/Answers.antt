use Rattle.std.proofs.Common.{◌∙◌, cond, None, Some, sym, ap}
use Rattle.jav_scope.specs.declared.found.Found.TheVariants as answer
use Rattle.mol_scope.proofs.asked_lemmas.MembersAnswered.{is_static_method, method-through}
use Rattle.mol_scope.specs.asked.Places.{program_of}
use Rattle.mol_base.specs.declared.ident.Id.{Id}
use Rattle.mol_spell_rules.specs.references.References.{method_target}
use Rattle.mol_resolve_rules.specs.ProgramViews.{method_at}
use Rattle.mol_scope.proofs.asked.place.NamePlace.method_through.Goals as goal

pub returns-then-is_static : goal.returns-then-is_static
returns-then-is_static c =
    let place = c.args.self.now in
    ap (λ (method : Id). Some (method_target method)) c.method_at-method.ensures
    ∙ ap (λ b. cond b (Some (method_target (method_at (program_of place) c.in-Found.declared))) None)
    (sym c.if-is_static.true ∙ c.is_static.ensures ∙ ap (is_static_method place) c.method_at-method.ensures)
    ∙ method-through place c.args.name.now c.args.class.now c.args.arity (answer.Found c.in-Found.declared) c.in-Found.ensures

pub returns-else-is_static : goal.returns-else-is_static
returns-else-is_static c =
    let place = c.args.self.now in
    ap (λ b. cond b (Some (method_target (method_at (program_of place) c.in-Found.declared))) None)
    (sym c.if-is_static.false ∙ c.is_static.ensures ∙ ap (is_static_method place) c.method_at-method.ensures)
    ∙ method-through place c.args.name.now c.args.class.now c.args.arity (answer.Found c.in-Found.declared) c.in-Found.ensures

pub returns-in-Outside : goal.returns-in-Outside
returns-in-Outside c =
    method-through c.args.self.now c.args.name.now c.args.class.now c.args.arity answer.Outside c.in-Outside.ensures

pub returns-in-NotFound : goal.returns-in-NotFound
returns-in-NotFound c =
    method-through c.args.self.now c.args.name.now c.args.class.now c.args.arity answer.NotFound c.in-NotFound.ensures
