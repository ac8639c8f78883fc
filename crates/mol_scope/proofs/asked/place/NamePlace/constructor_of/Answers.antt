use Rattle.std.proofs.Common.{◌∙◌, Option, Some, None, sym, ap}
use Rattle.jav_scope.specs.declared.found.Found.TheVariants as answer
use Rattle.mol_scope.proofs.asked_lemmas.MembersAnswered.{constructor-is}
use Rattle.mol_base.specs.declared.ident.Id.{Id}
use Rattle.mol_spell_rules.specs.references.References.{method_target}
use Rattle.mol_scope.proofs.asked.place.NamePlace.constructor_of.Goals as goal

pub returns-in-Found-Some : goal.returns-in-Found-Some
returns-in-Found-Some c =
    ap (λ method. Some (method_target method)) c.method_at.ensures
    ∙ constructor-is c.args.self.now c.args.name.now c.args.class.now c.args.arity (answer.Found (Some c.in-Found-Some.declared))
    (ap (λ (o : Option Id). answer.Found o) (sym c.in-Found-Some.field-0-is) ∙ c.in-Found-Some.ensures)

pub returns-in-Found-None : goal.returns-in-Found-None
returns-in-Found-None c = constructor-is c.args.self.now c.args.name.now c.args.class.now c.args.arity (answer.Found None)
    (ap (λ (o : Option Id). answer.Found o) (sym c.in-Found-None.field-0-is) ∙ c.in-Found-None.ensures)

pub returns-in-Outside : goal.returns-in-Outside
returns-in-Outside c =
    c.written.ensures
    ∙ constructor-is c.args.self.now c.args.name.now c.args.class.now c.args.arity answer.Outside c.in-Outside.ensures

pub returns-in-NotFound : goal.returns-in-NotFound
returns-in-NotFound c = constructor-is c.args.self.now c.args.name.now c.args.class.now c.args.arity answer.NotFound c.in-NotFound.ensures
