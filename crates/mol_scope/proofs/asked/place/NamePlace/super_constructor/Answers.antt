use Rattle.std.proofs.Common.{◌∙◌, cond, None, sym, ap}
use Rattle.jav_scope.specs.Answers.{answered}
use Rattle.jav_scope.specs.Climbs.{above}
use Rattle.mol_scope.proofs.asked_lemmas.SupersAnswered.{answer_to, super-above, super-nothing, super-outside, supers}
use Rattle.mol_base.specs.declared.ident.Id.{Id}
use Rattle.mol_resolve_rules.specs.ProgramViews.{program_view}
use Rattle.mol_table_rules.specs.Program.{Program}
use Rattle.mol_scope.proofs.asked.place.NamePlace.super_constructor.Goals as goal

-- what `super(..)` reads as outside constructors, and in them
pub returns-then-not-self : goal.returns-then-not-self
returns-then-not-self c = λ locals.
    ap (λ b. cond b (answer_to c.args.self.now c.args.arity (supers c.args.self.now c.args.arity)) None) (sym c.if-not-self.true)

pub returns-in-Found : goal.returns-in-Found
returns-in-Found c = λ locals.
    let place = c.args.self.now in
    let up = c.in-Found.ensures
    ∙ ap (λ (p : Program). answered (λ (id : Id). id) (above (program_view p) place.variables.class)) c.table.ensures in
    c.constructor_of.ensures ∙ super-above place c.args.arity c.in-Found.above up
    ∙ ap (λ b. cond b (answer_to place c.args.arity (supers place c.args.arity)) None) (sym c.if-not-self.false)

pub returns-in-Outside : goal.returns-in-Outside
returns-in-Outside c = λ locals.
    let place = c.args.self.now in
    let up = c.in-Outside.ensures
    ∙ ap (λ (p : Program). answered (λ (id : Id). id) (above (program_view p) place.variables.class)) c.table.ensures in
    c.written.ensures ∙ super-outside place c.args.arity up
    ∙ ap (λ b. cond b (answer_to place c.args.arity (supers place c.args.arity)) None) (sym c.if-not-self.false)

pub returns-in-NotFound : goal.returns-in-NotFound
returns-in-NotFound c = λ locals.
    let place = c.args.self.now in
    let up = c.in-NotFound.ensures
    ∙ ap (λ (p : Program). answered (λ (id : Id). id) (above (program_view p) place.variables.class)) c.table.ensures in
    super-nothing place c.args.arity up
    ∙ ap (λ b. cond b (answer_to place c.args.arity (supers place c.args.arity)) None) (sym c.if-not-self.false)
