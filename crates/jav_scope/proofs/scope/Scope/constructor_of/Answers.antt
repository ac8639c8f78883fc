use Rattle.std.proofs.Common.{◌∙◌, ap, sym, subst, Some}
use Rattle.jav_scope.specs.Entries.{view_in}
use Rattle.jav_scope.specs.MemberLists.{AreIndexed}
use Rattle.jav_scope.specs.declared.found.Found.TheVariants as answer
use Rattle.jav_scope.proofs.FoundConstructors.{constructor-found, by-default, no-default}
use Rattle.jav_scope.proofs.scope.Scope.constructor_of.Goals as goal

pub returns-in-Some : goal.returns-in-Some
returns-in-Some c =
    let indexed = subst (λ all. AreIndexed c.self.inside.members (view_in all)) c.self.view_is c.self.invariant.members in
    ap (λ member. answer.Found (Some member)) c.member_of.ensures
    ∙ constructor-found c.args.self.now c.self.inside.members indexed c.args.class c.args.arity c.in-Some.entry.now (sym c.in-Some.ensures)

pub returns-in-None : goal.returns-in-None
returns-in-None c =
    let indexed = subst (λ all. AreIndexed c.self.inside.members (view_in all)) c.self.view_is c.self.invariant.members in
    c.default_constructor.ensures
    ∙ by-default c.args.self.now c.self.inside.members indexed c.args.class c.args.arity (sym c.in-None.ensures) c.if-arity-eq0.true

pub returns-in-None-2 : goal.returns-in-None-2
returns-in-None-2 c =
    let indexed = subst (λ all. AreIndexed c.self.inside.members (view_in all)) c.self.view_is c.self.invariant.members in
    no-default c.args.self.now c.self.inside.members indexed c.args.class c.args.arity (sym c.in-None-2.ensures) c.if-arity-eq0.false
