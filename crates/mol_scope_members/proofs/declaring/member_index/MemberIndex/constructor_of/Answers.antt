use Rattle.std.proofs.Common.{◌∙◌, subst}
use Rattle.mol_scope_members.specs.declaring.Indexed.{AreIndexed}
use Rattle.mol_scope_members.proofs.declaring_lemmas.ConstructorsFound.{constructor-found, by-default, no-default}
use Rattle.mol_scope_members.proofs.declaring.member_index.MemberIndex.constructor_of.Goals as goal

pub returns-in-Some : goal.returns-in-Some
returns-in-Some c =
    let indexed = subst (AreIndexed c.self.inside.members) c.self.view_is c.self.invariant.0 in
    constructor-found c.args.self.now c.self.inside.members indexed c.args.class.now c.args.arity c.in-Some.declared c.in-Some.ensures

pub returns-in-None : goal.returns-in-None
returns-in-None c =
    let indexed = subst (AreIndexed c.self.inside.members) c.self.view_is c.self.invariant.0 in
    c.default_constructor.ensures
    ∙ by-default c.args.self.now c.self.inside.members indexed c.args.class.now c.args.arity c.in-None.ensures c.if-arity-eq0.true

pub returns-in-None-2 : goal.returns-in-None-2
returns-in-None-2 c =
    let indexed = subst (AreIndexed c.self.inside.members) c.self.view_is c.self.invariant.0 in
    no-default c.args.self.now c.self.inside.members indexed c.args.class.now c.args.arity c.in-None-2.ensures c.if-arity-eq0.false
