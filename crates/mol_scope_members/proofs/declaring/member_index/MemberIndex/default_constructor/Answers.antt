use Rattle.std.proofs.Common.{true, false, Some, None, subst, refl}
use Rattle.mol_scope_members.specs.declaring.Indexed.{AreIndexed}
use Rattle.mol_scope_members.proofs.declaring_lemmas.ConstructorsFound.{default-by}
use Rattle.mol_scope_members.proofs.declaring.member_index.MemberIndex.default_constructor.Goals as goal

pub returns-in-Some : goal.returns-in-Some
returns-in-Some c =
    let indexed = subst (AreIndexed c.self.inside.members) c.self.view_is c.self.invariant.0 in
    default-by c.args.self.now c.self.inside.members indexed c.args.class.now (Some c.in-Some.field-0) c.in-Some.ensures true refl

pub returns-in-None : goal.returns-in-None
returns-in-None c =
    let indexed = subst (AreIndexed c.self.inside.members) c.self.view_is c.self.invariant.0 in
    default-by c.args.self.now c.self.inside.members indexed c.args.class.now None c.in-None.ensures false refl
