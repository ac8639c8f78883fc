use Rattle.std.proofs.Common.{true, false, Some, None, subst, refl}
use Rattle.jav_scope.specs.Entries.{view_in}
use Rattle.jav_scope.specs.MemberLists.{AreIndexed}
use Rattle.jav_scope.proofs.FoundConstructors.{default-by}
use Rattle.jav_scope.proofs.scope.Scope.default_constructor.Goals as goal

pub returns-in-Some : goal.returns-in-Some
returns-in-Some c =
    let indexed = subst (λ all. AreIndexed c.self.inside.members (view_in all)) c.self.view_is c.self.invariant.members in
    default-by c.args.self.now c.self.inside.members indexed c.args.class (Some c.in-Some.field-0.now) c.in-Some.ensures true refl

pub returns-in-None : goal.returns-in-None
returns-in-None c =
    let indexed = subst (λ all. AreIndexed c.self.inside.members (view_in all)) c.self.view_is c.self.invariant.members in
    default-by c.args.self.now c.self.inside.members indexed c.args.class None c.in-None.ensures false refl
