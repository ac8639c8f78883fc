use Rattle.std.proofs.Common.{◌∙◌, subst}
use Rattle.jav_scope.specs.Answers.{or_of_object}
use Rattle.jav_scope.specs.Entries.{view_in}
use Rattle.jav_scope.specs.MemberLists.{AreIndexed}
use Rattle.jav_scope.proofs.FoundMembers.{method-found}
use Rattle.jav_scope.proofs.scope.Scope.method_of.Goals as goal

pub returns : goal.returns
returns c =
    let indexed = subst (λ all. AreIndexed c.self.inside.members (view_in all)) c.self.view_is c.self.invariant.members in
    c.or_of_object.ensures ∙ (λ i. or_of_object (c.is_object_method.ensures i) (c.nearest-found.ensures i))
    ∙ method-found c.args.self.now c.self.inside.members indexed c.args.class c.args.name.now c.args.arity
