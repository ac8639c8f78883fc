use Rattle.std.proofs.Common.{◌∙◌, subst}
use Rattle.jav_scope.specs.Entries.{view_in}
use Rattle.jav_scope.specs.MemberLists.{AreIndexed}
use Rattle.jav_scope.proofs.FoundMembers.{field-found}
use Rattle.jav_scope.proofs.scope.Scope.field_of.Goals as goal

pub returns : goal.returns
returns c =
    let sources = c.args.self.now in
    let indexed = subst (λ all. AreIndexed c.self.inside.members (view_in all)) c.self.view_is c.self.invariant.members in
    c.nearest.ensures ∙ field-found sources c.self.inside.members indexed c.args.class c.args.name.now
