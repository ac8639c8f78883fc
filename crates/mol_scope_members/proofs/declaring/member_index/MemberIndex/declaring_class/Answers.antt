use Rattle.std.proofs.Common.{◌∙◌, ap, subst}
use Rattle.std.specs.Option.{option_and_then}
use Rattle.mol_table_rules.specs.Program.{Program, owner_at}
use Rattle.mol_scope_members.specs.declaring.Indexed.{AreIndexed}
use Rattle.mol_scope_members.proofs.declaring_lemmas.DeclaringFound.{declaring-class}
use Rattle.mol_scope_members.proofs.declaring.member_index.MemberIndex.declaring_class.Goals as goal

pub returns-in-Some : goal.returns-in-Some
returns-in-Some c =
    let program : Program = c.args.self.now in
    let indexed = subst (AreIndexed c.self.inside.members) c.self.view_is c.self.invariant.0 in
    c.owner_of.ensures ∙ ap (λ (p : Program). owner_at p c.in-Some.declaration) (c.table.ensures ∙ c.self.view_is)
    ∙ ap (option_and_then (owner_at program)) c.in-Some.ensures
    ∙ declaring-class program c.self.inside.members indexed c.args.method.now

pub returns-in-None : goal.returns-in-None
returns-in-None c =
    let program : Program = c.args.self.now in
    let indexed = subst (AreIndexed c.self.inside.members) c.self.view_is c.self.invariant.0 in
    ap (option_and_then (owner_at program)) c.in-None.ensures
    ∙ declaring-class program c.self.inside.members indexed c.args.method.now
