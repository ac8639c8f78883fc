use Rattle.std.proofs.Common.{Option, Some, None, subst}
use Rattle.std.proofs.lemmas.Result.{on_ok_weaker}
use Rattle.jav_names.specs.Views.{ViewDeclaration}
use Rattle.mol_base.specs.declared.ident.Id.{Id}
use Rattle.mol_values_types.specs.declared.known.Known.TheVariants as knowns
use Rattle.mol_scope_members.specs.declaring.Collecting.{Adds}
use Rattle.mol_scope_members.specs.declaring.MemberEntries.{declaring_entry}
use Rattle.mol_scope_members.proofs.declaring_lemmas.MembersAdded.{adds-both, declaration-lives}
use Rattle.mol_scope_members.proofs.declaring.collected.Collected.add_declaration.Goals as goal

pub returns-in-Some : goal.returns-in-Some
returns-in-Some c =
    let old = c.args.self.now in
    let new = c.add_living.new.self in
    let id : Id = c.args.id.now in
    let method : Id = c.args.method.now in
    on_ok_weaker c.add_living.result (λ more.
    subst (λ (living : Option (ViewDeclaration Id Id)). Adds old new None living (declaring_entry (id, knowns.Decl method)))
    (declaration-lives c.args.table.now id (Some c.in-Some.owner) c.in-Some.ensures method)
    (adds-both old c.add_by_method.new.self new _ _ c.in_ok-add_by_method.ensures more)) c.add_living.ensures

pub returns-in-None : goal.returns-in-None
returns-in-None c =
    let id : Id = c.args.id.now in
    let method : Id = c.args.method.now in
    subst (λ (living : Option (ViewDeclaration Id Id)).
    Adds c.args.self.now c.add_by_method.new.self None living (declaring_entry (id, knowns.Decl method)))
    (declaration-lives c.args.table.now id None c.in-None.ensures method) c.in_ok-add_by_method.ensures
