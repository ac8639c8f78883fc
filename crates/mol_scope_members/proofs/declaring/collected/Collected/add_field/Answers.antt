use Rattle.std.proofs.Common.{Option, Some, None, subst}
use Rattle.std.specs.Prelude.{OnOk}
use Rattle.jav_names.specs.Views.{ViewField}
use Rattle.mol_base.specs.declared.ident.Id.{Id}
use Rattle.mol_scope_members.specs.declaring.Collecting.{Adds}
use Rattle.mol_scope_members.proofs.declaring_lemmas.MembersAdded.{adds-none, field-lives}
use Rattle.mol_scope_members.proofs.declaring.collected.Collected.add_field.Goals as goal

pub returns-in-Some : goal.returns-in-Some
returns-in-Some c =
    subst (λ (field : Option (ViewField Id Id)).
    OnOk c.add_living_field.result (Adds c.args.self.now c.add_living_field.new.self field None None))
    (field-lives c.args.table.now c.args.id.now (Some c.in-Some.owner) c.in-Some.ensures) c.add_living_field.ensures

pub returns-in-None : goal.returns-in-None
returns-in-None c =
    let collected = c.args.self.now in
    subst (λ (field : Option (ViewField Id Id)). Adds collected collected field None None)
    (field-lives c.args.table.now c.args.id.now None c.in-None.ensures) (adds-none collected)
