use Rattle.std.proofs.Common.{Some, sym, subst}
use Rattle.std.specs.Prelude.{OnOk}
use Rattle.mol_values_types.specs.declared.known.Known.{Known}
use Rattle.mol_scope_members.specs.declaring.Collecting.{AddsKnown}
use Rattle.mol_scope_members.proofs.declaring_lemmas.MembersAdded.{adds-none}
use Rattle.mol_scope_members.proofs.declaring.collected.Collected.add_known.Goals as goal

pub returns-in-Field : goal.returns-in-Field
returns-in-Field c =
    subst (λ (known : Known).
    OnOk c.add_field.result (AddsKnown c.args.self.now c.add_field.new.self c.args.table.now c.args.id.now (Some known)))
    (sym c.in-Field.is) c.add_field.ensures

pub returns-in-Decl : goal.returns-in-Decl
returns-in-Decl c =
    subst (λ (known : Known).
    OnOk c.add_declaration.result (AddsKnown c.args.self.now c.add_declaration.new.self c.args.table.now c.args.id.now (Some known)))
    (sym c.in-Decl.is) c.add_declaration.ensures

pub returns-in-Class : goal.returns-in-Class
returns-in-Class c =
    let collected = c.args.self.now in
    subst (λ (known : Known). AddsKnown collected collected c.args.table.now c.args.id.now (Some known)) (sym c.in-Class.is)
    (adds-none collected)

pub returns-in-Method : goal.returns-in-Method
returns-in-Method c =
    let collected = c.args.self.now in
    subst (λ (known : Known). AddsKnown collected collected c.args.table.now c.args.id.now (Some known)) (sym c.in-Method.is)
    (adds-none collected)

pub returns-in-Param : goal.returns-in-Param
returns-in-Param c =
    let collected = c.args.self.now in
    subst (λ (known : Known). AddsKnown collected collected c.args.table.now c.args.id.now (Some known)) (sym c.in-Param.is)
    (adds-none collected)
