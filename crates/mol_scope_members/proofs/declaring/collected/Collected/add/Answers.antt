use Rattle.std.proofs.Common.{Option, subst}
use Rattle.std.specs.Prelude.{OnOk}
use Rattle.mol_values_types.specs.declared.known.Known.{Known}
use Rattle.mol_scope_members.specs.declaring.Collecting.{AddsKnown}
use Rattle.mol_scope_members.proofs.declaring_lemmas.MembersAdded.{adds-none}
use Rattle.mol_scope_members.proofs.declaring.collected.Collected.add.Goals as goal

pub returns-in-Some : goal.returns-in-Some
returns-in-Some c =
    subst (λ (known : Option Known).
    OnOk c.add_known.result (AddsKnown c.args.self.now c.add_known.new.self c.args.table.now c.args.id.now known))
    c.in-Some.ensures c.add_known.ensures

pub returns-in-None : goal.returns-in-None
returns-in-None c =
    let collected = c.args.self.now in
    subst (λ (known : Option Known). AddsKnown collected collected c.args.table.now c.args.id.now known) c.in-None.ensures
    (adds-none collected)
