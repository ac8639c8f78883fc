use Rattle.std.proofs.Common.{subst}
use Rattle.std.specs.Prelude.{IfOk}
use Rattle.std.proofs.lemmas.Result.{IfOk-weaker}
use Rattle.mol_faults_support.specs.Declarations.{DeclaresAny}
use Rattle.mol_faults_support.specs.Links.{AreLinked}
use Rattle.mol_faults_support.proofs.Linked.{declares-any}
use Rattle.mol_faults_support.proofs.declaration_index.DeclarationIndex.declarations_of.Goals as goal
use Rattle.mol_table_rules.specs.Program.{Program}

pub returns : goal.returns
returns c =
    let index = c.self.inside in
    let methods = c.args.methods.now in
    subst (λ (p : Program). IfOk c.linked.result (λ found. DeclaresAny p methods found.items)) c.self.view_is
    (IfOk-weaker c.linked.result _ _ (λ found linked. declares-any index.table.now index.by_method.items methods found.items c.self.invariant.declared
    (subst (λ links. AreLinked links methods found.items) c.as_slice.ensures.value linked)) c.linked.ensures)
