use Rattle.std.proofs.Common.{subst}
use Rattle.std.specs.Prelude.{IfOk}
use Rattle.std.proofs.lemmas.Result.{IfOk-weaker}
use Rattle.mol_faults_support.specs.Declarations.{ConstructsAny}
use Rattle.mol_faults_support.specs.Links.{AreLinked}
use Rattle.mol_faults_support.proofs.Linked.{constructs-any}
use Rattle.mol_faults_support.proofs.declaration_index.DeclarationIndex.constructors_of.Goals as goal
use Rattle.mol_table_rules.specs.Program.{Program}

pub returns : goal.returns
returns c =
    let index = c.self.inside in
    let classes = c.args.classes.now in
    subst (λ (p : Program). IfOk c.linked.result (λ found. ConstructsAny p classes found.items)) c.self.view_is
    (IfOk-weaker c.linked.result _ _ (λ found linked. constructs-any index.table.now index.by_class.items classes found.items c.self.invariant.constructed
    (subst (λ links. AreLinked links classes found.items) c.as_slice.ensures.value linked)) c.linked.ensures)
