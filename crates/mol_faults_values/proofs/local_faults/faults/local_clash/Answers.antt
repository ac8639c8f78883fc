use Rattle.std.proofs.Common.{◌∙◌, ◌↔◌, List, map, Contains, sym, ap, subst}
use Rattle.std.proofs.lemmas.Result.{IfOk-weaker}
use Rattle.mol_faults_rules.specs.OfKind.{AreOfKind}
use Rattle.mol_faults_values.proofs.local_faults_lemmas.Found.{are-of-kind}
use Rattle.mol_faults_values.proofs.local_faults_lemmas.SameRows.{clash-same}
use Rattle.mol_faults_values.proofs.local_faults.faults.local_clash.Goals as goal
use Rattle.mol_faults_values.specs.local_faults.Clashing.{fault_of}
use Rattle.mol_faults_values.specs.declared.local_faults.clash.Clash.{Clash}

pub in_order-clashes-requires : goal.in_order-clashes-requires
in_order-clashes-requires c = clash-same

pub returns : goal.returns
returns c =
    let program = c.args.table.now in
    let rows = c.in_order-clashes.result.items in
    IfOk-weaker c.faults_of.result _ _
    (λ faults is. subst (AreOfKind program 6) (sym (is ∙ ap (map fault_of) c.as_slice.ensures.value))
    (are-of-kind program c.ids.result.now c.ids.ensures.known rows
    (λ row. subst (λ (found : List Clash). Contains rows row ↔ Contains found row) c.in_ok-found.ensures
    (c.in_order-clashes.ensures.same row)) c.in_order-clashes.ensures.ascending))
    c.faults_of.ensures
