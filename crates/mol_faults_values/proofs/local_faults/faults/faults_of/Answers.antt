use Rattle.std.proofs.Common.{[], ◌∷◌, ◌++◌, ◌∙◌, map, refl, ap}
use Rattle.std.proofs.lemmas.List.{map_push}
use Rattle.mol_faults_rules.specs.Kept.{kept_fault}
use Rattle.mol_faults_values.proofs.local_faults.faults.faults_of.Goals as goal
use Rattle.mol_faults_values.specs.local_faults.Clashing.{fault_of}
use Rattle.mol_faults_values.specs.declared.local_faults.clash.Clash.{Clash}
use Rattle.mol_base.proofs.Added.{adds-more, adds-whole}

pub loop-clash-preserved : goal.loop-clash-preserved
loop-clash-preserved c =
    adds-more (map fault_of) (λ (clash : Clash). fault_of clash ∷ []) refl (λ x rest. refl) c.args.clashes.now c.loop-clash.clash-index
    c.clash-item.result _ _ _ c.loop-clash-test.true c.clash-item.is c.loop-clash.invariant
    (ap (map kept_fault) c.in_ok-add.ensures.ok ∙ map_push kept_fault c.loop-clash.faults c.in_ok-fault.fault
    ∙ ap (λ fault. map kept_fault c.loop-clash.faults ++ fault ∷ []) c.in_ok-fault.ensures)

pub returns : goal.returns
returns c =
    adds-whole (map fault_of) (λ (clash : Clash). fault_of clash ∷ []) refl (λ x rest. refl) c.args.clashes.now c.loop-clash.clash-index
    _ _ c.loop-clash-test.false c.loop-clash.invariant
