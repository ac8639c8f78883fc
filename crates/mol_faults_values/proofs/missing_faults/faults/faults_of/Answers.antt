use Rattle.std.proofs.Common.{[], ◌∷◌, ◌++◌, ◌∙◌, map, refl, ap}
use Rattle.std.proofs.lemmas.List.{map_push}
use Rattle.mol_faults_rules.specs.Kept.{kept_fault}
use Rattle.mol_faults_values.proofs.missing_faults.faults.faults_of.Goals as goal
use Rattle.mol_faults_values.specs.missing_faults.Gone.{fault_of}
use Rattle.mol_faults_values.specs.declared.missing_faults.gone.Gone.{Gone}
use Rattle.mol_base.proofs.Added.{adds-more, adds-whole}

pub loop-target-preserved : goal.loop-target-preserved
loop-target-preserved c =
    adds-more (map fault_of) (λ (gone : Gone). fault_of gone ∷ []) refl (λ x rest. refl) c.args.gone.now c.loop-target.target-index
    c.target-item.result _ _ _ c.loop-target-test.true c.target-item.is c.loop-target.invariant
    (ap (map kept_fault) c.in_ok-add.ensures.ok ∙ map_push kept_fault c.loop-target.faults c.fault_of.result
    ∙ ap (λ fault. map kept_fault c.loop-target.faults ++ fault ∷ []) c.fault_of.ensures)

pub returns : goal.returns
returns c =
    adds-whole (map fault_of) (λ (gone : Gone). fault_of gone ∷ []) refl (λ x rest. refl) c.args.gone.now c.loop-target.target-index
    _ _ c.loop-target-test.false c.loop-target.invariant
