use Rattle.std.proofs.Common.{refl}
use Rattle.mol_faults_misread.proofs.misread_faults.files.names_in.Goals as goal
use Rattle.mol_faults_misread.specs.misread_faults.Found.{all_misreads, class_misreads}
use Rattle.mol_base.proofs.Added.{adds-more, adds-whole}

pub loop-id-preserved : goal.loop-id-preserved
loop-id-preserved c =
    adds-more (all_misreads c.args.program.now) (class_misreads c.args.program.now) refl (λ x rest. refl) c.args.ids.now c.loop-id.id-index
    c.id-item.result _ _ _ c.loop-id-test.true c.id-item.is c.loop-id.invariant c.in_ok-add_class.ensures

pub returns : goal.returns
returns c =
    adds-whole (all_misreads c.args.program.now) (class_misreads c.args.program.now) refl (λ x rest. refl) c.args.ids.now c.loop-id.id-index
    _ _ c.loop-id-test.false c.loop-id.invariant
