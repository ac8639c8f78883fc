use Rattle.std.proofs.Common.{refl}
use Rattle.mol_faults_values.proofs.local_faults.clashing.clashes_among.Goals as goal
use Rattle.mol_faults_values.specs.local_faults.Clashing.{clashes_among, clashes_at}
use Rattle.mol_base.proofs.Added.{adds-more, adds-whole}

pub loop-id-preserved : goal.loop-id-preserved
loop-id-preserved c =
    adds-more (clashes_among c.args.table.now) (clashes_at c.args.table.now) refl (λ x rest. refl) c.args.ids.now c.loop-id.id-index
    c.id-item.result _ _ _ c.loop-id-test.true c.id-item.is c.loop-id.invariant c.in_ok-add_clashes.ensures

pub returns : goal.returns
returns c =
    adds-whole (clashes_among c.args.table.now) (clashes_at c.args.table.now) refl (λ x rest. refl) c.args.ids.now c.loop-id.id-index
    _ _ c.loop-id-test.false c.loop-id.invariant
