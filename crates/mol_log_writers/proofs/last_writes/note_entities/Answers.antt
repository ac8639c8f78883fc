use Rattle.mol_base.specs.Order.{id_cmp, id_cmp-IsAntisymmetric, id_cmp-total}
use Rattle.mol_log_writers.proofs.Noting.{noted-further, noted-whole, put}
use Rattle.mol_log_writers.proofs.last_writes.note_entities.Goals as goal
use Rattle.mol_log_writers.specs.LastWriters.{is_in_entity}
use Rattle.mol_values_types.proofs.Ties.{id_ties}
use Rattle.mol_values_types.specs.Order.{id_eq}

pub loop-at-preserved : goal.loop-at-preserved
loop-at-preserved c =
    noted-further id_cmp is_in_entity c.args.cells.now c.loop-at.at-index c.at-item.result c.args.stamp.now _ _ _ c.loop-at-test.true
    c.at-item.is c.loop-at.invariant
    (put id_cmp is_in_entity id_cmp-total id_cmp-IsAntisymmetric id_eq id_ties c.at-item.result.id c.args.stamp.now _ _
    c.in_ok-insert.ensures.updates.0)

pub returns : goal.returns
returns c =
    noted-whole id_cmp is_in_entity c.args.cells.now c.loop-at.at-index c.args.stamp.now _ _ c.loop-at-test.false c.loop-at.invariant
