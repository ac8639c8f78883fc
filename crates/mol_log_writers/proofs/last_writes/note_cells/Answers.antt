use Rattle.mol_log_rules.specs.Writers.{same_cell}
use Rattle.mol_log_writers.proofs.Noting.{noted-further, noted-whole, put}
use Rattle.mol_log_writers.proofs.last_writes.note_cells.Goals as goal
use Rattle.mol_table_rules.proofs.CellOrder.{cell_cmp-IsAntisymmetric, cell_cmp-total}
use Rattle.mol_values_types.proofs.Ties.{cell_eq, cell_ties}
use Rattle.mol_values_types.specs.Order.{cell_cmp}

pub loop-at-preserved : goal.loop-at-preserved
loop-at-preserved c =
    noted-further cell_cmp same_cell c.args.cells.now c.loop-at.at-index c.at-item.result c.args.stamp.now _ _ _ c.loop-at-test.true
    c.at-item.is c.loop-at.invariant
    (put cell_cmp same_cell cell_cmp-total cell_cmp-IsAntisymmetric cell_eq cell_ties c.at-item.result c.args.stamp.now _ _
    c.in_ok-insert.ensures.updates.0)

pub returns : goal.returns
returns c =
    noted-whole cell_cmp same_cell c.args.cells.now c.loop-at.at-index c.args.stamp.now _ _ c.loop-at-test.false c.loop-at.invariant
