use Rattle.std.proofs.Common.{◌∙◌}
use Rattle.mol_log_rules.specs.Writers.{same_cell}
use Rattle.mol_table_rules.proofs.CellOrder.{cell_cmp-total}
use Rattle.mol_log_writers.proofs.Noting.{index-further, index-none, index-whole}
use Rattle.mol_log_writers.proofs.last_writes.writers_by_cell.Goals as goal
use Rattle.mol_values_types.specs.Order.{cell_cmp}

pub loop-entry-init : goal.loop-entry-init
loop-entry-init c = index-none cell_cmp same_cell cell_cmp-total c.args.entries.now _ c.new-index.ensures.empty

pub loop-entry-preserved : goal.loop-entry-preserved
loop-entry-preserved c =
    index-further cell_cmp same_cell c.args.entries.now c.loop-entry.entry-index c.entry-item.result _ _ _ c.loop-entry-test.true c.entry-item.is
    (c.as_slice.ensures.value ∙ c.in_ok-cells.ensures) c.loop-entry.invariant c.in_ok-note_cells.ensures

pub returns : goal.returns
returns c = index-whole cell_cmp same_cell c.args.entries.now c.loop-entry.entry-index _ c.loop-entry-test.false c.loop-entry.invariant
