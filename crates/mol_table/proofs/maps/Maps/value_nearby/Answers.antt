use Rattle.std.proofs.Common.{◌∙◌, sym}
use Rattle.mol_values_types.specs.Order.{cell_cmp}
use Rattle.mol_table_rules.proofs.CellOrder.{cell_cmp-total, cell_cmp-IsAntisymmetric}
use Rattle.mol_values_types.proofs.Ties.{cell_eq, cell_ties}
use Rattle.mol_table.proofs.EntryFound.{entry-found}
use Rattle.mol_table.proofs.maps.Maps.value_nearby.Goals as goal

pub returns-then-eq-2 : goal.returns-then-eq-2
returns-then-eq-2 c =
    sym (entry-found cell_cmp cell_eq cell_ties cell_cmp-total cell_cmp-IsAntisymmetric c.args.self.now.cells.entries c.in_ok-at.at.now c.args.cell.now
    c.in_ok-at.value.now c.in_ok-at.ensures.value (sym c.eq-then-eq.ensures ∙ c.if-eq-2.true))
