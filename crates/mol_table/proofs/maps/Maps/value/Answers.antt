use Rattle.std.proofs.Common.{◌∙◌}
use Rattle.mol_values_types.specs.Order.{cell_cmp}
use Rattle.mol_table_rules.proofs.CellOrder.{cell_cmp-total}
use Rattle.mol_values_types.proofs.Lookups.{get_is}
use Rattle.mol_values_types.proofs.Ties.{cell_eq, cell_ties}
use Rattle.mol_table.proofs.maps.Maps.value.Goals as goal

pub returns-in-None : goal.returns-in-None
returns-in-None c = c.get.ensures.value ∙ get_is cell_cmp cell_eq cell_ties cell_cmp-total c.args.cell.now c.args.self.now.cells.entries
