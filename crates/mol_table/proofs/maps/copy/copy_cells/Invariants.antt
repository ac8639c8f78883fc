use Rattle.std.proofs.Common.{take}
use Rattle.mol_table.specs.Maps.{cells_of}
use Rattle.mol_table.proofs.Copying.{HasAt}
use Rattle.mol_table.proofs.maps.copy.copy_cells.Given as goal

abbrev pub invariant-loop-cell : goal.invariant-loop-cell
invariant-loop-cell l = HasAt (cells_of l.cells.entries) (cells_of l.copy.entries) (take l.cell-index l.cell-items)
