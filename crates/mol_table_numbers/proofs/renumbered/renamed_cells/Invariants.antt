use Rattle.std.proofs.Common.{take}
use Rattle.mol_table.specs.Maps.{cells_of, program_in}
use Rattle.mol_table_numbers.proofs.Renumbering.{CellsTaken}
use Rattle.mol_table_numbers.proofs.renumbered.renamed_cells.Given as goal

abbrev pub invariant-loop-cell : goal.invariant-loop-cell
invariant-loop-cell l = CellsTaken (program_in l.maps) (cells_of l.cells.entries) (take l.cell-index l.cell-items)
