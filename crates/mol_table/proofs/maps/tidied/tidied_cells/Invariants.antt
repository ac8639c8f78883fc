use Rattle.std.proofs.Common.{take, map}
use Rattle.std.specs.FinMap.{from_entries, entries}
use Rattle.mol_table.specs.Maps.{cells_of, program_in}
use Rattle.mol_table.specs.Tidying.{entry_by}
use Rattle.mol_table.proofs.Copying.{HasAt}
use Rattle.mol_table.proofs.maps.tidied.tidied_cells.Given as goal

abbrev pub invariant-loop-cell : goal.invariant-loop-cell
invariant-loop-cell l =
    HasAt (from_entries (map (entry_by l.maps l.index.entries) (entries (program_in l.maps).cells))) (cells_of l.tidied.entries) (take l.cell-index l.cell-items)
