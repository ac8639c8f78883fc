use Rattle.mol_table.specs.Maps.{cells_of, knowns_of}
use Rattle.mol_table.proofs.TidiedMaps.{tidied-program}
use Rattle.mol_table.proofs.maps.Maps.tidied.Goals as goal

pub returns-clause-program : goal.returns-clause-program
returns-clause-program c =
    tidied-program c.args.self.now c.in_ok-index.index.entries (cells_of c.in_ok-tidied_cells.field-0.entries) (knowns_of c.in_ok-copy_known.field-0.entries)
    c.in_ok-index.ensures c.in_ok-tidied_cells.ensures c.in_ok-copy_known.ensures.known
