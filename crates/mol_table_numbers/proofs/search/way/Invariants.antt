use Rattle.mol_table.specs.Maps.{program_in}
use Rattle.mol_table_numbers.proofs.TopsSearched.{Walks}
use Rattle.mol_table_numbers.proofs.search.way.Given as goal

abbrev pub invariant-loop : goal.invariant-loop
invariant-loop l = Walks (program_in l.maps) l.fn.class l.classes.items l.at l.counter
