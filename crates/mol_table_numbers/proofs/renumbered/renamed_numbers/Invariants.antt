use Rattle.std.proofs.Common.{take}
use Rattle.mol_table.specs.Maps.{counts_of, counts_in, program_in}
use Rattle.mol_table_numbers.proofs.Renumbering.{CountsTaken}
use Rattle.mol_table_numbers.proofs.renumbered.renamed_numbers.Given as goal

abbrev pub invariant-loop-id : goal.invariant-loop-id
invariant-loop-id l = CountsTaken (program_in l.maps) (counts_in l.maps) (counts_of l.numbers.entries) (take l.id-index l.id-items)
