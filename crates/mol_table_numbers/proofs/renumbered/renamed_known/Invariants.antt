use Rattle.std.proofs.Common.{take}
use Rattle.mol_table.specs.Maps.{knowns_of, program_in, AreOrdered}
use Rattle.mol_table_numbers.proofs.Renumbering.{KnownTaken}
use Rattle.mol_table_numbers.proofs.renumbered.renamed_known.Given as goal

abbrev pub invariant-loop-id : goal.invariant-loop-id
invariant-loop-id l = record {
  known : KnownTaken (program_in l.maps) (knowns_of l.known.entries) (take l.id-index l.order);
  ordered : AreOrdered l.known.entries;
}
