use Rattle.std.proofs.Common.{take}
use Rattle.mol_table.specs.Maps.{knowns_of, AreOrdered}
use Rattle.mol_table.proofs.Copying.{HasAt}
use Rattle.mol_table.proofs.maps.copy.copy_known.Given as goal

abbrev pub invariant-loop-id : goal.invariant-loop-id
invariant-loop-id l = record {
  known : HasAt (knowns_of l.known.entries) (knowns_of l.copy.entries) (take l.id-index l.id-items);
  ordered : AreOrdered l.copy.entries;
}
