use Rattle.std.proofs.Common.{take}
use Rattle.mol_table.specs.Maps.{counts_of}
use Rattle.mol_table.proofs.Copying.{HasAt}
use Rattle.mol_table.proofs.maps.copy.copy_numbers.Given as goal

abbrev pub invariant-loop-id : goal.invariant-loop-id
invariant-loop-id l = HasAt (counts_of l.numbers.entries) (counts_of l.copy.entries) (take l.id-index l.id-items)
