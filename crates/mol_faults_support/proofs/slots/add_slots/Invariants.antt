use Rattle.std.proofs.Common.{◌≡◌, ◌++◌, drop}
use Rattle.mol_faults_support.specs.Cells.{cells_of}
use Rattle.mol_faults_support.proofs.slots.add_slots.Given as goal

abbrev pub invariant-loop-slot : goal.invariant-loop-slot
invariant-loop-slot l = l.cells.items ++ cells_of (drop l.slot-index l.slots) l.id ≡ l.initial.cells.items ++ cells_of l.slots l.id
