use Rattle.std.proofs.Common.{◌≡◌, ◌++◌, drop}
use Rattle.mol_log_writers.proofs.cells.add_slots.Given as goal
use Rattle.mol_log_writers.specs.Cells.{slot_cells}

abbrev pub invariant-loop-slot : goal.invariant-loop-slot
invariant-loop-slot l = l.cells.items ++ slot_cells l.id (drop l.slot-index l.slots) ≡ l.initial.cells.items ++ slot_cells l.id l.slots
