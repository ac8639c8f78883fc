use Rattle.std.proofs.Common.{ℕ, ◌<◌, get_or}
use Rattle.mol_table_numbers.specs.Agreement.{AgreeAt}
use Rattle.mol_values_types.specs.declared.cell.Slot.{Slot}
use Rattle.mol_table_numbers.proofs.sameness.agree.Given as goal

abbrev pub invariant-loop-slot : goal.invariant-loop-slot
invariant-loop-slot l = (k : ℕ) (d : Slot) → k < l.slot-index → AgreeAt l.one l.other l.id (get_or l.slots k d)
