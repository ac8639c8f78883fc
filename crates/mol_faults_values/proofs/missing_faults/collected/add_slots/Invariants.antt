use Rattle.std.proofs.Common.{◌≡◌, ◌++◌, drop}
use Rattle.mol_faults_values.proofs.missing_faults.collected.add_slots.Given as goal
use Rattle.mol_faults_values.specs.missing_faults.Gone.{gone_in_slots}

abbrev pub invariant-loop-slot : goal.invariant-loop-slot
invariant-loop-slot l = l.gone.items ++ gone_in_slots l.table l.tidied l.id (drop l.slot-index l.slots)
    ≡ l.initial.gone.items ++ gone_in_slots l.table l.tidied l.id l.slots
