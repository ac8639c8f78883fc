use Rattle.std.proofs.Common.{◌≡◌, ◌++◌, drop}
use Rattle.mol_faults_values.proofs.local_faults.clashing.clashes_among.Given as goal
use Rattle.mol_faults_values.specs.local_faults.Clashing.{clashes_among}

abbrev pub invariant-loop-id : goal.invariant-loop-id
invariant-loop-id l = l.clashes.items ++ clashes_among l.table (drop l.id-index l.ids) ≡ clashes_among l.table l.ids
