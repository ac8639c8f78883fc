use Rattle.std.proofs.Common.{◌≡◌, map}
use Rattle.mol_faults_misread.proofs.misread_faults.faults.rows_of.Given as goal
use Rattle.mol_faults_misread.specs.misread_faults.Found.{fault_in, fault_of, kept_name}

abbrev pub invariant-loop-name : goal.invariant-loop-name
invariant-loop-name l = map fault_of l.rows.items ≡ map fault_in (map kept_name l.yielded)
