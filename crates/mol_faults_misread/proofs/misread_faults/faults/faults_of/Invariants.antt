use Rattle.std.proofs.Common.{◌≡◌, map}
use Rattle.mol_faults_rules.specs.Kept.{kept_fault}
use Rattle.mol_faults_misread.proofs.misread_faults.faults.faults_of.Given as goal
use Rattle.mol_faults_misread.specs.misread_faults.Found.{fault_of}

abbrev pub invariant-loop-row : goal.invariant-loop-row
invariant-loop-row l = map kept_fault l.faults ≡ map fault_of l.yielded
