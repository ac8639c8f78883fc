use Rattle.std.proofs.Common.{◌≡◌, ◌++◌, map, drop}
use Rattle.mol_faults_rules.specs.Kept.{kept_fault}
use Rattle.mol_faults_values.proofs.local_faults.faults.faults_of.Given as goal
use Rattle.mol_faults_values.specs.local_faults.Clashing.{fault_of}

abbrev pub invariant-loop-clash : goal.invariant-loop-clash
invariant-loop-clash l = map kept_fault l.faults ++ map fault_of (drop l.clash-index l.clashes) ≡ map fault_of l.clashes
