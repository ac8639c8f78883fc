use Rattle.std.proofs.Common.{◌≡◌, ◌++◌, map, drop}
use Rattle.mol_faults_rules.specs.Kept.{kept_fault}
use Rattle.mol_faults_values.proofs.missing_faults.faults.faults_of.Given as goal
use Rattle.mol_faults_values.specs.missing_faults.Gone.{fault_of}

abbrev pub invariant-loop-target : goal.invariant-loop-target
invariant-loop-target l = map kept_fault l.faults ++ map fault_of (drop l.target-index l.gone) ≡ map fault_of l.gone
