use Rattle.std.proofs.Common.{◌≡◌, map, take}
use Rattle.mol_faults_rules.specs.Kept.{kept_fault}
use Rattle.mol_faults_entities.specs.package_faults.Pairs.{fault_of}
use Rattle.mol_faults_entities.proofs.package_faults.package_classes.faults_of.Given as goal

abbrev pub invariant-loop-pair : goal.invariant-loop-pair
invariant-loop-pair l = map kept_fault l.faults.items ≡ map fault_of (take l.pair-index l.pair-items)
