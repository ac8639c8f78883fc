use Rattle.std.proofs.Common.{◌≡◌, map, take}
use Rattle.mol_faults_rules.specs.Kept.{kept_fault}
use Rattle.mol_faults_entities.specs.override_faults.Overridden.{override_fault}
use Rattle.mol_faults_entities.proofs.override_faults.override_faults.listed.Given as goal

abbrev pub invariant-loop-pair : goal.invariant-loop-pair
invariant-loop-pair l = map kept_fault l.faults ≡ map override_fault (take l.pair-index l.pairs)
