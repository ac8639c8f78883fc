use Rattle.std.proofs.Common.{◌≡◌, map, take}
use Rattle.mol_faults_rules.specs.Kept.{kept_fault}
use Rattle.mol_faults_entities.specs.pair_faults.Sharing.{address_fault}
use Rattle.mol_faults_entities.proofs.pair_faults.address_faults.listed.Given as goal

abbrev pub invariant-loop-pair : goal.invariant-loop-pair
invariant-loop-pair l = map kept_fault l.faults ≡ map address_fault (take l.pair-index l.pairs)
