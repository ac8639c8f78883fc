use Rattle.std.proofs.Common.{◌≡◌, ◌++◌, drop}
use Rattle.mol_faults_entities.specs.pair_faults.Sharing.{shared_pairs}
use Rattle.mol_faults_entities.proofs.pair_faults.sharing.sharing.Given as goal

abbrev pub invariant-loop-place : goal.invariant-loop-place
invariant-loop-place l = l.pairs.items ++ shared_pairs (drop l.place l.rows) ≡ shared_pairs l.rows
