use Rattle.std.proofs.Common.{◌≡◌, ◌++◌, drop}
use Rattle.mol_faults_entities.specs.pair_faults.Sharing.{shared_with}
use Rattle.mol_faults_entities.proofs.pair_faults.sharing.add_sharing.Given as goal

abbrev pub invariant-loop-next : goal.invariant-loop-next
invariant-loop-next l = l.pairs.items ++ shared_with l.row (drop l.next-index l.later) ≡ l.fn.pairs.items ++ shared_with l.row l.later
