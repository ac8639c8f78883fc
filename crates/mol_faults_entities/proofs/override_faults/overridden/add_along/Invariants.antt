use Rattle.std.proofs.Common.{◌≤◌}
use Rattle.mol_faults_entities.specs.override_faults.Declarations.{key_of}
use Rattle.mol_faults_entities.specs.override_faults.Overridden.{Adds}
use Rattle.mol_faults_entities.proofs.override_faults_lemmas.Alongs.{IsBetween}
use Rattle.mol_faults_entities.proofs.override_faults.overridden.add_along.Given as goal

abbrev pub invariant-loop-left : goal.invariant-loop-left
invariant-loop-left l = record {
  within : l.left ≤ l.count;
  adds : Adds (IsBetween l.orders.by_key.items l.row (key_of l.key) l.left l.count) l.fn.pairs.items l.pairs.items;
}

abbrev pub decreases-loop-left : goal.decreases-loop-left
decreases-loop-left l = l.left
