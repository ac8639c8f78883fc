use Rattle.mol_faults_entities.proofs.override_faults_lemmas.GoingUp.{IsGoingUp}
use Rattle.mol_faults_entities.proofs.override_faults.overridden.add_above.Given as goal

abbrev pub invariant-loop-turn : goal.invariant-loop-turn
invariant-loop-turn l =
    IsGoingUp l.table l.paths.positions.entries l.orders.by_key.items l.row l.turn l.at l.mark l.fn.pairs.items l.pairs.items
