use Rattle.std.proofs.Common.{Contains, take}
use Rattle.std.specs.Prelude.{◌↔◌}
use Rattle.mol_faults_entities.specs.override_faults.Overridden.{IsOverAny}
use Rattle.mol_faults_entities.proofs.override_faults.overridden.overridden.Given as goal
use Rattle.mol_faults_entities.specs.declared.pair_faults.pair.Pair.{Pair}

abbrev pub invariant-loop-row : goal.invariant-loop-row
invariant-loop-row l = (pair : Pair)
    → Contains l.pairs.items pair ↔ IsOverAny l.table l.orders.by_key.items (take l.row-index l.orders.by_key.items) pair
