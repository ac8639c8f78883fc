use Rattle.std.proofs.Common.{◌<◌, length}
use Rattle.std.specs.Prelude.{◌↔◌}
use Rattle.mol_scope_classes.specs.hierarchy.Forest.{IsUp}
use Rattle.mol_scope_classes.proofs.hierarchy.forest.Forest.is_up.Given as goal

abbrev pub invariant-loop-at : goal.invariant-loop-at
invariant-loop-at l = record {
  within : l.at < length l.self.places.items;
  same : IsUp l.self.places.items l.from l.to ↔ IsUp l.self.places.items l.at l.to;
}

abbrev pub decreases-loop-at : goal.decreases-loop-at
decreases-loop-at l = l.at
