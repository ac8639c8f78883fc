use Rattle.std.proofs.Common.{◌≡◌, length}
use Rattle.mol_scope_classes.proofs.hierarchy.weights.most_below.Given as goal

abbrev pub invariant-loop-number : goal.invariant-loop-number
invariant-loop-number l = length l.most.items ≡ length l.places
