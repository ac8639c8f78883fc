use Rattle.std.proofs.Common.{◌≡◌, length}
use Rattle.mol_scope_classes.proofs.hierarchy.weights.sizes.Given as goal

abbrev pub invariant-loop-number : goal.invariant-loop-number
invariant-loop-number l = length l.sizes.items ≡ length l.places
