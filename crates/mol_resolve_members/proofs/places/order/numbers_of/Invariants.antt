use Rattle.std.proofs.Common.{◌≡◌}
use Rattle.mol_resolve_rules.specs.Numbering.{below}
use Rattle.mol_resolve_members.proofs.places.order.numbers_of.Given as goal

abbrev pub invariant-loop-place : goal.invariant-loop-place
invariant-loop-place l = l.numbers.items ≡ below l.place
