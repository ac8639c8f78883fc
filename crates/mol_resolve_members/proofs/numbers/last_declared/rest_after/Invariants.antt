use Rattle.std.proofs.Common.{◌≡◌, length}
use Rattle.mol_resolve_members.specs.numbers.Ways.{rest_after}
use Rattle.mol_resolve_members.proofs.numbers.last_declared.rest_after.Given as goal

abbrev pub invariant-loop-rest : goal.invariant-loop-rest
invariant-loop-rest l = rest_after l.class l.classes ≡ rest_after l.class l.rest

abbrev pub decreases-loop-rest : goal.decreases-loop-rest
decreases-loop-rest l = length l.rest
