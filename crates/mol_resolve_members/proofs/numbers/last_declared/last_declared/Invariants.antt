use Rattle.std.proofs.Common.{length}
use Rattle.mol_resolve_members.proofs.numbers_lemmas.DeclarationsFound.{IsLeft}
use Rattle.mol_resolve_members.proofs.numbers.last_declared.last_declared.Given as goal

abbrev pub invariant-loop-rest : goal.invariant-loop-rest
invariant-loop-rest l = IsLeft l.scope l.name l.arity l.way l.rest l.last

abbrev pub decreases-loop-rest : goal.decreases-loop-rest
decreases-loop-rest l = length l.rest
