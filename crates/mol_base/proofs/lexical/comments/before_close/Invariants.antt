use Rattle.std.proofs.Common.{◌≡◌, ◌+◌, length}
use Rattle.mol_base.specs.Lexical.Comments.{before_close}
use Rattle.mol_base.proofs.lexical.comments.before_close.Given as goal

abbrev pub invariant-loop-rest : goal.invariant-loop-rest
invariant-loop-rest l = record {
  room : l.passed + length l.rest ≡ length l.fn.bytes;
  same : l.passed + before_close l.rest ≡ before_close l.fn.bytes;
}

abbrev pub decreases-loop-rest : goal.decreases-loop-rest
decreases-loop-rest l = length l.rest
