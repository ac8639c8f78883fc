use Rattle.std.proofs.Common.{◌≡◌, ◌+◌, length}
use Rattle.mol_base.specs.Lexical.Comments.{line_len}
use Rattle.mol_base.proofs.lexical.comments.line_len.Given as goal

abbrev pub invariant-loop-rest : goal.invariant-loop-rest
invariant-loop-rest l = record {
  room : l.passed + length l.rest ≡ length l.fn.bytes;
  same : l.passed + line_len l.rest ≡ line_len l.fn.bytes;
}

abbrev pub decreases-loop-rest : goal.decreases-loop-rest
decreases-loop-rest l = length l.rest
