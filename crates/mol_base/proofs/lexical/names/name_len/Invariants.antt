use Rattle.std.proofs.Common.{◌≡◌, ◌+◌, length}
use Rattle.mol_base.specs.Lexical.Names.{name_len}
use Rattle.mol_base.proofs.lexical.names.name_len.Given as goal

abbrev pub invariant-loop-rest : goal.invariant-loop-rest
invariant-loop-rest l = record {
  room : l.passed + length l.rest ≡ length l.fn.bytes;
  same : l.passed + name_len 0 l.rest ≡ name_len 0 l.fn.bytes;
}

abbrev pub decreases-loop-rest : goal.decreases-loop-rest
decreases-loop-rest l = length l.rest
