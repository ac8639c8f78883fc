use Rattle.std.proofs.Common.{◌≡◌, ◌+◌, false, length}
use Rattle.mol_base.specs.Lexical.Quoted.{before_quote}
use Rattle.mol_base.proofs.lexical.quoted.before_quote.Given as goal

abbrev pub invariant-loop-rest : goal.invariant-loop-rest
invariant-loop-rest l = record {
  room : l.passed + length l.rest ≡ length l.fn.bytes;
  same : l.passed + before_quote l.quote l.escaped l.rest ≡ before_quote l.quote false l.fn.bytes;
}

abbrev pub decreases-loop-rest : goal.decreases-loop-rest
decreases-loop-rest l = length l.rest
