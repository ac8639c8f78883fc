use Rattle.std.proofs.Common.{◌≡◌, ◌+◌, false, length}
use Rattle.mol_base.specs.Lexical.Characters.{before_unicode_escape}
use Rattle.mol_base.proofs.lexical.bytes.before_unicode_escape.Given as goal

abbrev pub invariant-loop-rest : goal.invariant-loop-rest
invariant-loop-rest l = record {
  room : l.passed + length l.rest ≡ length l.fn.bytes;
  same : l.passed + before_unicode_escape l.odd l.rest ≡ before_unicode_escape false l.fn.bytes;
}

abbrev pub decreases-loop-rest : goal.decreases-loop-rest
decreases-loop-rest l = length l.rest
