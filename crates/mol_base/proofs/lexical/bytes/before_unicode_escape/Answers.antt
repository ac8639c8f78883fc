use Rattle.std.proofs.Common.{rules, arith, ◌≡◌, false}
use Rattle.std.proofs.lemmas.Grind.{common_steps}
use Rattle.mol_base.specs.Lexical.Characters.{before_unicode_escape}
use Rattle.mol_base.proofs.Escaping.{before_unicode_escape-is}
use Rattle.mol_base.proofs.lexical.bytes.before_unicode_escape.Goals as goal

pub returns-then-byte_at-eq117-clause-same : goal.returns-then-byte_at-eq117-clause-same
returns-then-byte_at-eq117-clause-same c = search rules

pub returns-then-byte_at-eq117-clause-first : goal.returns-then-byte_at-eq117-clause-first
returns-then-byte_at-eq117-clause-first c =
    let same : c.loop-rest.passed ≡ before_unicode_escape false c.args.bytes.now = returns-then-byte_at-eq117-clause-same c in
    rw same (before_unicode_escape-is c.args.bytes.now)

pub returns-clause-same : goal.returns-clause-same
returns-clause-same c = grind (arith, common_steps)

pub returns-clause-first : goal.returns-clause-first
returns-clause-first c =
    let same : c.loop-rest.passed ≡ before_unicode_escape false c.args.bytes.now = returns-clause-same c in
    rw same (before_unicode_escape-is c.args.bytes.now)
