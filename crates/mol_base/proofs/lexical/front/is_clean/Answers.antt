use Rattle.std.proofs.lemmas.Str.{is_utf8-from_IsUtf8}
use Rattle.mol_base.specs.Lexical.Front.{is_clean}
use Rattle.mol_base.proofs.FirstChar.{is_utf8-no}
use Rattle.mol_base.proofs.lexical.front.is_clean.Goals as goal

pub returns-in-Ok : goal.returns-in-Ok
unfolding is_clean
returns-in-Ok c = rw (is_utf8-from_IsUtf8 c.args.bytes.now c.in-Ok.ensures.cases.1) (rw c.before_unicode_escape.ensures.same)

pub returns-in-Err : goal.returns-in-Err
unfolding is_clean
returns-in-Err c = rw (is_utf8-no c.args.bytes.now c.in-Err.ensures.cases.0)
