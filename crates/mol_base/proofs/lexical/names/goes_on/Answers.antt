use Rattle.std.proofs.Common.{sym, ap}
use Rattle.std.specs.Prelude.{is_some}
use Rattle.mol_base.proofs.FirstChar.{first_char-some}
use Rattle.mol_base.proofs.lexical.names.goes_on.Goals as goal

pub returns-in-Some-clause-whole : goal.returns-in-Some-clause-whole
returns-in-Some-clause-whole c = λ _. (first_char-some c.args.bytes.now (ap is_some (sym c.in-Some.ensures))).0
