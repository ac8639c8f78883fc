use Rattle.std.proofs.Common.{ap, Err}
use Rattle.mol_log.proofs.reading.entry_of.Goals as goal

pub returns-in-Err-Bad-clause-bad : goal.returns-in-Err-Bad-clause-bad
returns-in-Err-Bad-clause-bad c = λ enough.
    (c.in-Err-Bad.word, c.bad_body.ensures enough, c.in-Err-Bad.ensures.bad c.in-Err-Bad.word (ap Err c.in-Err-Bad.field-0-is))
