use Rattle.mol_outside.proofs.Placing.{within_get}
use Rattle.mol_outside.proofs.span.span_at.Goals as goal

pub returns-clause-within : goal.returns-clause-within
returns-clause-within c = within_get c.args.len c.args.spans.now c.args.i _ c.requires.inside c.requires.within
