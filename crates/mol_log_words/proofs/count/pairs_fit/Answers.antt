use Rattle.std.proofs.Common.{◌+◌}
use Rattle.mol_log_words.proofs.Counted.{cut_few}
use Rattle.mol_log_words.proofs.count.pairs_fit.Goals as goal

pub returns : goal.returns
returns c = rw c.saturating_add.ensures (cut_few (c.args.sizes + c.args.pairs))
