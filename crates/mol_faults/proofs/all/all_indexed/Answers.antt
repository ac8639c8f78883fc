use Rattle.std.proofs.Common.{◌∙◌}
use Rattle.mol_faults.proofs.all.all_indexed.Goals as goal

pub all_of-requires : goal.all_of-requires
all_of-requires c = c.in_ok-index.ensures ∙ c.requires
