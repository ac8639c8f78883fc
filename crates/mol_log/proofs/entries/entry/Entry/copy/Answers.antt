use Rattle.std.proofs.Common.{refl}
use Rattle.mol_log.proofs.entries_lemmas.OneEntry.{same_entry}
use Rattle.mol_log.proofs.entries.entry.Entry.copy.Goals as goal

pub returns : goal.returns
returns c = same_entry refl c.in_ok-copy.ensures
