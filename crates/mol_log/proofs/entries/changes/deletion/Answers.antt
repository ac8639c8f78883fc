use Rattle.std.proofs.Common.{refl}
use Rattle.mol_log.specs.entries.Spelling as spelling
use Rattle.mol_log.proofs.entries.changes.deletion.Goals as goal

pub returns : goal.returns
returns c = spelling.delete (record { id = refl })
