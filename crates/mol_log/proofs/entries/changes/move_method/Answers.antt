use Rattle.std.proofs.Common.{refl}
use Rattle.mol_log.specs.entries.Spelling as spelling
use Rattle.mol_log.proofs.entries.changes.move_method.Goals as goal

pub returns : goal.returns
returns c = spelling.move_method (record { decl = refl; owner = refl })
