use Rattle.std.proofs.Common.{refl}
use Rattle.mol_log.proofs.entries_lemmas.SpelledForms.{rename_method_kept}
use Rattle.mol_log.specs.entries.Spelling as spelling
use Rattle.mol_log.proofs.entries.changes.rename_method.Goals as goal

pub invariant_of-result : goal.invariant_of-result
invariant_of-result c = record { formed = rename_method_kept c.args.row c.requires }

pub returns : goal.returns
returns c = spelling.rename_method (record { method = refl; name = refl })
