use Rattle.mol_spell_files.proofs.files.program_files.Goals as goal

pub returns-clause-texts : goal.returns-clause-texts
returns-clause-texts c = rw c.in_ok-keys.ensures at c.files_of.ensures.texts

pub returns-clause-heights : goal.returns-clause-heights
returns-clause-heights c = rw c.in_ok-keys.ensures at c.files_of.ensures.heights
