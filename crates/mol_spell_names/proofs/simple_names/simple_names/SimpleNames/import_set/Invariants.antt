use Rattle.std.proofs.Common.{◌≡◌, ◌≤◌, length, drop}
use Rattle.mol_spell_names.proofs.simple_names_lemmas.ImportSets.{made_of, set_of}
use Rattle.mol_spell_names.proofs.simple_names.simple_names.SimpleNames.import_set.Given as goal
use Rattle.mol_spell_names.specs.simple_names.Named.{uses_of_file}
use Rattle.mol_spell_rules.specs.SimpleNames.{import_of}

abbrev pub invariant-loop-at : goal.invariant-loop-at
invariant-loop-at l =
    (l.at ≤ length l.self.uses.now)
    × (l.set.keys ≡ set_of (made_of (import_of l.self.classes.now l.self.class (uses_of_file l.self)) (drop l.at l.self.uses.now)))
