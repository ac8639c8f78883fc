-- Simple names and imports of the file of a class, as contracts see them.
use Rattle.std.specs.Prelude.{Bool, List, map}
use Rattle.jav_names.specs.DottedNames.{Names}
use Rattle.mol_spell_names.specs.declared.simple_names.simple_names.SimpleNames.{SimpleNames}
use Rattle.mol_spell_rules.specs.SimpleNames.{imports_by, is_simple_by}
use Rattle.mol_spell_rules.specs.Writers.{Importable, Use}
use Rattle.mol_spell_uses.specs.uses.Kept.{kept_use}

module _ (names : SimpleNames) where
  -- what the file uses
  abbrev pub uses_of_file : List Use
  uses_of_file = map kept_use names.uses.now

  abbrev pub simple_in_file : Importable → Bool
  simple_in_file what = is_simple_by names.classes.now names.class uses_of_file what

  abbrev pub imports_of_file : Names
  imports_of_file = imports_by names.classes.now names.class uses_of_file
