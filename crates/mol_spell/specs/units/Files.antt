-- What a file is given as.
use Rattle.std.specs.Prelude.{◌≡◌, Bool}
use Rattle.jav_names.specs.DottedNames.{Names}
use Rattle.mol_base.specs.declared.ident.Id.{Id}
use Rattle.mol_spell_rules.specs.SimpleNames.{imports_in, is_simple_in}
use Rattle.mol_spell_rules.specs.Writers.{Importable}
use Rattle.mol_table_rules.specs.Program.{Program}

-- These are the imports of the file of a class, and this is what has its simple name there.
pub record IsFileOf (program : Program) (class : Id) (imports : Names) (is_simple : Importable → Bool) : Type 0 where
  pub are_imports : imports ≡ imports_in program class
  pub are_simple : is_simple ≡ is_simple_in program class
