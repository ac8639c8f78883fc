-- The simple names of the file of a class.
use Rattle.std.specs.Prelude.{◌≡◌}
use Rattle.mol_base.specs.declared.ident.Id.{Id}
use Rattle.mol_spell_names.specs.simple_names.Named.{uses_of_file}
use Rattle.mol_spell_names.specs.declared.simple_names.simple_names.SimpleNames.{SimpleNames}
use Rattle.mol_spell_rules.specs.SimpleNames.{uses_in}
use Rattle.mol_table_rules.specs.Program.{Program}

-- These are by what the names in the file use.
pub record AreNamesOf (program : Program) (class : Id) (names : SimpleNames) : Type 0 where
  pub in_program : names.classes.now ≡ program
  pub of_class : names.class ≡ class
  pub by_uses : uses_of_file names ≡ uses_in program class
