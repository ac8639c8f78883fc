-- Where names of a program are written: in the file of a class, and in a declaration of a method or in none.
use Rattle.std.specs.Prelude.{Bool, [], map, Option, None, Some, option_map}
use Rattle.jav_names.specs.DottedNames.{Names}
use Rattle.mol_base.specs.declared.ident.Id.{Id}
use Rattle.mol_resolve_rules.specs.Readers.{Reader}
use Rattle.mol_spell_rules.specs.UnitCells.{reader_as}
use Rattle.mol_spell_rules.specs.Writers.{Importable, Writer}
use Rattle.mol_table_rules.specs.Program.{Program, params_at}
use Rattle.mol_values_types.specs.declared.known.Known.{Known}
use Rattle.mol_values_types.specs.declared.known.Known.TheVariants as knowns
use Rattle.mol_values_types.specs.declared.param.Param.{Param}

-- where names are read, with these imports
abbrev pub reader_in : Program → Names → Id → Option Id → Reader Id Id
reader_in program imports class method = reader_as program imports class (option_map (λ method. knowns.Decl method) method)

-- with these imports, and this that has its simple name
abbrev pub writer_of : Program → Names → (Importable → Bool) → Id → Option Id → Writer
writer_of program imports is_simple class method = record {
  program = program;
  reader = reader_in program imports class method;
  is_simple = is_simple;
}

-- the method that an identity is a declaration of
abbrev pub declared_in : Option Known → Option Id
declared_in (Some (knowns.Decl method)) = Some method
declared_in known = None

-- the names of the parameters in scope
abbrev pub param_names_in : Program → Option Id → Names
param_names_in program None = []
param_names_in program (Some method) = map (λ (param : Param). param.name) (params_at program method)
