-- Places in the file of a class where names are read, as the code has them.
use Rattle.std.specs.Prelude.{◌≡◌, map, Contains}
use Rattle.mol_base.specs.declared.ident.Id.{Id}
use Rattle.jav_names.specs.Views.{ViewDeclaration, Found, found}
use Rattle.mol_resolve_rules.specs.Locals.{Locals, names_in_scope}
use Rattle.mol_resolve_rules.specs.ProgramReaders.{class_reader, parameter_in}
use Rattle.mol_resolve_rules.specs.ProgramViews.{program_view}
use Rattle.mol_resolve_rules.specs.Readers.{Reader, param_names}
use Rattle.mol_table_rules.specs.Program.{Program}
use Rattle.mol_scope.specs.declared.asked.place.NamePlace.{NamePlace}

-- the program whose names are read
abbrev pub program_of : NamePlace → Program
program_of place = place.variables.members.now

abbrev pub reader_of : NamePlace → Reader Id Id
reader_of place = record (class_reader (program_of place) place.imports.now place.variables.class) {
  params = map parameter_in place.params.now;
  in_constructor = place.in_constructor;
}

-- The place has the names of its parameters, and the names and numbers of these locals in scope.
pub record IsAt (place : NamePlace) (locals : Locals Id) : Type 0 where
  pub params : place.variables.params.now ≡ param_names (reader_of place)
  pub names : place.variables.locals.now ≡ names_in_scope locals
  pub numbers : place.in_scope.now ≡ locals.in_scope

-- A declaration that is found is one of the program that lives.
abbrev pub IsFoundIn : Program → Found (ViewDeclaration Id Id) → Type 0
IsFoundIn program read =
    (declared : ViewDeclaration Id Id) → read ≡ found declared → Contains (program_view program).declarations declared
