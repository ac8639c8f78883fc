-- Where the names in a cell are read, but for the locals in scope.
use Rattle.std.specs.Prelude.{◌≡◌, map}
use Rattle.mol_base.specs.declared.ident.Id.{Id}
use Rattle.mol_faults_misread.specs.declared.body_misreads.cell_place.CellPlace.{CellPlace}
use Rattle.mol_resolve_rules.specs.ProgramReaders.{class_reader, parameter_in}
use Rattle.mol_resolve_rules.specs.Readers.{Reader, param_names}
use Rattle.mol_spell_rules.specs.Writers.{Writer}
use Rattle.mol_table_rules.specs.Program.{Program}

-- the program whose names are read
abbrev pub program_at : CellPlace → Program
program_at place = place.members.now

abbrev pub reader_at : CellPlace → Reader Id Id
reader_at place = record (class_reader (program_at place) place.imports.now place.class) {
  params = map parameter_in place.params.now;
  in_constructor = place.in_constructor;
}

-- What is written so is read at this place, which has the names of its parameters.
pub record IsReadAt (writer : Writer) (place : CellPlace) : Type 0 where
  pub program : writer.program ≡ program_at place
  pub reader : writer.reader ≡ reader_at place
  pub params : place.param_names.now ≡ param_names (reader_at place)
