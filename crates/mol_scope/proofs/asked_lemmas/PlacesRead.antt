-- The place as the rules on names look at it.
use Rattle.std.proofs.Common.{◌≡◌}
use Rattle.jav_names.specs.DottedNames.{Name, cut}
use Rattle.jav_names.specs.LookUps.{type_named}
use Rattle.mol_scope.specs.asked.Places.{IsAt, program_of, reader_of}
use Rattle.mol_scope.specs.declared.asked.place.NamePlace.{NamePlace}
use Rattle.mol_base.specs.declared.ident.Id.{Id}
use Rattle.mol_scope.specs.first_names.Readings.{file_place}
use Rattle.mol_resolve_rules.specs.Locals.{Locals}
use Rattle.mol_resolve_rules.specs.ProgramReaders.{class_header}
use Rattle.mol_resolve_rules.specs.ProgramViews.{program_view}
use Rattle.mol_resolve_rules.specs.Readers.{place_of}
use Rattle.mol_spell_rules.specs.Answers.{type_read}
use Rattle.mol_scope.specs.typenames.Readings.{classes_of, header_of}
use Rattle.mol_scope.specs.declared.typenames.class_file.ClassFile.{ClassFile}

module _ (place : NamePlace) where
  pub place-is : (locals : Locals Id) → IsAt place locals → file_place place.variables place.imports.now ≡ place_of (reader_of place) locals
  place-is locals at = λ i. record {
    header = class_header (program_of place) place.variables.class place.imports.now;
    class = place.variables.class;
    locals = at.names i;
    params = at.params i;
  }

  -- what the name of a type reads as in the file of the class
  pub type-is : (file : ClassFile) → file.classes.now ≡ program_of place → file.class ≡ place.variables.class
      → file.imports.now ≡ place.imports.now → (text : Name)
      → type_named (classes_of file) (header_of file) (cut text).first (cut text).rest ≡ type_read (reader_of place) text
  type-is file classes class imports text =
      λ i. type_named (program_view (classes i)).classes (class_header (classes i) (class i) (imports i)) (cut text).first (cut text).rest
