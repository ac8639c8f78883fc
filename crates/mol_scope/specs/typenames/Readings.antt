-- What the names of types read as in the file of a class.
use Rattle.jav_names.specs.DottedNames.{Name}
use Rattle.jav_names.specs.Types.{Header, TypeReading as Read, class_read, imported, written, no_type}
use Rattle.jav_names.specs.Views.{Classes}
use Rattle.mol_base.specs.declared.ident.Id.{Id}
use Rattle.mol_resolve_rules.specs.ProgramReaders.{class_header}
use Rattle.mol_resolve_rules.specs.ProgramViews.{program_view}
use Rattle.mol_scope.specs.declared.typenames.class_file.ClassFile.{ClassFile}
use Rattle.mol_scope.specs.declared.typenames.reading.TypeReading.{TypeReading}
use Rattle.mol_scope.specs.declared.typenames.reading.TypeReading.TheVariants as reading

-- the classes of the program
abbrev pub classes_of : ClassFile → Classes Id
classes_of file = (program_view file.classes.now).classes

-- the header of the file
abbrev pub header_of : ClassFile → Header Id
header_of file = class_header file.classes.now file.class file.imports.now

-- what a text reads as, by the answer of the code
abbrev pub reading_of : Name → TypeReading → Read Id
reading_of text (reading.Class class) = class_read class
reading_of text (reading.Imported full rest) = imported full.now rest.now
reading_of text reading.Written = written text
reading_of text reading.Nothing = no_type
