-- The files of a program are printable: of one that keeps the rules, where `super(..)` is in its place, and so of a clean one.
use Rattle.std.proofs.Common.{sym, subst}
use Rattle.std.specs.Prelude.{All}
use Rattle.jav_names.proofs.Lists.{All-from_each}
use Rattle.mol_spell_rules.proofs.FilesOrdered.{files_in_order}
use Rattle.mol_spell_rules.specs.SpelledUnits.{units_of}
use Rattle.mol_table_rules.proofs.TidyRules.{tidy-IsProgram}
use Rattle.mol_table_rules.specs.Program.{Program}
use Rattle.mol_table_rules.specs.Rules.{IsProgram}
use Rattle.mol_table_rules.specs.Tidy.{tidy}
use Rattle.mol_spell_laws.proofs.SuperPlaces.{supers-in-place}
use Rattle.mol_spell_laws.proofs.Units.{unit-printable, unit-narrow, unit-bare}
use Rattle.mol_spell_laws.specs.PrintableFiles.{IsPrintableFile, SupersInPlace, FilesPrintable}

placed : (program : Program) → IsProgram program → SupersInPlace program → All IsPrintableFile (units_of program)
placed program rules places = All-from_each IsPrintableFile (units_of program) (λ file stands.
    let spelled = (files_in_order.each program file).0 stands in
    subst IsPrintableFile (sym spelled.is) (record {
      printable = unit-printable program rules spelled.class places spelled.lives;
      narrow = unit-narrow program rules spelled.class places spelled.lives;
      bare = unit-bare program rules spelled.class places spelled.lives;
    }))

pub files_printable : FilesPrintable
files_printable = record {
  placed = placed;
  clean = λ program rules clean. placed (tidy program) (tidy-IsProgram program rules) (supers-in-place program rules clean);
}
