-- A program as texts: its source files in the one layout, each with its path.
use Rattle.std.specs.Prelude.{List, map}
use Rattle.jav_tree.specs.Layout.{unit_text}
use Rattle.mol_resolve_rules.specs.ReadAs.{SourceText}
use Rattle.mol_table_rules.specs.Program.{Program}
use Rattle.mol_spell_rules.specs.SpelledUnits.{SpelledUnit, spelling}

abbrev pub printed_text : SpelledUnit → SourceText
printed_text unit = record { path = unit.path; bytes = unit_text unit.unit }

-- the files of a program, by their paths
abbrev pub printed_files : Program → List SourceText
printed_files program = map printed_text (spelling program)
