-- The files of a program: each as its path and its bytes, and the height of its tree as printed.
use Rattle.std.specs.Prelude.{ℕ, List, map}
use Rattle.jav_tree.specs.WithParens.{unit_printed_height}
use Rattle.mol_base.specs.Files.{FilePair}
use Rattle.mol_resolve_rules.specs.ReadAs.{SourceText}
use Rattle.mol_spell_rules.specs.PrintedFiles.{printed_files}
use Rattle.mol_spell_rules.specs.SpelledUnits.{SpelledUnit, spelling}
use Rattle.mol_table_rules.specs.Program.{Program}

abbrev pub written_text : SourceText → FilePair
written_text text = (text.path, text.bytes)

-- the source files that a program is spelled as, in the one layout, each with its path
abbrev pub program_texts : Program → List FilePair
program_texts program = map written_text (printed_files program)

abbrev pub printed_height : SpelledUnit → ℕ
printed_height file = unit_printed_height file.unit

-- the heights of their trees as printed
abbrev pub program_heights : Program → List ℕ
program_heights program = map printed_height (spelling program)
