-- A program has the files that it has once it is tidied.
use Rattle.std.proofs.Common.{◌≡◌, ◌∙◌, ℕ, List, ap}
use Rattle.std.specs.Prelude.{map}
use Rattle.mol_base.specs.Files.{FilePair}
use Rattle.mol_spell_files.specs.FileLimits.{files_limit}
use Rattle.mol_spell_files.specs.ProgramTexts.{printed_height, program_heights, program_texts, written_text}
use Rattle.mol_spell_rules.specs.PrintedFiles.{printed_text}
use Rattle.mol_spell_rules.specs.SpelledUnits.{units_of}
use Rattle.mol_table_rules.specs.Program.{Program}
use Rattle.mol_table_rules.specs.Tidy.{tidy}

-- of a program whose values are tidied
abbrev texts_in : Program → List FilePair
texts_in tidied = map written_text (map printed_text (units_of tidied))

abbrev heights_in : Program → List ℕ
heights_in tidied = map printed_height (units_of tidied)

module _ (program tidied : Program) (is : tidied ≡ tidy program) (same : tidy tidied ≡ tidied) where
  pub same-texts : program_texts tidied ≡ program_texts program
  same-texts = ap texts_in (same ∙ is)

  pub same-heights : program_heights tidied ≡ program_heights program
  same-heights = ap heights_in (same ∙ is)

  pub same-limit : files_limit (program_texts tidied) (program_heights tidied)
      ≡ files_limit (program_texts program) (program_heights program)
  same-limit = λ i. files_limit (same-texts i) (same-heights i)
