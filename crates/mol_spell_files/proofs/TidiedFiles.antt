-- A program has the files that it has where each of its values is tidied.
use Rattle.std.proofs.Common.{◌≡◌, List, ap, map}
use Rattle.sha2.specs.Sha256.{sha256}
use Rattle.mol_base.specs.Files.{FilePair}
use Rattle.mol_spell_files.specs.Bundle.{bundle, digest_of}
use Rattle.mol_spell_files.specs.ProgramTexts.{printed_height, program_heights, program_texts, written_text}
use Rattle.mol_spell_rules.specs.PrintedFiles.{printed_text}
use Rattle.mol_spell_rules.specs.SpelledUnits.{units_of}
use Rattle.mol_table_rules.proofs.TidyOfTidied.{tidy-tidy}
use Rattle.mol_table_rules.specs.Program.{Program}
use Rattle.mol_table_rules.specs.Rules.{IsProgram}
use Rattle.mol_table_rules.specs.Tidy.{tidy}

module _ (program : Program) (rules : IsProgram program) where
  pub texts-tidied : program_texts (tidy program) ≡ program_texts program
  texts-tidied = ap (λ (whole : Program). map written_text (map printed_text (units_of whole))) (tidy-tidy program rules)

  pub heights-tidied : program_heights (tidy program) ≡ program_heights program
  heights-tidied = ap (λ (whole : Program). map printed_height (units_of whole)) (tidy-tidy program rules)

  pub digest-tidied : digest_of (tidy program) ≡ digest_of program
  digest-tidied = ap (λ (texts : List FilePair). sha256 (bundle texts)) texts-tidied
