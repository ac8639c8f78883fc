-- A program has the digest that it has once it is tidied.
use Rattle.std.proofs.Common.{◌≡◌, ◌∙◌, ap}
use Rattle.std.specs.Prelude.{map, ℕ, List}
use Rattle.sha2.specs.Sha256.{sha256}
use Rattle.mol_spell_files.specs.Bundle.{bundle, digest_of}
use Rattle.mol_spell_files.specs.ProgramTexts.{written_text}
use Rattle.mol_spell_rules.specs.PrintedFiles.{printed_text}
use Rattle.mol_spell_rules.specs.SpelledUnits.{units_of}
use Rattle.mol_table_rules.specs.Program.{Program}
use Rattle.mol_table_rules.specs.Tidy.{tidy}

-- the digest of the files of a program whose values are tidied
abbrev digest_in : Program → List ℕ
digest_in tidied = sha256 (bundle (map written_text (map printed_text (units_of tidied))))

pub same-digest : (base tidied : Program) → tidied ≡ tidy base → tidy tidied ≡ tidied → digest_of tidied ≡ digest_of base
same-digest base tidied is same = ap digest_in (same ∙ is)
