-- The bundle of files, and the digest of a program.
use Rattle.std.specs.Prelude.{ℕ, List, [], ◌∷◌, ◌++◌, length, map}
use Rattle.std.specs.Fmt.{decimal}
use Rattle.std.specs.List.{concat}
use Rattle.sha2.specs.Sha256.{sha256}
use Rattle.mol_base.specs.Files.{FilePair}
use Rattle.mol_spell_files.specs.ProgramTexts.{program_texts}
use Rattle.mol_table_rules.specs.Program.{Program}

-- the path and the length in bytes of a file, each with LF (10) behind it
abbrev pub head_of : FilePair → List ℕ
head_of file = file.0 ++ 10 ∷ decimal (length file.1) ++ 10 ∷ []

-- a file in a bundle: these, and its bytes
abbrev pub bundled : FilePair → List ℕ
bundled file = head_of file ++ file.1

-- all files, one after another
abbrev pub bundle : List FilePair → List ℕ
bundle files = concat (map bundled files)

-- SHA-256 (FIPS 180-4) of the bundle of a program's files, in the order of their paths
abbrev pub digest_of : Program → List ℕ
digest_of program = sha256 (bundle (program_texts program))
