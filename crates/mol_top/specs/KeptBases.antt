-- The sources of a base, from which its program can be read again.
use Rattle.std.specs.Prelude.{◌≡◌, List}
use Rattle.mol_base.specs.Files.{ArePathsApart, AreSmall, file_pairs}
use Rattle.mol_base.specs.declared.file.File.{File}
use Rattle.mol_program.specs.Programs.{IsReadAs}
use Rattle.mol_table_rules.specs.Program.{Program}
use Rattle.mol_top.specs.declared.kept_base.KeptBase.{KeptBase}

-- files that can be read, and read as this program
pub record AreSources (sources : List File) (program : Program) : Type 0 where
  pub small : AreSmall sources
  pub apart : ArePathsApart (file_pairs sources)
  pub read_as : IsReadAs (file_pairs sources) program

-- these files are kept beside the program that they read as
pub record IsKept (read : List File) (kept : KeptBase) : Type 0 where
  pub same : kept.sources.items ≡ read
  pub are : AreSources kept.sources.items kept.table
