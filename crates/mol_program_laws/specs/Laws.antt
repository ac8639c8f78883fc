-- The laws of files as the sources of a program.
use Rattle.std.specs.Prelude.{◌≡◌, ◌⊎◌, List}
use Rattle.mol_base.specs.Files.{ArePathsApart, FilePair}
use Rattle.mol_base.specs.declared.file.Place.{Place}
use Rattle.mol_program.specs.Programs.{AreRefused, IsReadAs}
use Rattle.mol_program.specs.declared.fault.SourceFault.{SourceFault}
use Rattle.mol_table_rules.specs.Program.{Program}
use Rattle.mol_table_rules.specs.Rules.{IsProgram as KeepsRules}

-- the files read as a program in plain form
pub record HasProgram (files : List FilePair) : Type 0 where
  pub program : Program
  pub read : IsReadAs files program

-- they are none
pub record HasFault (files : List FilePair) : Type 0 where
  pub place : Place
  pub fault : SourceFault
  pub refused : AreRefused files place fault

-- Files are the sources of a program or something is wrong with them first, and not both. There is one such program, which keeps the rules of
-- programs; and where the paths of the files differ, one thing is wrong first, at one place.
pub record FilesTold : Type 0 where
  pub either : (files : List FilePair) → HasProgram files ⊎ HasFault files
  pub apart : (files : List FilePair) (program : Program) (place : Place) (fault : SourceFault) → IsReadAs files program
      → ¬ AreRefused files place fault
  pub one_program : (files : List FilePair) (first second : Program) → IsReadAs files first → IsReadAs files second → first ≡ second
  pub rules : (files : List FilePair) (program : Program) → IsReadAs files program → KeepsRules program
  pub one_fault : (files : List FilePair) → ArePathsApart files → (place other : Place) (fault second : SourceFault)
      → AreRefused files place fault → AreRefused files other second → (place ≡ other) × (fault ≡ second)
