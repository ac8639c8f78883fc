-- Bases whose files are a clean program, and what refuses others.
use Rattle.std.specs.Prelude.{◌≡◌, ℕ, List, None, Some}
use Rattle.mol_base.specs.declared.file.Place.{Place}
use Rattle.mol_outside.specs.Contents.{Contents}
use Rattle.mol_faults_rules.specs.Kept.{kept_fault}
use Rattle.mol_faults_rules.specs.declared.fault.Fault.{Fault}
use Rattle.mol_faults.specs.First.{IsFirst}
use Rattle.mol_base.specs.Files.{FilePair}
use Rattle.mol_program.specs.Programs.{AreRefused, IsReadAs}
use Rattle.mol_program.specs.declared.fault.SourceFault.{SourceFault}
use Rattle.mol_spell_rules.specs.Clean.{Clean}
use Rattle.mol_table_rules.specs.Program.{Program}
use Rattle.mol_table_rules.specs.Rules.{IsProgram as KeepsRules}
use Rattle.mol_top.specs.Files.{base_files}
use Rattle.mol_top.specs.Refusals.{reading_refusal}
use Rattle.mol_top.specs.declared.status.BaseFault.TheVariants.{Source, Unclean}
use Rattle.mol_top.specs.declared.status.Status.{Status}
use Rattle.mol_top.specs.declared.status.Status.TheVariants.{BaseRefused}

-- nothing refuses the reading of a base, and its files read as this program, which is in plain form
pub record IsBaseOf (base : List ℕ) (held : Contents) (program : Program) : Type 0 where
  pub read : reading_refusal base held ≡ None
  pub read_as : IsReadAs (base_files base held) program

-- so it is, and the program keeps the rules of programs and is clean: each name in its files will mean what it means
pub record IsCleanBase (base : List ℕ) (held : Contents) (program : Program) : Type 0 where
  pub is : IsBaseOf base held program
  pub rules : KeepsRules program
  pub clean : Clean program

-- files are refused: for what is wrong with them first, at its place
pub record RefuseFiles (files : List FilePair) (status : Status) : Type 0 where
  pub place : Place
  pub fault : SourceFault
  pub wrong : AreRefused files place fault
  pub is : status ≡ BaseRefused (Source place fault)

-- a program that is not clean is refused: for its first fault
pub record RefuseProgram (program : Program) (status : Status) : Type 0 where
  pub fault : Fault
  pub first : IsFirst program (Some (kept_fault fault))
  pub is : status ≡ BaseRefused (Unclean fault)

-- what refuses a base that is to be a clean program, in the order of a run
pub data BaseRefuses (base : List ℕ) (held : Contents) (status : Status) : Type 0 where
  reading : reading_refusal base held ≡ Some status → BaseRefuses base held status
  files : reading_refusal base held ≡ None → RefuseFiles (base_files base held) status → BaseRefuses base held status
  unclean : (program : Program) → IsBaseOf base held program → RefuseProgram program status → BaseRefuses base held status
