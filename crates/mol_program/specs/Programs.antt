-- Files that are the sources of a program, and what is wrong first with others.
use Rattle.std.specs.Prelude.{◌≡◌, ◌≢◌, ◌⊎◌, ⊤, ℕ, List, ◌∷◌, ◌++◌, Some, slice_get}
use Rattle.std.specs.List.{All, AllZip}
use Rattle.mol_base.specs.Lines.{column, line}
use Rattle.mol_base.specs.declared.file.Place.{Place}
use Rattle.mol_resolve_faults.specs.first_faults.FirstByPath.{IsFirstOf}
use Rattle.mol_resolve_faults.specs.ResolveFaults.{place_of}
use Rattle.mol_resolve_faults.specs.declared.fault.ResolveFault.{ResolveFault}
use Rattle.mol_resolve_faults.specs.declared.fault.ResolveFault.TheVariants as names
use Rattle.mol_program.specs.FaultTexts.{place_at}
use Rattle.mol_base.specs.Files.{FilePair}
use Rattle.mol_program.specs.SourceTexts.{text_of, texts_of}
use Rattle.mol_program.specs.declared.fault.SourceFault.{SourceFault}
use Rattle.mol_program.specs.declared.fault.SourceFault.TheVariants.{Lex, Parse, Resolve}
use Rattle.mol_program.specs.declared.fault.ReadFault.{ReadFault}
use Rattle.mol_program.specs.declared.fault.ReadFault.TheVariants.{Refused, OutOfMemory}
use Rattle.jav_source.specs.Sources.{IsFaultOf}
use Rattle.jav_source.specs.declared.fault.TextFault.{TextFault}
use Rattle.jav_source.specs.declared.fault.TextFault.TheVariants as text
use Rattle.mol_resolve_rules.specs.Files.{File, Files}
use Rattle.mol_resolve_rules.specs.ReadAs.{FilesReadAs, IsParsed, IsPlain}
use Rattle.mol_table_rules.specs.Program.{Program}

-- # Programs

-- the files are the sources of these trees, one of each
abbrev pub AreParsed : List FilePair → Files → Type 0
AreParsed files trees = AllZip IsParsed (texts_of files) trees

-- the files are the sources of trees that read as this program, which is in plain form
pub record IsReadAs (files : List FilePair) (program : Program) : Type 0 where
  pub trees : Files
  pub parsed : AreParsed files trees
  pub read : FilesReadAs trees program
  pub plain : IsPlain trees program

-- # Files that are none

-- a file is the source of a tree
pub record IsSourceFile (file : FilePair) : Type 0 where
  pub tree : File
  pub parsed : IsParsed (text_of file) tree

-- the first of these files that is the source of no tree, and what is wrong with it
pub record IsFirstUnread (files : List FilePair) (file : FilePair) (fault : TextFault) : Type 0 where
  pub before : List FilePair
  pub after : List FilePair
  pub split : files ≡ before ++ file ∷ after
  pub sources : All IsSourceFile before
  pub there : IsFaultOf file.1 fault

-- each file is the source of a tree, and this is the first fault of the names in these, with the file that it is in
pub record IsFirstMisnamed (files : List FilePair) (file : FilePair) (fault : ResolveFault) : Type 0 where
  pub trees : Files
  pub parsed : AreParsed files trees
  pub first : IsFirstOf trees fault
  pub stands : slice_get files (place_of fault).unit ≡ Some file

-- what is wrong first with these files as the sources of a program, and with which of them
abbrev pub IsFirstWrong : List FilePair → FilePair → SourceFault → Type 0
IsFirstWrong files file (Lex fault) = IsFirstUnread files file (text.Lex fault)
IsFirstWrong files file (Parse fault) = IsFirstUnread files file (text.Parse fault)
IsFirstWrong files file (Resolve fault) = IsFirstMisnamed files file fault

-- where it is
abbrev pub place_in : FilePair → SourceFault → Place
place_in file fault = record {
  file = file.0;
  line = line file.1 (place_at file.1 fault);
  column = column file.1 (place_at file.1 fault);
}

-- The files are no program: this is wrong first, at this place.
pub record AreRefused (files : List FilePair) (place : Place) (fault : SourceFault) : Type 0 where
  pub file : FilePair
  pub first : IsFirstWrong files file fault
  pub at : place ≡ place_in file fault

-- # What is answered

-- what a call answers where files are no program; of want of memory nothing is said
abbrev pub Refuses : List FilePair → ReadFault → Type 0
Refuses files (Refused place fault) = AreRefused files place fault
Refuses files OutOfMemory = ⊤

-- the same of one file that is the source of no tree
abbrev pub IsUnread : FilePair → ReadFault → Type 0
IsUnread file (Refused place (Lex fault)) = IsFaultOf file.1 (text.Lex fault) × (place ≡ place_in file (Lex fault))
IsUnread file (Refused place (Parse fault)) = IsFaultOf file.1 (text.Parse fault) × (place ≡ place_in file (Parse fault))
IsUnread file (Refused place (Resolve fault)) = ⊥
IsUnread file OutOfMemory = ⊤

-- unless it is want of memory, a fault of names is the first one of these files
abbrev pub ReportsNames : List FilePair → ResolveFault → Type 0
ReportsNames files fault = fault ≢ names.OutOfMemory → (file : FilePair) × IsFirstMisnamed files file fault

-- what is wrong with the text of a file; of faults of names nothing is said
abbrev pub IsWrongWith : List ℕ → SourceFault → Type 0
IsWrongWith bytes (Lex fault) = IsFaultOf bytes (text.Lex fault)
IsWrongWith bytes (Parse fault) = IsFaultOf bytes (text.Parse fault)
IsWrongWith bytes (Resolve fault) = ⊤

-- the refusal of a file for this, or want of memory
abbrev pub IsRefusedFor : FilePair → SourceFault → ReadFault → Type 0
IsRefusedFor file fault refusal = (refusal ≡ OutOfMemory) ⊎ (refusal ≡ Refused (place_in file fault) fault)
