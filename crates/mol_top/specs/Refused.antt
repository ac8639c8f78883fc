-- Refusals of files and programs, each with its line.
use Rattle.std.specs.Prelude.{◌≡◌, ◌⊎◌, List}
use Rattle.mol_base.specs.Files.{FilePair}
use Rattle.mol_table_rules.specs.Program.{Program}
use Rattle.mol_top.specs.Bases.{RefuseFiles, RefuseProgram}
use Rattle.mol_top.specs.Report.{line_bytes, refusal_line}
use Rattle.mol_top.specs.UncleanLines.{program_line}
use Rattle.mol_top.specs.declared.refusal.Refusal.{Refusal}
use Rattle.mol_top.specs.declared.status.Status.{Status}
use Rattle.mol_top.specs.declared.status.Status.TheVariants.{OutOfMemory}

-- want of memory, with its line
pub record IsForMemory (refusal : Refusal) : Type 0 where
  pub status : refusal.status ≡ OutOfMemory
  pub line : line_bytes refusal.line ≡ refusal_line OutOfMemory

-- a program is refused for its first fault, and the line names its addresses
pub record IsForFault (program : Program) (refusal : Refusal) : Type 0 where
  pub refused : RefuseProgram program refusal.status
  pub line : line_bytes refusal.line ≡ program_line program refusal.status

abbrev pub IsRefusalOfProgram : Program → Refusal → Type 0
IsRefusalOfProgram program refusal = IsForMemory refusal ⊎ IsForFault program refusal

-- files are refused for what is wrong with them first
pub record IsForFile (files : List FilePair) (refusal : Refusal) : Type 0 where
  pub refused : RefuseFiles files refusal.status
  pub line : line_bytes refusal.line ≡ refusal_line refusal.status

abbrev pub IsRefusalOfFiles : List FilePair → Refusal → Type 0
IsRefusalOfFiles files refusal = IsForMemory refusal ⊎ IsForFile files refusal
