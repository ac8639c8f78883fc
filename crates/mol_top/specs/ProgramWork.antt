-- What is made of the files of a program, and what stops it.
use Rattle.std.specs.Prelude.{◌≡◌, ◌⊎◌, ℕ, ⊤, List, None, Some}
use Rattle.mol_spell_files.specs.ProgramTexts.{program_texts}
use Rattle.mol_spell_rules.specs.Clean.{Clean}
use Rattle.mol_table_rules.specs.Program.{Program}
use Rattle.mol_top.specs.Answers.{limit_status, store_status}
use Rattle.mol_top.specs.Carried.{Carries, IsInside, NoPath}
use Rattle.mol_top.specs.Formatting.{IsTextWork, MakesFiles, output_refusal, program_refusal}
use Rattle.mol_top.specs.Outside.{IfTold, Store}
use Rattle.mol_top.specs.Refused.{IsRefusalOfProgram}
use Rattle.mol_top.specs.Report.{line_bytes, refusal_line}
use Rattle.mol_top.specs.Steps.{Only, Stops}
use Rattle.mol_top.specs.declared.fault.StoreFault.{StoreFault}
use Rattle.mol_top.specs.declared.fault.StoreFault.TheVariants as stores
use Rattle.mol_top.specs.declared.output.Work.{Work}
use Rattle.mol_top.specs.declared.refusal.Refusal.{Refusal}
use Rattle.mol_top.specs.declared.status.Status.TheVariants.{OutOfMemory}

-- the files of a program are within the limits, and this is made of them below a folder
pub record IsFilesWork (out : List ℕ) (program : Program) (work : Work) : Type 0 where
  pub allowed : program_refusal program ≡ None
  pub is : IsTextWork out (program_texts program) work

-- they are not made: for want of memory, or because they pass a limit
abbrev pub StopsLarge : Program → StoreFault → Type 0
StopsLarge program stores.OutOfMemory = ⊤
StopsLarge program (stores.Limit fault) = program_refusal program ≡ Some (limit_status fault)
StopsLarge program fault = ⊥

-- # A program that was read

-- the program is clean, and this is made of its files below a folder, where the store tells
pub record IsCleanWork (out : List ℕ) (program : Program) (store : Store) (work : Work) : Type 0 where
  pub clean : Clean program
  pub made : IfTold store.held (λ h. MakesFiles out program h work)

-- the program is clean, and its files are stopped, or there is no memory for the line of what stops them
pub record IsForFiles (out : List ℕ) (program : Program) (old new : Store) (refusal : Refusal) : Type 0 where
  pub clean : Clean program
  pub fault : StoreFault
  pub stops : Stops (Only out) old new (output_refusal out program) fault
  pub carries : Carries (Only out) NoPath (IsInside out) (store_status fault)
  pub status : (refusal.status ≡ store_status fault) ⊎ (refusal.status ≡ OutOfMemory)
  pub line : line_bytes refusal.line ≡ refusal_line refusal.status

-- the program is refused, or its files are stopped
abbrev pub IsProgramStopped : List ℕ → Program → Store → Store → Refusal → Type 0
IsProgramStopped out program old new refusal = IsRefusalOfProgram program refusal ⊎ IsForFiles out program old new refusal
