-- What `fmt` writes, and what refuses it.
use Rattle.std.specs.Prelude.{◌≡◌, ℕ, List, length, Option, None, Some, option_map}
use Rattle.std.specs.Option.{option_or}
use Rattle.mol_base.specs.Files.{FilePair}
use Rattle.mol_outside.specs.Contents.{Contents}
use Rattle.mol_spell_files.specs.FileLimits.{files_limit}
use Rattle.mol_spell_files.specs.ProgramTexts.{program_heights, program_texts}
use Rattle.mol_table_rules.specs.Program.{Program}
use Rattle.mol_top.specs.Answers.{limit_status}
use Rattle.mol_top.specs.Bases.{BaseRefuses, IsCleanBase}
use Rattle.mol_top.specs.Command.{FmtWords}
use Rattle.mol_top.specs.Output.{IsWork, Outcome, below}
use Rattle.mol_top.specs.Refusals.{out_refusal}
use Rattle.mol_top.specs.Report.{fmt_report}
use Rattle.mol_top.specs.declared.output.Work.{Work}
use Rattle.mol_top.specs.declared.status.Status.{Status}

-- # What refuses the files of a program, and what is made of them

-- they pass a limit
abbrev pub program_refusal : Program → Option Status
program_refusal program = option_map limit_status (files_limit (program_texts program) (program_heights program))

-- the folder in which they are to be written is in use, or they pass a limit
abbrev pub output_refusal : List ℕ → Program → Contents → Option Status
output_refusal out program held = option_or (out_refusal out held) (program_refusal program)

abbrev pub fmt_outcome : List ℕ → List FilePair → Outcome
fmt_outcome out texts = record { conflicts = 0; files = below out texts; report = fmt_report (length texts) }

abbrev pub IsTextWork : List ℕ → List FilePair → Work → Type 0
IsTextWork out texts work = IsWork work (fmt_outcome out texts)

-- nothing refuses the files of a program below a folder, and this is made of them
pub record MakesFiles (out : List ℕ) (program : Program) (held : Contents) (work : Work) : Type 0 where
  pub allowed : output_refusal out program held ≡ None
  pub is : IsTextWork out (program_texts program) work

-- # The command

-- what refuses the command, in the order of a run
pub data FmtRefuses (words : FmtWords) (held : Contents) (status : Status) : Type 0 where
  base : BaseRefuses words.base held status → FmtRefuses words held status
  files : (program : Program) → IsCleanBase words.base held program → output_refusal words.out program held ≡ Some status
      → FmtRefuses words held status

-- Nothing refuses the command, and it comes to this: the files of the program that the base is.
pub record FmtComesTo (words : FmtWords) (held : Contents) (outcome : Outcome) : Type 0 where
  pub program : Program
  pub base : IsCleanBase words.base held program
  pub allowed : output_refusal words.out program held ≡ None
  pub is : outcome ≡ fmt_outcome words.out (program_texts program)
