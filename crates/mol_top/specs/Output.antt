-- What a command comes to, what is made of it before the first write, and what is left of a store.
use Rattle.std.specs.Prelude.{◌≡◌, ◌<◌, ℕ, List, [], length, map, fold, Option}
use Rattle.std.specs.List.{All}
use Rattle.mol_base.specs.declared.file.File.{File}
use Rattle.mol_outside.specs.Contents.{Contents, written_at}
use Rattle.mol_base.specs.Files.{file_pairs, FilePair}
use Rattle.mol_top.specs.Command.{joined}
use Rattle.mol_top.specs.Report.{refusal_line}
use Rattle.mol_top.specs.declared.output.Work.{Work}
use Rattle.mol_top.specs.declared.status.Status.TheVariants.{WriteFailed}

-- # Outcomes

-- in how many places logs conflict, the files that are written in their order, and what is printed
pub record Outcome : Type 0 where
  pub conflicts : ℕ
  pub files : List FilePair
  pub report : List ℕ

-- files below a folder
abbrev pub below : List ℕ → List FilePair → List FilePair
below out files = map (λ (file : FilePair). (joined out file.0, file.1)) files

-- what is held after these files are written in turn
abbrev pub written_all : List FilePair → Option Contents → Option Contents
written_all files held = fold (λ h (file : FilePair). written_at file.0 file.1 h) held files

-- # What is made

-- no path is empty
abbrev pub AreNamed : List File → Type 0
AreNamed files = All (λ (file : File). 0 < length file.path) files

-- the line that names a file whose write failed
abbrev pub failure_of : File → List ℕ
failure_of file = refusal_line (WriteFailed file.path)

-- this is made for an outcome
pub record IsWork (work : Work) (outcome : Outcome) : Type 0 where
  pub conflicts : work.conflicts ≡ outcome.conflicts
  pub files : file_pairs work.files.items ≡ outcome.files
  pub report : work.report.items ≡ outcome.report
  pub failures : work.failures.items ≡ map failure_of work.files.items
  pub named : AreNamed work.files.items
  pub apart : 0 < work.conflicts → work.files.items ≡ []

-- this can be carried out: no path is empty, no file is written beside conflicts, and each file has its line
pub record IsReady (work : Work) : Type 0 where
  pub named : AreNamed work.files.items
  pub apart : 0 < work.conflicts → work.files.items ≡ []
  pub failures : work.failures.items ≡ map failure_of work.files.items
