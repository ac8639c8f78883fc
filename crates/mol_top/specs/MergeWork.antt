-- What `merge` makes over a base that was read, and what stops it.
use Rattle.std.specs.Prelude.{◌≡◌, ◌⊎◌, ℕ, List}
use Rattle.mol_faults_rules.specs.declared.conflict.Conflict.{Conflict}
use Rattle.mol_log.specs.declared.log.Log.{Log}
use Rattle.mol_merge.specs.declared.outcome.MergeFault.{MergeFault}
use Rattle.mol_merge.specs.declared.outcome.Outcome.{Outcome as Answer}
use Rattle.mol_merge.specs.declared.outcome.Outcome.TheVariants.{Conflicts, Merged}
use Rattle.mol_merge.specs.Outcomes.{AreMergeable}
use Rattle.mol_base.specs.Files.{FilePair, file_pairs}
use Rattle.mol_outside.specs.Contents.{Contents}
use Rattle.mol_table_rules.specs.Program.{Program}
use Rattle.mol_top.specs.Answers.{merge_status}
use Rattle.mol_top.specs.Command.{MergeWords}
use Rattle.mol_top.specs.Merging.{ComesToOver, HasRest, MergesTo, RefuseMerge, RefusesOver, RefusesWith, conflicts_outcome, files_outcome}
use Rattle.mol_top.specs.Output.{IsWork, Outcome}
use Rattle.mol_top.specs.Outside.{Store}
use Rattle.mol_top.specs.Refused.{IsForMemory}
use Rattle.mol_top.specs.Report.{line_bytes}
use Rattle.mol_top.specs.Steps.{StopsBy}
use Rattle.mol_top.specs.UncleanLines.{program_line}
use Rattle.mol_top.specs.declared.output.Work.{Work}
use Rattle.mol_top.specs.declared.refusal.Refusal.{Refusal}

-- # An answer

-- this is made of the files of a merge, and of its log
abbrev pub IsMergedWork : List ℕ → List FilePair → Log → Work → Type 0
IsMergedWork out texts log work = IsWork work (files_outcome out texts log)

-- this is made of conflicts
abbrev pub IsConflictsWork : Program → List Conflict → Work → Type 0
IsConflictsWork base list work = IsWork work (conflicts_outcome base list)

-- this is made of an answer
abbrev pub IsAnswerWork : List ℕ → Program → Answer → Work → Type 0
IsAnswerWork out base (Merged merged) work = IsMergedWork out (file_pairs merged.files) merged.log work
IsAnswerWork out base (Conflicts list) work = IsConflictsWork base list work

-- # Two logs

-- two logs merge or conflict, and this is made of it
pub record IsMergeWork (out : List ℕ) (base : Program) (first second : Log) (work : Work) : Type 0 where
  pub mergeable : AreMergeable base first second
  pub outcome : Outcome
  pub comes : MergesTo out base first second outcome
  pub is : IsWork work outcome

-- the refusal of two logs for a fault, with its line
pub record IsForMergeFault (base : Program) (fault : MergeFault) (refusal : Refusal) : Type 0 where
  pub is : refusal.status ≡ merge_status fault
  pub line : line_bytes refusal.line ≡ program_line base refusal.status

abbrev pub IsRefusalOfMergeFault : Program → MergeFault → Refusal → Type 0
IsRefusalOfMergeFault base fault refusal = IsForMemory refusal ⊎ IsForMergeFault base fault refusal

-- two logs are not merged
pub record IsForMerge (base : Program) (first second : Log) (refusal : Refusal) : Type 0 where
  pub refused : RefuseMerge base first second refusal.status
  pub line : line_bytes refusal.line ≡ program_line base refusal.status

abbrev pub IsRefusalOfMerge : Program → Log → Log → Refusal → Type 0
IsRefusalOfMerge base first second refusal = IsForMemory refusal ⊎ IsForMerge base first second refusal

-- # Over a base

-- the path of the second log, or that of the folder OUT
abbrev pub IsSecondOrOut : MergeWords → List ℕ → Type 0
IsSecondOrOut words path = (path ≡ words.second) ⊎ (path ≡ words.out)

-- the path of a log, or that of the folder OUT
abbrev pub IsLogOrOut : MergeWords → List ℕ → Type 0
IsLogOrOut words path = (path ≡ words.first) ⊎ IsSecondOrOut words path

-- the command comes to an outcome over a base and its first log, and this is made for it
pub record IsMadeWith (words : MergeWords) (base : Program) (first : Log) (held : Contents) (work : Work) : Type 0 where
  pub second : Log
  pub has : HasRest words held second
  pub made : IsMergeWork words.out base first second work

-- so over a base
pub record IsMadeOver (words : MergeWords) (base : Program) (held : Contents) (work : Work) : Type 0 where
  pub outcome : Outcome
  pub comes : ComesToOver words base held outcome
  pub is : IsWork work outcome

-- the command stops over a base and its first log, and this is its refusal
pub record IsStoppedWith (words : MergeWords) (base : Program) (first : Log) (old new : Store) (refusal : Refusal) : Type 0 where
  pub cause : StopsBy (IsSecondOrOut words) old new (RefusesWith words base first) refusal.status
  pub line : line_bytes refusal.line ≡ program_line base refusal.status

-- so over a base
pub record IsStoppedOver (words : MergeWords) (base : Program) (old new : Store) (refusal : Refusal) : Type 0 where
  pub cause : StopsBy (IsLogOrOut words) old new (RefusesOver words base) refusal.status
  pub line : line_bytes refusal.line ≡ program_line base refusal.status
