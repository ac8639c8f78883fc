-- What `merge` writes or prints, and what refuses it.
use Rattle.std.specs.Prelude.{◌≡◌, ◌≢◌, ℕ, List, [], ◌∷◌, ◌++◌, codes, length, None, Some}
use Rattle.mol_base.specs.Files.{FilePair}
use Rattle.mol_faults_rules.specs.declared.conflict.Conflict.{Conflict}
use Rattle.mol_log.specs.Written.{written}
use Rattle.mol_log.specs.declared.log.Log.{Log}
use Rattle.mol_merge.specs.Outcomes as merges
use Rattle.mol_merge.specs.Outcomes.{AreConflictsBy, AreMergeable, united_by, written_limit}
use Rattle.mol_merge.specs.declared.outcome.MergeFault.{MergeFault}
use Rattle.mol_merge_rules.specs.TwoLogs.{IsMergedLog, greater, lesser}
use Rattle.mol_outside.specs.Contents.{Contents}
use Rattle.mol_report_conflicts.specs.Conflicts.{conflicts_text}
use Rattle.mol_spell_files.specs.ProgramTexts.{program_texts}
use Rattle.mol_table_rules.specs.Program.{Program}
use Rattle.mol_top.specs.Answers.{merge_status}
use Rattle.mol_top.specs.Bases.{BaseRefuses, IsCleanBase}
use Rattle.mol_top.specs.Command.{MergeWords, joined}
use Rattle.mol_top.specs.Logs.{IsLogAt, LogRefuses}
use Rattle.mol_top.specs.Output.{Outcome, below}
use Rattle.mol_top.specs.Refusals.{out_refusal}
use Rattle.mol_top.specs.Report.{merge_report}
use Rattle.mol_top.specs.declared.status.Status.{Status}

-- # Outcomes

-- files below OUT, and then a log
abbrev pub with_log : List ℕ → List FilePair → Log → List FilePair
with_log out texts log = below out texts ++ (joined out (codes "merged.mol"), written log) ∷ []

abbrev pub files_outcome : List ℕ → List FilePair → Log → Outcome
files_outcome out texts log = record {
  conflicts = 0;
  files = with_log out texts log;
  report = merge_report (length texts) (length log.entries);
}

-- the files of what both logs leave, and then the log of both
abbrev pub merged_outcome : List ℕ → Program → Log → Outcome
merged_outcome out united merged = files_outcome out (program_texts united) merged

-- conflicts are printed, and nothing is written
abbrev pub conflicts_outcome : Program → List Conflict → Outcome
conflicts_outcome base list = record { conflicts = length list; files = []; report = conflicts_text base list }

-- # Over two logs, given in whichever order

-- what both leave together of a base
abbrev pub left_by_both : Program → Log → Log → Program
left_by_both base first second = united_by base (lesser first second) (greater first second)

-- these are all their conflicts
abbrev pub AreConflictsOfBoth : Program → Log → Log → List Conflict → Type 0
AreConflictsOfBoth base first second = AreConflictsBy base (lesser first second) (greater first second)

-- this is the log of both
abbrev pub IsLogOfBoth : Log → Log → Log → Type 0
IsLogOfBoth first second = IsMergedLog (lesser first second) (greater first second)

-- nothing in them conflicts, this is the log of both, and it and the files of what both leave are within the limits
pub record Merge (base : Program) (first second merged : Log) : Type 0 where
  pub none : AreConflictsOfBoth base first second []
  pub log : IsLogOfBoth first second merged
  pub within : written_limit (left_by_both base first second) (lesser first second) (greater first second) ≡ None

-- they come to this: their merge where nothing conflicts, and else all their conflicts
pub data MergesTo (out : List ℕ) (base : Program) (first second : Log) (outcome : Outcome) : Type 0 where
  merged : (log : Log) → Merge base first second log → outcome ≡ merged_outcome out (left_by_both base first second) log
      → MergesTo out base first second outcome
  conflicts : (list : List Conflict) → list ≢ [] → AreConflictsOfBoth base first second list → outcome ≡ conflicts_outcome base list
      → MergesTo out base first second outcome

-- two logs are refused: for the first of what says so
pub record RefuseMerge (base : Program) (first second : Log) (status : Status) : Type 0 where
  pub fault : MergeFault
  pub refuses : merges.MergeRefuses base first second fault
  pub is : status ≡ merge_status fault

-- # Over a base

-- a second log is there, and nothing lies below OUT
pub record HasRest (words : MergeWords) (held : Contents) (second : Log) : Type 0 where
  pub there : IsLogAt words.second held second
  pub free : out_refusal words.out held ≡ None

-- so are both logs
pub record HasLogs (words : MergeWords) (held : Contents) (first second : Log) : Type 0 where
  pub there : IsLogAt words.first held first
  pub rest : HasRest words held second

-- what refuses the command over a base and its first log: the second log, the folder OUT, and the merge
pub data RefusesWith (words : MergeWords) (base : Program) (first : Log) (held : Contents) (status : Status) : Type 0 where
  second : LogRefuses 2 words.second held status → RefusesWith words base first held status
  out : (second : Log) → IsLogAt words.second held second → out_refusal words.out held ≡ Some status
      → RefusesWith words base first held status
  merge : (second : Log) → HasRest words held second → RefuseMerge base first second status
      → RefusesWith words base first held status

-- what refuses it over a base, in the order of a run: the first log, and then the rest
pub data RefusesOver (words : MergeWords) (base : Program) (held : Contents) (status : Status) : Type 0 where
  first : LogRefuses 1 words.first held status → RefusesOver words base held status
  rest : (first : Log) → IsLogAt words.first held first → RefusesWith words base first held status → RefusesOver words base held status

-- nothing refuses it over a base, and it comes to this
pub record ComesToOver (words : MergeWords) (base : Program) (held : Contents) (outcome : Outcome) : Type 0 where
  pub first : Log
  pub second : Log
  pub has : HasLogs words held first second
  pub mergeable : AreMergeable base first second
  pub comes : MergesTo words.out base first second outcome

-- # The command

-- what refuses the command: its base, and then what refuses it over the base
pub data MergeRefuses (words : MergeWords) (held : Contents) (status : Status) : Type 0 where
  base : BaseRefuses words.base held status → MergeRefuses words held status
  over : (base : Program) → IsCleanBase words.base held base → RefusesOver words base held status → MergeRefuses words held status

-- nothing refuses the command, and it comes to this
pub record MergeComesTo (words : MergeWords) (held : Contents) (outcome : Outcome) : Type 0 where
  pub base : Program
  pub clean : IsCleanBase words.base held base
  pub comes : ComesToOver words base held outcome
