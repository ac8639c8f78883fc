-- What a merge of two logs over one base answers, and what refuses it.
use Rattle.std.specs.List.{concat}
use Rattle.std.specs.Option.{option_or}
use Rattle.std.specs.Prelude.{◌≡◌, ◌≢◌, ◌<◌, ℕ, IsFalse, List, [], ◌∷◌, ◌++◌, length, map, Contains, Option, None, Some}
use Rattle.mol_base.specs.Files.{file_pairs}
use Rattle.mol_base.specs.Limits.{most}
use Rattle.mol_base.specs.Order.{tag_cmp}
use Rattle.mol_base.specs.declared.limit.Which.TheVariants.{Operations, LogBytes}
use Rattle.mol_faults_rules.specs.declared.conflict.Conflict.{Conflict}
use Rattle.mol_log.specs.Form.{header_with}
use Rattle.mol_log.specs.Written.{entry_text, line_text}
use Rattle.mol_log.specs.declared.log.Log.{Log}
use Rattle.mol_log_rules.specs.Histories.{after}
use Rattle.mol_log_rules.specs.Logs.{history}
use Rattle.mol_log_rows.specs.lines.Headers.{header_data}
use Rattle.mol_merge.specs.declared.outcome.MergeFault.{MergeFault}
use Rattle.mol_merge.specs.declared.outcome.MergeFault.TheVariants as faults
use Rattle.mol_merge.specs.declared.outcome.Merged.{Merged as MergedFiles}
use Rattle.mol_merge.specs.declared.outcome.Outcome.{Outcome}
use Rattle.mol_merge.specs.declared.outcome.Outcome.TheVariants.{Merged, Conflicts}
use Rattle.mol_merge_rules.specs.Conflicts.{AreConflicts, NamesBoth, is_misread}
use Rattle.mol_merge_rules.specs.TwoLogs.{ShareNoTag, least_shared, lesser, greater, IsMergedLog}
use Rattle.mol_merge_rules.specs.United.{united}
use Rattle.mol_replay.specs.Replays.{Replays, ReplayRefuses}
use Rattle.mol_replay.specs.declared.fault.ReplayFault.{ReplayFault}
use Rattle.mol_spell_files.specs.FileLimits.{files_limit, first_passing}
use Rattle.mol_spell_files.specs.ProgramTexts.{program_texts, program_heights}
use Rattle.mol_spell_files.specs.declared.limits.LimitFault.{LimitFault}
use Rattle.mol_spell_rules.specs.Sets.{as_set}
use Rattle.mol_table_rules.specs.Program.{Program}

-- # What is merged

-- two logs of different tags, each of which replays on the base
pub record AreMergeable (base : Program) (first second : Log) : Type 0 where
  pub apart : ShareNoTag first second
  pub first_replays : Replays base first
  pub second_replays : Replays base second

-- # Limits of the result

-- the written form of the log of two, whether or not there may be such a log: the line of its header, and one for each entry
abbrev pub merged_text : Log → Log → List ℕ
merged_text one other = line_text (header_data (header_with one.base_digest (as_set tag_cmp (one.tags ++ other.tags))))
    ++ concat (map entry_text (one.entries ++ other.entries))

-- it has more entries than a log may have
abbrev pub many_entries : Log → Log → Option LimitFault
many_entries one other = first_passing Operations (length (one.entries ++ other.entries) ∷ [])

-- these are more bytes than it may have
abbrev pub long_log : List ℕ → Option LimitFault
long_log text = first_passing LogBytes (length text ∷ [])

abbrev pub log_limit : Log → Log → Option LimitFault
log_limit one other = option_or (many_entries one other) (long_log (merged_text one other))

-- what refuses a program that is to be written with the log of two: its files first
abbrev pub written_limit : Program → Log → Log → Option LimitFault
written_limit program one other = option_or (files_limit (program_texts program) (program_heights program)) (log_limit one other)

abbrev pub as_limit : LimitFault → MergeFault
as_limit fault = faults.Limit fault.which fault.number

-- the fault is that of this limit
pub record TellsLimit (passes : Option LimitFault) (fault : MergeFault) : Type 0 where
  pub limit : LimitFault
  pub is : fault ≡ as_limit limit
  pub passed : passes ≡ Some limit

-- so it is, unless it is want of memory
abbrev pub IsPassing : Option LimitFault → MergeFault → Type 0
IsPassing passes fault = fault ≢ faults.OutOfMemory → TellsLimit passes fault

-- # Answers

-- the files of a program, and the log of two, within the limits
pub record IsWritten (program : Program) (one other : Log) (merged : MergedFiles) : Type 0 where
  pub files : file_pairs merged.files ≡ program_texts program
  pub log : IsMergedLog one other merged.log
  pub plan : merged.plan ≡ []
  pub dropped : merged.dropped ≡ []
  pub within : written_limit program one other ≡ None

-- of a base, the log with the lesser first tag, and the other one
module _ (base : Program) (one other : Log) where
  -- what both leave together
  abbrev pub united_by : Program
  united_by = united base (history one) (history other)

  -- these are all their conflicts
  abbrev pub AreConflictsBy : List Conflict → Type 0
  AreConflictsBy = AreConflicts base (history one) (history other)

  -- nothing conflicts: what is written is of what both leave
  pub record IsMerged (merged : MergedFiles) : Type 0 where
    pub none : AreConflictsBy []
    pub written : IsWritten united_by one other merged

  -- all conflicts, of which there are some
  pub record AreInTheWay (list : List Conflict) : Type 0 where
    pub are : AreConflictsBy list
    pub some : list ≢ []

  abbrev pub ComesTo : Outcome → Type 0
  ComesTo (Merged merged) = IsMerged merged
  ComesTo (Conflicts list) = AreInTheWay list

  -- the merged log replays on the base, and leaves what both leave together
  abbrev pub IsReplayedBy : Outcome → Type 0
  IsReplayedBy (Merged merged) = Replays base merged.log × (after base (history merged.log) ≡ united_by)
  IsReplayedBy (Conflicts list) = Unit {0}

  -- nothing conflicts, and the result passes a limit
  pub record IsLarge (limit : LimitFault) : Type 0 where
    pub none : AreConflictsBy []
    pub passes : written_limit united_by one other ≡ Some limit

-- the same of two logs in whichever order
abbrev pub IsOutcome : Program → Log → Log → Outcome → Type 0
IsOutcome base first second = ComesTo base (lesser first second) (greater first second)

abbrev pub IsReplayed : Program → Log → Log → Outcome → Type 0
IsReplayed base first second = IsReplayedBy base (lesser first second) (greater first second)

-- each conflict names an entry of each log, but for names that are misread
abbrev pub NameBoth : Log → Log → Outcome → Type 0
NameBoth first second (Merged merged) = Unit {0}
NameBoth first second (Conflicts list) = (conflict : Conflict) → Contains list conflict → IsFalse (is_misread conflict.kind)
    → NamesBoth (history first) (history second) conflict

-- # Refusals

-- Why two logs are not merged: of what is tried in turn it tells the first that fails.
pub data MergeRefuses (base : Program) (first second : Log) : MergeFault → Type 0 where
  shared : {tag : List ℕ} → least_shared first second ≡ Some tag → MergeRefuses base first second (faults.SharedTag tag)
  first_refused : {fault : ReplayFault} → ShareNoTag first second → ReplayRefuses base first fault
      → MergeRefuses base first second (faults.First fault)
  second_refused : {fault : ReplayFault} → ShareNoTag first second → Replays base first → ReplayRefuses base second fault
      → MergeRefuses base first second (faults.Second fault)
  limit : {fault : LimitFault} → AreMergeable base first second → IsLarge base (lesser first second) (greater first second) fault
      → MergeRefuses base first second (as_limit fault)

-- the number of a limit is above it
abbrev pub IsPassed : MergeFault → Type 0
IsPassed (faults.SharedTag tag) = Unit {0}
IsPassed (faults.First fault) = Unit {0}
IsPassed (faults.Second fault) = Unit {0}
IsPassed (faults.Limit which number) = most which < number
IsPassed faults.OutOfMemory = Unit {0}
