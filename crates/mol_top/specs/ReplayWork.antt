-- What `replay` makes over a base that was read, and what stops it.
use Rattle.std.specs.Prelude.{◌≡◌, ◌⊎◌, ℕ, List, Some}
use Rattle.mol_log.specs.declared.log.Log.{Log}
use Rattle.mol_outside.specs.Contents.{Contents}
use Rattle.mol_replay.specs.Replays.{Replays}
use Rattle.mol_spell_files.specs.declared.limits.LimitFault.{LimitFault}
use Rattle.mol_table_rules.specs.Program.{Program}
use Rattle.mol_top.specs.Answers.{limit_status}
use Rattle.mol_top.specs.Command.{ReplayWords}
use Rattle.mol_top.specs.Formatting.{program_refusal}
use Rattle.mol_top.specs.Output.{IsWork, Outcome}
use Rattle.mol_top.specs.Outside.{Store}
use Rattle.mol_top.specs.ProgramWork.{IsFilesWork}
use Rattle.mol_top.specs.Refused.{IsForMemory}
use Rattle.mol_top.specs.Replaying.{ComesToOver, RefuseReplay, RefusesOver, left_by}
use Rattle.mol_top.specs.Report.{line_bytes, refusal_line}
use Rattle.mol_top.specs.Steps.{StopsBy}
use Rattle.mol_top.specs.UncleanLines.{program_line}
use Rattle.mol_top.specs.declared.output.Work.{Work}
use Rattle.mol_top.specs.declared.refusal.Refusal.{Refusal}

-- # Files

-- the files of a program pass a limit
pub record IsForLimit (program : Program) (refusal : Refusal) : Type 0 where
  pub fault : LimitFault
  pub refused : program_refusal program ≡ Some (limit_status fault)
  pub is : refusal.status ≡ limit_status fault
  pub line : line_bytes refusal.line ≡ refusal_line refusal.status

abbrev pub IsRefusalOfLimits : Program → Refusal → Type 0
IsRefusalOfLimits program refusal = IsForMemory refusal ⊎ IsForLimit program refusal

-- # A replay

-- a log does not replay on a base
pub record IsForReplay (base : Program) (log : Log) (refusal : Refusal) : Type 0 where
  pub refused : RefuseReplay base log refusal.status
  pub line : line_bytes refusal.line ≡ program_line base refusal.status

abbrev pub IsRefusalOfReplay : Program → Log → Refusal → Type 0
IsRefusalOfReplay base log refusal = IsForMemory refusal ⊎ IsForReplay base log refusal

-- a log replays on a base, and this is made of what it leaves
pub record IsReplayWork (out : List ℕ) (base : Program) (log : Log) (work : Work) : Type 0 where
  pub replays : Replays base log
  pub made : IsFilesWork out (left_by base log) work

-- it replays, and what it leaves passes a limit
pub record IsForLeft (base : Program) (log : Log) (refusal : Refusal) : Type 0 where
  pub replays : Replays base log
  pub limit : IsForLimit (left_by base log) refusal

abbrev pub IsReplayStopped : Program → Log → Refusal → Type 0
IsReplayStopped base log refusal = IsRefusalOfReplay base log refusal ⊎ IsForLeft base log refusal

-- # Over a base

-- the path of the log, or that of the folder OUT
abbrev pub IsLogOrOut : ReplayWords → List ℕ → Type 0
IsLogOrOut words path = (path ≡ words.log) ⊎ (path ≡ words.out)

-- the command comes to an outcome over a base, and this is made for it
pub record IsMadeOver (words : ReplayWords) (base : Program) (held : Contents) (work : Work) : Type 0 where
  pub outcome : Outcome
  pub comes : ComesToOver words base held outcome
  pub is : IsWork work outcome

-- it stops over a base, and this is its refusal
pub record IsStoppedOver (words : ReplayWords) (base : Program) (old new : Store) (refusal : Refusal) : Type 0 where
  pub cause : StopsBy (IsLogOrOut words) old new (RefusesOver words base) refusal.status
  pub line : line_bytes refusal.line ≡ program_line base refusal.status
