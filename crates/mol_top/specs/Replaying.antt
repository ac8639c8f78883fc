-- What `replay` writes, and what refuses it.
use Rattle.std.specs.Prelude.{◌≡◌, None, Some}
use Rattle.mol_log.specs.declared.log.Log.{Log}
use Rattle.mol_log_rules.specs.Histories.{after}
use Rattle.mol_log_rules.specs.Logs.{history}
use Rattle.mol_outside.specs.Contents.{Contents}
use Rattle.mol_replay.specs.Replays as replaying
use Rattle.mol_replay.specs.Replays.{Replays}
use Rattle.mol_replay.specs.declared.fault.ReplayFault.{ReplayFault}
use Rattle.mol_spell_files.specs.ProgramTexts.{program_texts}
use Rattle.mol_table_rules.specs.Program.{Program}
use Rattle.mol_top.specs.Bases.{BaseRefuses, IsCleanBase}
use Rattle.mol_top.specs.Command.{ReplayWords}
use Rattle.mol_top.specs.Formatting.{fmt_outcome, program_refusal}
use Rattle.mol_top.specs.Logs.{IsLogAt, LogRefuses}
use Rattle.mol_top.specs.Output.{Outcome}
use Rattle.mol_top.specs.Refusals.{out_refusal}
use Rattle.mol_top.specs.declared.status.LogCause.TheVariants.{Replay}
use Rattle.mol_top.specs.declared.status.Status.{Status}
use Rattle.mol_top.specs.declared.status.Status.TheVariants.{LogRefused}

-- what the entries of a log leave of a base
abbrev pub left_by : Program → Log → Program
left_by base log = after base (history log)

-- a log that does not replay is refused: for the first of what says so
pub record RefuseReplay (base : Program) (log : Log) (status : Status) : Type 0 where
  pub fault : ReplayFault
  pub refuses : replaying.ReplayRefuses base log fault
  pub is : status ≡ LogRefused 1 (Replay fault)

-- a log is there, and nothing lies below OUT
pub record HasLog (words : ReplayWords) (held : Contents) (log : Log) : Type 0 where
  pub there : IsLogAt words.log held log
  pub free : out_refusal words.out held ≡ None

-- what refuses the command over a base, in the order of a run: the log, the folder OUT, the replay, and the limits of the files
pub data RefusesOver (words : ReplayWords) (base : Program) (held : Contents) (status : Status) : Type 0 where
  log : LogRefuses 1 words.log held status → RefusesOver words base held status
  out : (log : Log) → IsLogAt words.log held log → out_refusal words.out held ≡ Some status → RefusesOver words base held status
  replay : (log : Log) → HasLog words held log → RefuseReplay base log status → RefusesOver words base held status
  files : (log : Log) → HasLog words held log → Replays base log → program_refusal (left_by base log) ≡ Some status
      → RefusesOver words base held status

-- nothing refuses it over a base, and it comes to this: the files of the program that the log leaves
pub record ComesToOver (words : ReplayWords) (base : Program) (held : Contents) (outcome : Outcome) : Type 0 where
  pub log : Log
  pub has : HasLog words held log
  pub replays : Replays base log
  pub allowed : program_refusal (left_by base log) ≡ None
  pub is : outcome ≡ fmt_outcome words.out (program_texts (left_by base log))

-- # The command

-- what refuses the command: its base, and then what refuses it over the base
pub data ReplayRefuses (words : ReplayWords) (held : Contents) (status : Status) : Type 0 where
  base : BaseRefuses words.base held status → ReplayRefuses words held status
  over : (base : Program) → IsCleanBase words.base held base → RefusesOver words base held status → ReplayRefuses words held status

-- nothing refuses the command, and it comes to this
pub record ReplayComesTo (words : ReplayWords) (held : Contents) (outcome : Outcome) : Type 0 where
  pub base : Program
  pub clean : IsCleanBase words.base held base
  pub comes : ComesToOver words base held outcome
