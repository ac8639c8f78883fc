-- A replay comes to the files of a program or is refused.
use Rattle.std.proofs.Common.{◌≡◌, inl, inr, None, Some, refl}
use Rattle.std.specs.Global.{Global}
use Rattle.mol_log.specs.declared.log.Log.{Log}
use Rattle.mol_outside.specs.Contents.{Contents}
use Rattle.mol_replay.specs.Replays as replays
use Rattle.mol_replay.specs.Replays.{Replays}
use Rattle.mol_replay.specs.declared.fault.ReplayFault.{ReplayFault}
use Rattle.mol_spell_files.specs.ProgramTexts.{program_texts}
use Rattle.mol_table_rules.specs.Program.{Program}
use Rattle.mol_top_laws.proofs.CleanBases.{base_step}
use Rattle.mol_top_laws.proofs.Logs.{log_step}
use Rattle.mol_top_laws.proofs.Replays.{replay_step}
use Rattle.mol_top_laws.proofs.Steps.{BothGive, IsExactStep, SomeRefuses, in_turn, option_step, refused_as, reworded}
use Rattle.mol_top.specs.Bases.{BaseRefuses, IsCleanBase}
use Rattle.mol_top.specs.Command.{ReplayWords}
use Rattle.mol_top.specs.Formatting.{fmt_outcome, program_refusal}
use Rattle.mol_top.specs.Logs.{IsLogAt, LogRefuses}
use Rattle.mol_top.specs.Output.{Outcome}
use Rattle.mol_top.specs.Refusals.{out_refusal}
use Rattle.mol_top.specs.Replaying.{ComesToOver, HasLog, RefusesOver, ReplayComesTo, ReplayRefuses, left_by}
use Rattle.mol_top.specs.declared.status.LogCause.TheVariants.{Replay}
use Rattle.mol_top.specs.declared.status.Status.{Status}
use Rattle.mol_top.specs.declared.status.Status.TheVariants.{LogRefused}

module _ (w : ReplayWords) (held : Contents) where
  module _ (base : Program) where
    -- # What comes after the log, and after OUT

    abbrev IsReplayRefused : Log → Status → Type 0
    IsReplayRefused log status = (fault : ReplayFault) × replays.ReplayRefuses base log fault × (status ≡ LogRefused 1 (Replay fault))

    abbrev RefusesFiles : Log → Status → Type 0
    RefusesFiles log status = program_refusal (left_by base log) ≡ Some status

    abbrev MakesFiles : Log → Outcome → Type 0
    MakesFiles log outcome = (program_refusal (left_by base log) ≡ None) × (outcome ≡ fmt_outcome w.out (program_texts (left_by base log)))

    abbrev Plays : Log → Unit {0} → Type 0
    Plays log one = Replays base log

    abbrev AfterOut : Log → Status → Type 0
    AfterOut log = SomeRefuses (IsReplayRefused log) (Plays log) (λ one. RefusesFiles log)

    abbrev UsesOut : Status → Type 0
    UsesOut status = out_refusal w.out held ≡ Some status

    abbrev IsFree : Unit {0} → Type 0
    IsFree one = (out_refusal w.out held ≡ None) × (one ≡ tt)

    abbrev AfterLog : Log → Status → Type 0
    AfterLog log = SomeRefuses UsesOut IsFree (λ one. AfterOut log)

    abbrev Any : Status → Type 0
    Any = SomeRefuses (LogRefuses 1 w.log held) (IsLogAt w.log held) AfterLog

    abbrev All : Outcome → Type 0
    All = BothGive (IsLogAt w.log held) (λ log. BothGive IsFree (λ one. BothGive (Plays log) (λ one. MakesFiles log)))

    over_out : (status : Status) (log : Log) → HasLog w held log → AfterOut log status → RefusesOver w base held status
    over_out status log has (inl refused) =
        RefusesOver.replay log has (record { fault = refused.0; refuses = refused.1; is = refused.2 })
    over_out status log has (inr later) = RefusesOver.files log has later.1 later.2

    over_log : (status : Status) (log : Log) → IsLogAt w.log held log → AfterLog log status → RefusesOver w base held status
    over_log status log there (inl uses) = RefusesOver.out log there uses
    over_log status log there (inr later) = over_out status log (record { there = there; free = later.1.0 }) later.2

    over-to : (status : Status) → Any status → RefusesOver w base held status
    over-to status (inl refused) = RefusesOver.log refused
    over-to status (inr later) = over_log status later.0 later.1 later.2

    over-from : (status : Status) → RefusesOver w base held status → Any status
    over-from status (RefusesOver.log refused) = inl refused
    over-from status (RefusesOver.out log there uses) = inr (log, there, inl uses)
    over-from status (RefusesOver.replay log has refused) =
        inr (log, has.there, inr (tt, (has.free, refl), inl (refused.fault, refused.refuses, refused.is)))
    over-from status (RefusesOver.files log has plays says) = inr (log, has.there, inr (tt, (has.free, refl), inr (tt, plays, says)))

    over-comes : (outcome : Outcome) → All outcome → ComesToOver w base held outcome
    over-comes outcome given =
        let free = given.2 in
        let plays = free.2 in
        record {
          log = given.0;
          has = record { there = given.1; free = free.1.0 };
          replays = plays.1;
          allowed = plays.2.0;
          is = plays.2.1;
        }

    over-given : (outcome : Outcome) → ComesToOver w base held outcome → All outcome
    over-given outcome comes = (comes.log, comes.has.there, (tt, (comes.has.free, refl), (tt, comes.replays, (comes.allowed, comes.is))))

    files_step : (log : Log) → IsExactStep (RefusesFiles log) (MakesFiles log)
    files_step log = option_step (program_refusal (left_by base log)) (fmt_outcome w.out (program_texts (left_by base log)))

    after_out : (log : Log) → IsExactStep (AfterOut log) (BothGive (Plays log) (λ one. MakesFiles log))
    after_out log = in_turn (refused_as (replay_step base log) (λ fault. LogRefused 1 (Replay fault))) (λ one plays. files_step log)

    after_log : (log : Log) → IsExactStep (AfterLog log) (BothGive IsFree (λ one. BothGive (Plays log) (λ one. MakesFiles log)))
    after_log log = in_turn (option_step (out_refusal w.out held) (tt {0})) (λ one free. after_out log)

    over_step : IsExactStep (RefusesOver w base held) (ComesToOver w base held)
    over_step = reworded (in_turn (log_step 1 w.log held) (λ log there. after_log log)) over-to over-from over-comes over-given

  -- # The command

  abbrev Refused : Status → Type 0
  Refused = SomeRefuses (BaseRefuses w.base held) (IsCleanBase w.base held) (λ base. RefusesOver w base held)

  to : (status : Status) → Refused status → ReplayRefuses w held status
  to status (inl refused) = ReplayRefuses.base refused
  to status (inr over) = ReplayRefuses.over over.0 over.1 over.2

  from : (status : Status) → ReplayRefuses w held status → Refused status
  from status (ReplayRefuses.base refused) = inl refused
  from status (ReplayRefuses.over base clean refused) = inr (base, clean, refused)

  -- a replay is refused or comes to an outcome
  pub command_step : Global → IsExactStep (ReplayRefuses w held) (ReplayComesTo w held)
  command_step alloc =
      reworded (in_turn (base_step alloc w.base held) (λ base clean. over_step base)) to from
      (λ outcome given. record { base = given.0; clean = given.1; comes = given.2 })
      (λ outcome (comes : ReplayComesTo w held outcome). (comes.base, comes.clean, comes.comes))
