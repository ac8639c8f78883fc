-- What `replay` makes over a base, and what stops it.
use Rattle.std.proofs.Common.{◌≡◌, ◌≢◌, ◌⊎◌, inl, inr, ℕ, List, refl, sym, ◌∙◌, ap, subst, arith, map}
use Rattle.std.specs.Prelude.{Some, option_map}
use Rattle.mol_faults_rules.specs.declared.fault.Fault.{Fault}
use Rattle.mol_log.specs.declared.log.Log.{Log}
use Rattle.mol_replay.specs.Replays as replaying
use Rattle.mol_replay.specs.Replays.{Replays}
use Rattle.mol_replay.specs.declared.fault.ReplayFault.{ReplayFault}
use Rattle.mol_replay.specs.declared.fault.ReplayFault.TheVariants as faults
use Rattle.mol_report_logs.specs.ReplayFaults.{plain_fault_text, replay_fault_text}
use Rattle.mol_spell_files.specs.FileLimits.{files_limit}
use Rattle.mol_spell_files.specs.ProgramTexts.{printed_height, program_heights, program_texts, written_text}
use Rattle.mol_spell_rules.specs.PrintedFiles.{printed_text}
use Rattle.mol_spell_rules.specs.SpelledUnits.{units_of}
use Rattle.mol_table_rules.specs.Program.{Program}
use Rattle.mol_table_rules.specs.Tidy.{tidy}
use Rattle.mol_top.proofs.BaseStops.{StopsBy-more}
use Rattle.mol_top.proofs.LogRefusals.{any_program, fault_line, its_line}
use Rattle.mol_top.proofs.Stopping.{StopsBy-later}
use Rattle.mol_top.specs.Answers.{limit_status, store_status}
use Rattle.mol_top.specs.Bases.{IsCleanBase}
use Rattle.mol_top.specs.Carried.{Carries, NoPath}
use Rattle.mol_top.specs.Command.{Command, ReplayWords, replay_paths}
use Rattle.mol_top.specs.Formatting.{IsTextWork, fmt_outcome, program_refusal}
use Rattle.mol_top.specs.Logs.{IsLogAt, LogRefuses}
use Rattle.mol_top.specs.Outcome.{Refuses}
use Rattle.mol_top.specs.Outside.{IfTold, OnlyReads, Store}
use Rattle.mol_top.specs.Prepared.{IsStopped, Prepares}
use Rattle.mol_top.specs.ProgramWork.{IsFilesWork, StopsLarge}
use Rattle.mol_top.specs.ReadLogs.{IsLogStopped, IsStoppedAt, RefusesOut}
use Rattle.mol_top.specs.RefusedLogs.{IsRefusalOfFault}
use Rattle.mol_top.specs.ReplayWork.{IsForLimit, IsLogOrOut, IsMadeOver, IsRefusalOfLimits, IsRefusalOfReplay, IsReplayStopped, IsReplayWork}
use Rattle.mol_top.specs.ReplayWork.{IsStoppedOver}
use Rattle.mol_top.specs.Replaying.{HasLog, RefusesOver, ReplayRefuses, left_by}
use Rattle.mol_top.specs.Report.{line_bytes, log_line, names_addresses, refusal_line}
use Rattle.mol_top.specs.Steps.{IsNamed, Only, StopsBy}
use Rattle.mol_top.specs.UncleanLines.{program_line}
use Rattle.mol_top.specs.declared.fault.StoreFault.{StoreFault}
use Rattle.mol_top.specs.declared.fault.StoreFault.TheVariants as stores
use Rattle.mol_top.specs.declared.output.Work.{Work}
use Rattle.mol_top.specs.declared.refusal.Refusal.{Refusal}
use Rattle.mol_top.specs.declared.status.LogCause.TheVariants.{Replay}
use Rattle.mol_top.specs.declared.status.Status.{Status}
use Rattle.mol_top.specs.declared.status.Status.TheVariants.{LogRefused, OutOfMemory}

-- # A tidied program

module _ (program tidied : Program) (is : tidied ≡ tidy program) (stays : tidy tidied ≡ tidied) where
  same_texts : program_texts tidied ≡ program_texts program
  same_texts = ap (λ (p : Program). map written_text (map printed_text (units_of p))) (stays ∙ is)

  same_heights : program_heights tidied ≡ program_heights program
  same_heights = ap (λ (p : Program). map printed_height (units_of p)) (stays ∙ is)

  same_refusal : program_refusal tidied ≡ program_refusal program
  same_refusal = λ i. option_map limit_status (files_limit (same_texts i) (same_heights i))

  pub tidied_made : (out : List ℕ) (work : Work) → IsFilesWork out tidied work → IsFilesWork out program work
  tidied_made out work made = record { allowed = sym same_refusal ∙ made.allowed; is = subst (λ texts. IsTextWork out texts work) same_texts made.is }

  pub tidied_limit : (refusal : Refusal) → IsForLimit tidied refusal → IsForLimit program refusal
  tidied_limit refusal limit = record { fault = limit.fault; refused = sym same_refusal ∙ limit.refused; is = limit.is; line = limit.line }

-- files that pass a limit are refused for it
pub large_refused : (program : Program) (fault : StoreFault) (refusal : Refusal) → StopsLarge program fault
    → (refusal.status ≡ store_status fault) ⊎ (refusal.status ≡ OutOfMemory) → line_bytes refusal.line ≡ refusal_line refusal.status
    → IsRefusalOfLimits program refusal
large_refused program stores.OutOfMemory refusal stops (inl is) line = inl (record { status = is; line = line ∙ ap refusal_line is })
large_refused program (stores.Limit fault) refusal stops (inl is) line =
    inr (record { fault = fault; refused = stops; is = is; line = line })
large_refused program (stores.ReadFailed p) refusal stops (inl is) line = absurd stops
large_refused program (stores.Missing p) refusal stops (inl is) line = absurd stops
large_refused program (stores.OutInUse p) refusal stops (inl is) line = absurd stops
large_refused program fault refusal stops (inr is) line = inl (record { status = is; line = line ∙ ap refusal_line is })

-- # A replay

-- what names no address of the base is the same over any base
pub plain_text : (base : Program) (fault : ReplayFault) → ((found : Fault) → fault ≢ faults.NotClean found)
    → plain_fault_text fault ≡ replay_fault_text base fault
plain_text base (faults.NotClean found) other = absurd (other found refl)
plain_text base (faults.BaseDiffers have want) other = refl
plain_text base (faults.NotApplicable stamp why) other = refl
plain_text base faults.OutOfMemory other = refl

-- so is its refusal
pub plain_refused : (base : Program) (fault : ReplayFault) (refusal : Refusal) → ((found : Fault) → fault ≢ faults.NotClean found)
    → fault ≢ faults.OutOfMemory → (refusal.status ≡ LogRefused 1 (Replay fault)) ⊎ (refusal.status ≡ OutOfMemory)
    → line_bytes refusal.line ≡ refusal_line refusal.status → IsRefusalOfFault base 1 fault refusal
plain_refused base fault refusal other enough (inl is) line =
    inr (record { enough = enough; is = is; says = line ∙ ap refusal_line is ∙ ap (log_line 1) (plain_text base fault other) })
plain_refused base fault refusal other enough (inr is) line = inl (record { status = is; line = line ∙ ap refusal_line is })

-- the refusal for a fault of a replay is that of the log where the fault is
pub fault_refused : (base : Program) (log : Log) (fault : ReplayFault) (refusal : Refusal)
    → (fault ≢ faults.OutOfMemory → replaying.ReplayRefuses base log fault) → IsRefusalOfFault base 1 fault refusal
    → IsRefusalOfReplay base log refusal
fault_refused base log fault refusal wrong (inl memory) = inl memory
fault_refused base log fault refusal wrong (inr is) = inr (record {
  refused = record { fault = fault; refuses = wrong is.enough; is = is.is };
  line = is.says ∙ fault_line base 1 fault ∙ ap (program_line base) (sym is.is);
})

pub replay_number : (base : Program) (log : Log) (refusal : Refusal) → IsRefusalOfReplay base log refusal
    → Carries NoPath NoPath NoPath refusal.status
replay_number base log refusal (inl memory) = subst (Carries NoPath NoPath NoPath) (sym memory.status) tt
replay_number base log refusal (inr replay) = subst (Carries NoPath NoPath NoPath) (sym replay.refused.is) tt

-- what a log leaves, tidied
module _ (base : Program) (log : Log) (left : Program) (is : left ≡ tidy (left_by base log)) (stays : tidy left ≡ left) (all : Replays base log) where
  pub left_made : (out : List ℕ) (work : Work) → IsFilesWork out left work → IsReplayWork out base log work
  left_made out work made = record { replays = all; made = tidied_made (left_by base log) left is stays out work made }

  pub left_refused : (refusal : Refusal) → IsRefusalOfLimits left refusal → IsReplayStopped base log refusal
  left_refused refusal (inl memory) = inl (inl memory)
  left_refused refusal (inr limit) = inr (record { replays = all; limit = tidied_limit (left_by base log) left is stays refusal limit })

-- # Over a base

module _ (w : ReplayWords) (base : Program) (old : Store) where
  -- the log is not read
  pub over_no_log : (new : Store) (refusal : Refusal) → IsLogStopped 1 w.log old new refusal → IsStoppedOver w base old new refusal
  over_no_log new refusal stopped = record {
    cause = StopsBy-more (IsLogOrOut w) (Only w.log) old new (RefusesOver w base) (LogRefuses 1 w.log) refusal.status
        (λ path is. inl is) (λ h s refuses. RefusesOver.log refuses) stopped.cause;
    line = stopped.line ∙ sym (any_program base refusal.status stopped.plain);
  }

  -- the folder is in use
  pub over_used : (mid new : Store) (log : Log) (refusal : Refusal) → IfTold old.held (λ h. IsLogAt w.log h log) → OnlyReads old mid
      → IsStoppedAt w.out mid new (RefusesOut w.out) refusal → IsStoppedOver w base old new refusal
  over_used mid new log refusal there before stopped = record {
    cause = StopsBy-later (IsLogOrOut w) (Only w.out) old mid new (RefusesOver w base) (RefusesOut w.out) refusal.status
        (λ path is. inr is) before (λ h e s refuses. RefusesOver.out log (there h e) refuses) stopped.cause;
    line = stopped.line ∙ sym (any_program base refusal.status stopped.plain);
  }

  module _ (new : Store) (log : Log) (has : IfTold old.held (λ h. HasLog w h log)) where
    pub over_made : (work : Work) → IsReplayWork w.out base log work → IfTold old.held (λ h. IsMadeOver w base h work)
    over_made work is = λ h e. record {
      outcome = fmt_outcome w.out (program_texts (left_by base log));
      comes = record { log = log; has = has h e; replays = is.replays; allowed = is.made.allowed; is = refl };
      is = is.made.is;
    }

    abbrev stops : Status → Type 0
    stops status = StopsBy (IsLogOrOut w) old new (RefusesOver w base) status

    pub over_stopped : (refusal : Refusal) → IsReplayStopped base log refusal → IsStoppedOver w base old new refusal
    over_stopped refusal (inl (inl memory)) = record {
      cause = subst stops (sym memory.status) tt;
      line = memory.line ∙ ap (program_line base) (sym memory.status);
    }
    over_stopped refusal (inl (inr replay)) = record {
      cause = subst stops (sym replay.refused.is) (λ h e. RefusesOver.replay log (has h e)
          (record { fault = replay.refused.fault; refuses = replay.refused.refuses; is = refl }));
      line = replay.line;
    }
    over_stopped refusal (inr left) = record {
      cause = subst stops (sym left.limit.is) (λ h e. RefusesOver.files log (has h e) left.replays left.limit.refused);
      line = left.limit.line ∙ sym (any_program base refusal.status (ap names_addresses left.limit.is));
    }

-- # The command

module _ (w : ReplayWords) (old mid : Store) (base : Program) (clean : IfTold old.held (λ h. IsCleanBase w.base h base)) (before : OnlyReads old mid) where
  pub replay_prepared : (work : Work) → IfTold mid.held (λ h. IsMadeOver w base h work) → Prepares (Command.replay w) old work
  replay_prepared work made = λ h e. let is = made h (before.held ∙ e) in record {
    outcome = is.outcome;
    comes = record { base = base; clean = clean h e; comes = is.comes };
    is = is.is;
  }

  named : (path : List ℕ) → IsLogOrOut w path → IsNamed (replay_paths w) old.held path
  named path (inl is) = inr (inl (0, omega arith, sym is))
  named path (inr is) = inr (inr (ap Some (sym is)))

  pub replay_stopped : (new : Store) (refusal : Refusal) → IsStoppedOver w base mid new refusal → IsStopped (Command.replay w) old new refusal
  replay_stopped new refusal stopped = record {
    cause = StopsBy-later (IsNamed (replay_paths w) old.held) (IsLogOrOut w) old mid new (Refuses (Command.replay w)) (RefusesOver w base)
        refusal.status named before (λ h e s refuses. ReplayRefuses.over base (clean h e) refuses) stopped.cause;
    line = its_line (Command.replay w) w.base old base (λ h e. (clean h e).is) (λ h s line is. is) refusal stopped.line;
  }
