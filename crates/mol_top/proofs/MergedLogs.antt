-- What `merge` makes over a base, and what stops it.
use Rattle.std.proofs.Common.{◌≡◌, ◌≢◌, ◌⊎◌, inl, inr, ℕ, false, List, refl, sym, ◌∙◌, ap, subst, arith}
use Rattle.std.specs.Prelude.{Some}
use Rattle.mol_base.specs.Files.{file_pairs}
use Rattle.mol_log.specs.declared.log.Log.{Log}
use Rattle.mol_merge.specs.Outcomes.{AreMergeable, IsOutcome, IsPassed}
use Rattle.mol_merge.specs.Outcomes as merges
use Rattle.mol_merge.specs.declared.outcome.MergeFault.{MergeFault}
use Rattle.mol_merge.specs.declared.outcome.MergeFault.TheVariants as faults
use Rattle.mol_merge.specs.declared.outcome.Outcome.{Outcome as Answer}
use Rattle.mol_merge.specs.declared.outcome.Outcome.TheVariants.{Conflicts, Merged}
use Rattle.mol_outside.specs.Contents.{Contents}
use Rattle.mol_replay.specs.declared.fault.ReplayFault.{ReplayFault}
use Rattle.mol_table_rules.specs.Program.{Program}
use Rattle.mol_top.proofs.BaseStops.{StopsBy-more}
use Rattle.mol_top.proofs.FilesBelow.{inside_with, none_inside}
use Rattle.mol_top.proofs.LogRefusals.{any_program, fault_line, its_line}
use Rattle.mol_top.proofs.Stopping.{StopsBy-later}
use Rattle.mol_top.specs.Answers.{merge_status}
use Rattle.mol_top.specs.Bases.{IsCleanBase}
use Rattle.mol_top.specs.Carried.{Carries, NoPath, WritesInside}
use Rattle.mol_top.specs.Command.{Command, MergeWords, merge_paths}
use Rattle.mol_top.specs.Logs.{IsLogAt, LogRefuses}
use Rattle.mol_top.specs.MergeWork.{IsAnswerWork, IsLogOrOut, IsMadeOver, IsMadeWith, IsMergeWork, IsRefusalOfMerge, IsRefusalOfMergeFault}
use Rattle.mol_top.specs.MergeWork.{IsSecondOrOut, IsStoppedOver, IsStoppedWith}
use Rattle.mol_top.specs.Merging.{HasRest, MergeRefuses, MergesTo, RefuseMerge, RefusesOver, RefusesWith, conflicts_outcome, files_outcome}
use Rattle.mol_top.specs.Outcome.{Refuses}
use Rattle.mol_top.specs.Output.{IsReady, IsWork}
use Rattle.mol_top.specs.Outside.{IfTold, OnlyReads, Store}
use Rattle.mol_top.specs.Prepared.{IsStopped, Prepares}
use Rattle.mol_top.specs.ReadLogs.{IsLogStopped, IsStoppedAt, RefusesOut}
use Rattle.mol_top.specs.RefusedLogs.{IsRefusalOfFault}
use Rattle.mol_top.specs.Report.{line_bytes, names_addresses, refusal_line}
use Rattle.mol_top.specs.Steps.{IsNamed, Only, StopsBy}
use Rattle.mol_top.specs.UncleanLines.{program_line}
use Rattle.mol_top.specs.declared.output.Work.{Work}
use Rattle.mol_top.specs.declared.refusal.Refusal.{Refusal}
use Rattle.mol_top.specs.declared.status.LogCause.TheVariants.{Replay}
use Rattle.mol_top.specs.declared.status.Status.{Status}
use Rattle.mol_top.specs.declared.status.Status.TheVariants.{LogRefused, OutOfMemory}

-- # An answer

module _ (out : List ℕ) (base : Program) where
  pub answer_ready : (answer : Answer) (work : Work) → IsAnswerWork out base answer work → IsReady work
  answer_ready (Merged merged) work is = record { named = is.named; apart = is.apart; failures = is.failures }
  answer_ready (Conflicts list) work is = record { named = is.named; apart = is.apart; failures = is.failures }

  pub answer_inside : (answer : Answer) (work : Work) → IsAnswerWork out base answer work → WritesInside out work
  answer_inside (Merged merged) work is = inside_with work out (file_pairs merged.files) merged.log is.files
  answer_inside (Conflicts list) work is = none_inside work out is.files

  module _ (first second : Log) (mergeable : AreMergeable base first second) where
    pub answer_made : (answer : Answer) (work : Work) → IsOutcome base first second answer → IsAnswerWork out base answer work
        → IsMergeWork out base first second work
    answer_made (Merged merged) work is made = record {
      mergeable = mergeable;
      outcome = files_outcome out (file_pairs merged.files) merged.log;
      comes = MergesTo.merged merged.log (record { none = is.none; log = is.written.log; within = is.written.within })
          (ap (λ texts. files_outcome out texts merged.log) is.written.files);
      is = made;
    }
    answer_made (Conflicts list) work is made = record {
      mergeable = mergeable;
      outcome = conflicts_outcome base list;
      comes = MergesTo.conflicts list is.some is.are refl;
      is = made;
    }

-- # Two logs that are refused

-- the refusal of a log for a fault of its replay
pub replay_told : (base : Program) (which : ℕ) (why : ReplayFault) (fault : MergeFault) (refusal : Refusal)
    → merge_status fault ≡ LogRefused which (Replay why) → IsRefusalOfFault base which why refusal → IsRefusalOfMergeFault base fault refusal
replay_told base which why fault refusal status (inl memory) = inl memory
replay_told base which why fault refusal status (inr is) = inr (record {
  is = is.is ∙ sym status;
  line = is.says ∙ fault_line base which why ∙ ap (program_line base) (sym is.is);
})

-- one whose line names no address
pub plain_told : (base : Program) (fault : MergeFault) (refusal : Refusal) (status : Status) → merge_status fault ≡ status
    → names_addresses status ≡ false → (refusal.status ≡ status) ⊎ (refusal.status ≡ OutOfMemory)
    → line_bytes refusal.line ≡ refusal_line refusal.status → IsRefusalOfMergeFault base fault refusal
plain_told base fault refusal status is plain (inl said) line = inr (record {
  is = said ∙ sym is;
  line = line ∙ sym (any_program base refusal.status (ap names_addresses said ∙ plain));
})
plain_told base fault refusal status is plain (inr said) line = inl (record { status = said; line = line ∙ ap refusal_line said })

module _ (base : Program) (first second : Log) where
  pub merge_refused : (fault : MergeFault) (refusal : Refusal) → (fault ≢ faults.OutOfMemory → merges.MergeRefuses base first second fault)
      → IsRefusalOfMergeFault base fault refusal → IsRefusalOfMerge base first second refusal
  merge_refused fault refusal wrong (inl memory) = inl memory
  merge_refused faults.OutOfMemory refusal wrong (inr is) =
      inl (record { status = is.is; line = is.line ∙ ap (program_line base) is.is })
  merge_refused fault refusal wrong (inr is) =
      inr (record { refused = record { fault = fault; refuses = wrong (λ e. cc); is = is.is }; line = is.line })

pub fault_carries : (base : Program) (fault : MergeFault) (refusal : Refusal) → IsPassed fault → IsRefusalOfMergeFault base fault refusal
    → Carries NoPath NoPath NoPath refusal.status
fault_carries base fault refusal passed (inl memory) = subst (Carries NoPath NoPath NoPath) (sym memory.status) tt
fault_carries base (faults.Limit which number) refusal passed (inr is) = subst (Carries NoPath NoPath NoPath) (sym is.is) passed
fault_carries base fault refusal passed (inr is) = subst (Carries NoPath NoPath NoPath) (sym is.is) tt

-- # Over a base

module _ (w : MergeWords) (base : Program) (old : Store) where
  -- the first log is not read
  pub over_no_first : (new : Store) (refusal : Refusal) → IsLogStopped 1 w.first old new refusal → IsStoppedOver w base old new refusal
  over_no_first new refusal stopped = record {
    cause = StopsBy-more (IsLogOrOut w) (Only w.first) old new (RefusesOver w base) (LogRefuses 1 w.first) refusal.status
        (λ path is. inl is) (λ h s refuses. RefusesOver.first refuses) stopped.cause;
    line = stopped.line ∙ sym (any_program base refusal.status stopped.plain);
  }

  module _ (mid : Store) (first : Log) (there : IfTold old.held (λ h. IsLogAt w.first h first)) (before : OnlyReads old mid) where
    pub over_made : (work : Work) → IfTold mid.held (λ h. IsMadeWith w base first h work) → IfTold old.held (λ h. IsMadeOver w base h work)
    over_made work made = λ h e. let is = made h (before.held ∙ e) in record {
      outcome = is.made.outcome;
      comes = record {
        first = first;
        second = is.second;
        has = record { there = there h e; rest = is.has };
        mergeable = is.made.mergeable;
        comes = is.made.comes;
      };
      is = is.made.is;
    }

    pub over_stopped : (new : Store) (refusal : Refusal) → IsStoppedWith w base first mid new refusal → IsStoppedOver w base old new refusal
    over_stopped new refusal stopped = record {
      cause = StopsBy-later (IsLogOrOut w) (IsSecondOrOut w) old mid new (RefusesOver w base) (RefusesWith w base first) refusal.status
          (λ path is. inr is) before (λ h e s refuses. RefusesOver.rest first (there h e) refuses) stopped.cause;
      line = stopped.line;
    }

-- # Over a base and its first log

module _ (w : MergeWords) (base : Program) (first : Log) (old : Store) where
  abbrev refuses_with : Contents → Status → Type 0
  refuses_with = RefusesWith w base first

  -- the second log is not read
  pub with_no_second : (new : Store) (refusal : Refusal) → IsLogStopped 2 w.second old new refusal → IsStoppedWith w base first old new refusal
  with_no_second new refusal stopped = record {
    cause = StopsBy-more (IsSecondOrOut w) (Only w.second) old new refuses_with (LogRefuses 2 w.second) refusal.status
        (λ path is. inl is) (λ h s refuses. RefusesWith.second refuses) stopped.cause;
    line = stopped.line ∙ sym (any_program base refusal.status stopped.plain);
  }

  -- the folder is in use
  pub with_used : (mid new : Store) (second : Log) (refusal : Refusal) → IfTold old.held (λ h. IsLogAt w.second h second) → OnlyReads old mid
      → IsStoppedAt w.out mid new (RefusesOut w.out) refusal → IsStoppedWith w base first old new refusal
  with_used mid new second refusal there before stopped = record {
    cause = StopsBy-later (IsSecondOrOut w) (Only w.out) old mid new refuses_with (RefusesOut w.out) refusal.status
        (λ path is. inr is) before (λ h e s refuses. RefusesWith.out second (there h e) refuses) stopped.cause;
    line = stopped.line ∙ sym (any_program base refusal.status stopped.plain);
  }

  module _ (new : Store) (second : Log) (has : IfTold old.held (λ h. HasRest w h second)) where
    pub with_made : (work : Work) → IsMergeWork w.out base first second work → IfTold old.held (λ h. IsMadeWith w base first h work)
    with_made work is = λ h e. record { second = second; has = has h e; made = is }

    abbrev stops : Status → Type 0
    stops status = StopsBy (IsSecondOrOut w) old new refuses_with status

    pub with_stopped : (refusal : Refusal) → IsRefusalOfMerge base first second refusal → IsStoppedWith w base first old new refusal
    with_stopped refusal (inl memory) = record {
      cause = subst stops (sym memory.status) tt;
      line = memory.line ∙ ap (program_line base) (sym memory.status);
    }
    with_stopped refusal (inr merge) = record {
      cause = subst stops (sym merge.refused.is) (by merge.refused.fault merge.refused.refuses);
      line = merge.line;
    } where
      refused : (fault : MergeFault) → merges.MergeRefuses base first second fault → RefuseMerge base first second (merge_status fault)
      refused fault refuses = record { fault = fault; refuses = refuses; is = refl }

      by : (fault : MergeFault) → merges.MergeRefuses base first second fault → stops (merge_status fault)
      by (faults.SharedTag tag) refuses = λ h e. RefusesWith.merge second (has h e) (refused (faults.SharedTag tag) refuses)
      by (faults.First fault) refuses = λ h e. RefusesWith.merge second (has h e) (refused (faults.First fault) refuses)
      by (faults.Second fault) refuses = λ h e. RefusesWith.merge second (has h e) (refused (faults.Second fault) refuses)
      by (faults.Limit which number) refuses = λ h e. RefusesWith.merge second (has h e) (refused (faults.Limit which number) refuses)
      by faults.OutOfMemory refuses = tt

-- # The command

module _ (w : MergeWords) (old mid : Store) (base : Program) (clean : IfTold old.held (λ h. IsCleanBase w.base h base)) (before : OnlyReads old mid) where
  pub merge_prepared : (work : Work) → IfTold mid.held (λ h. IsMadeOver w base h work) → Prepares (Command.merge w) old work
  merge_prepared work made = λ h e. let is = made h (before.held ∙ e) in record {
    outcome = is.outcome;
    comes = record { base = base; clean = clean h e; comes = is.comes };
    is = is.is;
  }

  named : (path : List ℕ) → IsLogOrOut w path → IsNamed (merge_paths w) old.held path
  named path (inl is) = inr (inl (0, omega arith, sym is))
  named path (inr (inl is)) = inr (inl (1, omega arith, sym is))
  named path (inr (inr is)) = inr (inr (ap Some (sym is)))

  pub merge_stopped : (new : Store) (refusal : Refusal) → IsStoppedOver w base mid new refusal → IsStopped (Command.merge w) old new refusal
  merge_stopped new refusal stopped = record {
    cause = StopsBy-later (IsNamed (merge_paths w) old.held) (IsLogOrOut w) old mid new (Refuses (Command.merge w)) (RefusesOver w base)
        refusal.status named before (λ h e s refuses. MergeRefuses.over base (clean h e) refuses) stopped.cause;
    line = its_line (Command.merge w) w.base old base (λ h e. (clean h e).is) (λ h s line is. is) refusal stopped.line;
  }
