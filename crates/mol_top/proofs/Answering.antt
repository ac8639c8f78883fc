-- From what stopped a run, or what was made, to what it answers.
use Rattle.std.proofs.Common.{◌≡◌, ℕ, zero, suc, Option, sym, ◌∙◌, ap, refl, subst, inl, inr, List, [], ◌∷◌, take, slice_get, Bool, true, false, arith}
use Rattle.std.specs.List.{All}
use Rattle.std.specs.Prelude.{None, Some}
use Rattle.std.proofs.lemmas.Option.{same_Some}
use Rattle.mol_outside.specs.Contents.{Contents, appended, elsewhere}
use Rattle.mol_base.specs.declared.file.File.{File}
use Rattle.mol_base.specs.Files.{FilePair, file_pair, file_pairs}
use Rattle.mol_top.specs.Carried.{CarriesOwn, IsInOut, WritesOwn}
use Rattle.mol_top.specs.Command.{Command, NamedPaths, paths_of}
use Rattle.mol_top.specs.Outcome.{Refuses, HasCause, ByNames, HasLine, Leaves, IsPrefix, WasRefusing, IsSameInEitherOrder}
use Rattle.mol_top.specs.Output.{written_all}
use Rattle.mol_top.specs.Outside.{Sink, State, Store}
use Rattle.mol_top.specs.Prepared.{Prepares, IsStopped, StopsCommand}
use Rattle.mol_top.specs.Report.{line_bytes, names_addresses, refusal_line}
use Rattle.mol_top.specs.Steps.{StopsBy, IsNamed, AnsweredAs, IsCarriedOut, IsRefusal, IsFinal, HasPart, IsWriteFailed, IsCutAt, IsLeft}
use Rattle.mol_top.specs.declared.output.Work.{Work}
use Rattle.mol_top.specs.declared.refusal.Refusal.{Refusal}
use Rattle.mol_top.specs.declared.status.Status.{Status}
use Rattle.mol_top.specs.declared.status.Status.TheVariants.{Done, Conflicts, Usage, ReadFailed, WriteFailed, OutOfMemory}
use Rattle.mol_top.proofs.MergesSwapped.{same_swapped}

-- # A stop before the first write

stops_refuse : (n : List ℕ → Type 0) (old new : Store) (r : Contents → Status → Type 0) (s : Status) → StopsBy n old new r s → IsRefusal s
stops_refuse n old new r Done stops = stops
stops_refuse n old new r (Conflicts k) stops = stops
stops_refuse n old new r (WriteFailed p) stops = stops
stops_refuse n old new r s stops = tt

stop_cause : (c : Command) (old new : State) (s : Status) → StopsCommand c old.store new.store s → HasCause (Some c) old new s
stop_cause c old new OutOfMemory stops = tt
stop_cause c old new (ReadFailed p) stops = stops
stop_cause c old new Done stops = absurd stops
stop_cause c old new (Conflicts n) stops = absurd stops
stop_cause c old new Usage stops = absurd stops
stop_cause c old new (WriteFailed p) stops = absurd stops
stop_cause c old new s stops = stops

-- a refusal that a run comes to: it has its cause and its line, and nothing was written
pub record HasRefused (c : Option Command) (old new : State) (refusal : Refusal) : Type 0 where
  pub refuses : IsRefusal refusal.status
  pub cause : HasCause c old new refusal.status
  pub line : HasLine c old.store refusal.status (λ line. line_bytes refusal.line ≡ line)
  pub kept : new.store.held ≡ old.store.held

pub stopped : (c : Command) (old new : State) (refusal : Refusal) → IsStopped c old.store new.store refusal → new.store.held ≡ old.store.held
    → HasRefused (Some c) old new refusal
stopped c old new refusal is kept = record {
  refuses = stops_refuse (IsNamed (paths_of c) old.store.held) old.store new.store (Refuses c) refusal.status is.cause;
  cause = stop_cause c old new refusal.status is.cause;
  line = is.line;
  kept = kept;
}

-- words that are no command
pub no_command : (old new : State) (refusal : Refusal) → refusal.status ≡ Usage → line_bytes refusal.line ≡ refusal_line Usage → new.store.held ≡ old.store.held
    → HasRefused None old new refusal
no_command old new refusal is line kept = record {
  refuses = subst IsRefusal (sym is) tt;
  cause = subst (HasCause None old new) (sym is) refl;
  line = subst (λ s. HasLine None old.store s (λ line. line_bytes refusal.line ≡ line)) (sym is) line;
  kept = kept;
}

by_names : (b : Bool) (c : Option Command) (store : Store) (s : Status) (P Q : List ℕ → Type 0) → ((line : List ℕ) → P line → Q line)
    → ByNames b c store s P → ByNames b c store s Q
by_names false c store s P Q more has = more _ has
by_names true None store s P Q more has = has
by_names true (Some c) store s P Q more has = λ h e. let found = has h e in (found.0, found.1, more found.0 found.2)

-- # What is answered to a refusal

module _ (c : Option Command) (old new : State) (refusal : Refusal) (has : HasRefused c old new refusal) where
  was_refusing : HasPart (line_bytes refusal.line) old.sink new.sink → WasRefusing c old new
  was_refusing part = record {
    status = refusal.status;
    refuses = has.refuses;
    cause = has.cause;
    kept = has.kept;
    part = by_names (names_addresses refusal.status) c old.store refusal.status (λ line. line_bytes refusal.line ≡ line) (λ line. HasPart line old.sink new.sink)
        (λ line is. subst (λ bytes. HasPart bytes old.sink new.sink) is part) has.line;
  }

  pub refused_prefix : (result : Status) → AnsweredAs old.sink new.sink refusal.status result
      → (IsWriteFailed result → HasPart (line_bytes refusal.line) old.sink new.sink) → IsPrefix c old new result
  refused_prefix (WriteFailed p) answer part = (λ some. absurd (some answer.0), λ none. inr (was_refusing (part tt)))
  refused_prefix s answer part = tt

-- # What was made is carried out

-- what is left after a step that wrote nothing
pub left_from : (work : Work) (old new : State) (mid : Store) (result : Status) → mid.held ≡ old.store.held
    → IsLeft work (record { store = mid; sink = old.sink }) new result → IsLeft work old new result
left_from work old new mid (WriteFailed path) kept (inl cut) = inl (
  cut.0,
  record {
    place = cut.1.place;
    file = cut.1.file;
    next = cut.1.next;
    named = cut.1.named;
    whole = cut.1.whole ∙ ap (λ held. elsewhere path (written_all (take cut.1.place (file_pairs work.files.items)) held)) kept;
    line = cut.1.line;
  },
)
left_from work old new mid (WriteFailed path) kept (inr left) = inr (
  left.0,
  record { written = left.1.written ∙ ap (λ held. written_all (file_pairs work.files.items) held) kept; part = left.1.part },
)
left_from work old new mid s kept left = tt

module _ (c : Command) (old new : State) (work : Work) (made : Prepares c old.store work) where
  pub done_cause : (result : Status) → IsCarriedOut work old new result → HasCause (Some c) old new result
  done_cause Done carried = λ h e. let p = made h e in (p.outcome, p.comes, sym p.is.conflicts ∙ carried)
  done_cause (Conflicts n) carried = λ h e. let p = made h e in (p.outcome, p.comes, (carried.0 ∙ p.is.conflicts, carried.1))
  done_cause (WriteFailed p) carried = carried
  done_cause s carried = absurd carried

  pub done_leaves : (result : Status) → (IsFinal result → new.store.held ≡ written_all (file_pairs work.files.items) old.store.held)
      → (IsFinal result → new.sink.given ≡ appended work.report.items old.sink.given) → Leaves (Some c) old new result
  done_leaves result files report = λ final h e. let p = made h e in (
    p.outcome,
    p.comes,
    record {
      files = files final ∙ ap (λ files. written_all files old.store.held) p.is.files;
      report = report final ∙ ap (λ report. appended report old.sink.given) p.is.report;
    },
  )

  pub done_prefix : (result : Status) → IsLeft work old new result → IsPrefix (Some c) old new result
  done_prefix (WriteFailed path) (inl cut) = (
    λ some h e. let p = made h e in (p.outcome, p.comes, subst (λ files. IsCutAt files path old new) p.is.files cut.1),
    λ none. absurd (cut.0 none),
  )
  done_prefix (WriteFailed path) (inr left) = (
    λ some. absurd (some left.0),
    λ none. inl (λ h e. let p = made h e in (
      p.outcome,
      p.comes,
      record {
        written = left.1.written ∙ ap (λ files. written_all files old.store.held) p.is.files;
        part = subst (λ report. HasPart report old.sink new.sink) p.is.report left.1.part;
      },
    )),
  )
  done_prefix s left = tt

-- # What is carried

-- a refusal, or the failed put of its line
pub refused_cause : (c : Option Command) (old new : State) (status result : Status) → AnsweredAs old.sink new.sink status result
    → HasCause c old new status → HasCause c old new result
refused_cause c old new status (WriteFailed p) answer cause = inr answer
refused_cause c old new status s answer cause = subst (HasCause c old new) (sym answer) cause

pub answered_carries : (paths : NamedPaths) (old new : Sink) (status result : Status) → AnsweredAs old new status result
    → CarriesOwn paths status → CarriesOwn paths result
answered_carries paths old new status (WriteFailed p) answer carried = inl answer.0
answered_carries paths old new status s answer carried = subst (CarriesOwn paths) (sym answer) carried

-- what holds of the paths of files holds of one of them
at_place : (P : List ℕ → Type 0) (files : List File) (place : ℕ) (file : FilePair) → slice_get (file_pairs files) place ≡ Some file
    → All (λ (f : File). P f.path) files → P file.0
at_place P [] place file at all = absurd cc
at_place P (f ∷ files) zero file at all = subst (λ (x : FilePair). P x.0) (same_Some (file_pair f) file at) (all 0 f (omega arith))
at_place P (f ∷ files) (suc place) file at all = at_place P files place file at (λ k d within. all (suc k) d (omega (arith, within)))

pub done_carries : (paths : NamedPaths) (work : Work) (old new : State) (result : Status) → WritesOwn paths work
    → IsCarriedOut work old new result → IsLeft work old new result → CarriesOwn paths result
done_carries paths work old new (WriteFailed path) inside carried (inl cut) =
    inr (subst (IsInOut paths) cut.1.named (at_place (IsInOut paths) work.files.items cut.1.place cut.1.file cut.1.next inside))
done_carries paths work old new (WriteFailed path) inside carried (inr left) = inl left.0
done_carries paths work old new Done inside carried left = tt
done_carries paths work old new (Conflicts n) inside carried left = tt
done_carries paths work old new s inside carried left = absurd carried

-- # Either order of the logs

pub either_order : (c : Command) (h : Contents) → IsSameInEitherOrder c h
either_order (Command.merge w) h = same_swapped w h
either_order (Command.check w) h = tt
either_order (Command.fmt w) h = tt
either_order (Command.ids w) h = tt
either_order (Command.replay w) h = tt
