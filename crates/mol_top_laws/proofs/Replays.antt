-- A log replays on a base or is refused.
use Rattle.std.proofs.Common.{◌≡◌, ◌≢◌, ◌⊎◌, inl, inr, ℕ, Bool, true, false, List, Option, None, Some, refl, sym, ◌∙◌, subst}
use Rattle.std.specs.Cmp.Lexicographic.{same_text}
use Rattle.std.specs.Str.{bytes_eq}
use Rattle.std.proofs.lemmas.Slice.Eq.{bytes_eq-Decides}
use Rattle.mol_base.specs.declared.ident.Stamp.{Stamp}
use Rattle.mol_faults.specs.First.{IsFirst}
use Rattle.mol_faults_rules.specs.Kept.{kept_fault}
use Rattle.mol_faults_rules.specs.declared.fault.Fault.{Fault}
use Rattle.mol_log.specs.declared.log.Log.{Log}
use Rattle.mol_log_rules.proofs.Laws.{last_writes_left}
use Rattle.mol_log_rules.specs.Histories.{AppliesOn, History, after, first_refused}
use Rattle.mol_log_rules.specs.Logs.{history}
use Rattle.mol_op.specs.declared.fault.OpFault.{OpFault}
use Rattle.mol_replay.specs.Replays.{ReplayRefuses, Replays}
use Rattle.mol_replay.specs.declared.fault.ReplayFault.{ReplayFault}
use Rattle.mol_replay.specs.declared.fault.ReplayFault.TheVariants as faults
use Rattle.mol_spell_files.specs.Bundle.{digest_of}
use Rattle.mol_table_rules.specs.Program.{Program}
use Rattle.mol_top_laws.proofs.CleanBases.{clean_step}
use Rattle.mol_top_laws.proofs.Steps.{IsExactStep, SomeRefuses, in_turn, none_some, one_some, refused_as, reworded}

-- # The base that the log was recorded over

-- two digests differ or are the same
digest_step : (have want : List ℕ)
    → IsExactStep (λ (fault : ReplayFault). (want ≢ have) × (fault ≡ faults.BaseDiffers have want)) (λ (one : Unit {0}). want ≡ have)
digest_step have want = record {
  either = by (bytes_eq want have) refl;
  apart = λ fault one refused same. refused.0 same;
  one_refusal = λ first second refused also. refused.1 ∙ sym also.1;
  one_gift = λ first second is also. refl;
}
  where
    by : (same : Bool) → bytes_eq want have ≡ same
        → ((fault : ReplayFault) × ((want ≢ have) × (fault ≡ faults.BaseDiffers have want))) ⊎ ((one : Unit {0}) × (want ≡ have))
    by true same = inr (tt, same_text want have (sym same))
    by false differ = inl (
      faults.BaseDiffers have want,
      ((λ same. let no : true ≡ false = sym ((bytes_eq-Decides want have).1 same) ∙ differ in cc), refl),
    )

-- # The entries

-- each entry applies or one is the first that does not
module _ (base : Program) (entries : History) where
  abbrev IsStoppedAt : ReplayFault → Type 0
  IsStoppedAt fault =
      (refused : Stamp × OpFault) × (first_refused base entries ≡ Some refused) × (fault ≡ faults.NotApplicable refused.0 refused.1)

  first_step : IsExactStep (λ (refused : Stamp × OpFault). first_refused base entries ≡ Some refused)
      (λ (one : Unit {0}). AppliesOn base entries)
  first_step = record {
    either = by (first_refused base entries) refl;
    apart = λ refused one is applies. none_some (first_refused base entries) refused is ((last_writes_left.applies base entries).1 applies);
    one_refusal = one_some (first_refused base entries);
    one_gift = λ first second is also. refl;
  }
    where
      by : (o : Option (Stamp × OpFault)) → first_refused base entries ≡ o
          → ((refused : Stamp × OpFault) × (first_refused base entries ≡ Some refused)) ⊎ ((one : Unit {0}) × AppliesOn base entries)
      by (Some refused) is = inl (refused, is)
      by None none = inr (tt, (last_writes_left.applies base entries).0 none)

  entries_step : IsExactStep IsStoppedAt (λ (one : Unit {0}). AppliesOn base entries)
  entries_step = refused_as first_step (λ (refused : Stamp × OpFault). faults.NotApplicable refused.0 refused.1)

-- # The whole

module _ (base : Program) (log : Log) where
  abbrev left : Program
  left = after base (history log)

  abbrev Differs : ReplayFault → Type 0
  Differs fault = (log.base_digest ≢ digest_of base) × (fault ≡ faults.BaseDiffers (digest_of base) log.base_digest)

  abbrev IsUnclean : ReplayFault → Type 0
  IsUnclean fault = (first : Fault) × IsFirst left (Some (kept_fault first)) × (fault ≡ faults.NotClean first)

  abbrev Later : ReplayFault → Type 0
  Later = SomeRefuses (IsStoppedAt base (history log)) (λ (one : Unit {0}). AppliesOn base (history log)) (λ one. IsUnclean)

  abbrev Any : ReplayFault → Type 0
  Any = SomeRefuses Differs (λ (one : Unit {0}). log.base_digest ≡ digest_of base) (λ one. Later)

  stopped : (fault : ReplayFault) → log.base_digest ≡ digest_of base → Later fault → ReplayRefuses base log fault
  stopped fault digest (inl found) =
      subst (ReplayRefuses base log) (sym found.2) (ReplayRefuses.inapplicable {stamp = found.0.0} {why = found.0.1} digest found.1)
  stopped fault digest (inr found) =
      let unclean = found.2 in
      subst (ReplayRefuses base log) (sym unclean.2) (ReplayRefuses.unclean {fault = unclean.0} digest found.1 unclean.1)

  to : (fault : ReplayFault) → Any fault → ReplayRefuses base log fault
  to fault (inl differs) = subst (ReplayRefuses base log) (sym differs.1) (ReplayRefuses.differs differs.0)
  to fault (inr later) = stopped fault later.1 later.2

  from : (fault : ReplayFault) → ReplayRefuses base log fault → Any fault
  from fault (ReplayRefuses.differs differs) = inl (differs, refl)
  from fault (ReplayRefuses.inapplicable {stamp} {why} digest is) = inr (tt, digest, inl ((stamp, why), is, refl))
  from fault (ReplayRefuses.unclean {fault = first} digest applies is) = inr (tt, digest, inr (tt, applies, (first, is, refl)))

  pub replay_step : IsExactStep (ReplayRefuses base log) (λ (one : Unit {0}). Replays base log)
  replay_step =
      reworded
      (in_turn (digest_step (digest_of base) log.base_digest)
      (λ one digest. in_turn (entries_step base (history log)) (λ one applies. refused_as (clean_step left) faults.NotClean)))
      to from
      (λ one given. record { digest = given.1; applies = given.2.1; clean = given.2.2 })
      (λ one (plays : Replays base log). (tt, plays.digest, (tt, plays.applies, plays.clean)))
