-- Why a log does not replay, and what a `?` answers.
use Rattle.std.proofs.Common.{◌≡◌, ◌≢◌, ◌∙◌, ℕ, List, Result, refl, sym, subst, true≢false}
use Rattle.std.proofs.lemmas.Result.{err_from_is_err_and}
use Rattle.std.proofs.lemmas.Slice.Eq.{bytes_eq-Decides}
use Rattle.std.specs.Prelude.{IfErr, false}
use Rattle.std.specs.Result.{IsErrAnd}
use Rattle.std.specs.Str.{bytes_eq}
use Rattle.mol_log.specs.declared.log.Log.{Log}
use Rattle.mol_log_rules.specs.Logs.{history}
use Rattle.mol_replay.specs.Replays.{ReplayRefuses, differs, inapplicable, IsInapplicable, as_replay_fault}
use Rattle.mol_replay.specs.declared.fault.Inapplicable.{Inapplicable}
use Rattle.mol_replay.specs.declared.fault.Inapplicable.TheVariants.{At, OutOfMemory}
use Rattle.mol_replay.specs.declared.fault.ReplayFault.{ReplayFault}
use Rattle.mol_replay.specs.declared.fault.ReplayFault.TheVariants as faults
use Rattle.mol_spell_files.specs.Bundle.{digest_of}
use Rattle.mol_table_rules.specs.Program.{Program}

module _ (base : Program) (log : Log) where
  -- unless it is want of memory, the fault refuses the log
  abbrev pub Refuses : ReplayFault → Type 0
  Refuses fault = fault ≢ faults.OutOfMemory → ReplayRefuses base log fault

  pub refuses-memory : Refuses faults.OutOfMemory
  refuses-memory other = absurd (other refl)

  -- that the digests differ, as the test of their bytes says, refuses it
  pub refuses-other : (have : List ℕ) → have ≡ digest_of base → bytes_eq have log.base_digest ≡ false
      → ReplayRefuses base log (faults.BaseDiffers have log.base_digest)
  refuses-other have is other =
      subst (λ (digest : List ℕ). ReplayRefuses base log (faults.BaseDiffers digest log.base_digest)) (sym is)
      (differs (λ same. true≢false (sym ((bytes_eq-Decides have log.base_digest).1 (is ∙ sym same)) ∙ other)))

  -- an entry that does not apply refuses it
  pub refuses-entry : (why : Inapplicable) → log.base_digest ≡ digest_of base → IsInapplicable base (history log) why
      → Refuses (as_replay_fault why)
  refuses-entry (At stamp why) own first other = inapplicable own first
  refuses-entry OutOfMemory own first other = absurd (other refl)

  -- what is answered is this fault
  pub answered : {A : Type 0} (answer : Result A ReplayFault) (fault : ReplayFault) → IsErrAnd answer (λ f. f ≡ fault) → Refuses fault
      → IfErr answer Refuses
  answered {A = A} answer fault is refuses =
      let err = err_from_is_err_and answer is in
      subst (λ (r : Result A ReplayFault). IfErr r Refuses) (sym err.1) (subst Refuses (sym err.2) refuses)
