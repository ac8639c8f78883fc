-- What a log leaves, and its faults, told of its tidied form.
use Rattle.std.proofs.Common.{◌≡◌, ◌≢◌, ◌∙◌, sym, ap, subst, Option, None, Some}
use Rattle.std.proofs.lemmas.Result.{err_from_is_err_and}
use Rattle.std.specs.Prelude.{Result, IfErr, option_map}
use Rattle.std.specs.Result.{IsErrAnd}
use Rattle.mol_faults.specs.First.{IsFirst}
use Rattle.mol_faults_rules.specs.Kept.{kept_fault}
use Rattle.mol_faults_rules.specs.declared.fault.Fault.{Fault}
use Rattle.mol_log.specs.declared.log.Log.{Log}
use Rattle.mol_log_rules.specs.Histories.{AppliesOn, after}
use Rattle.mol_log_rules.specs.Logs.{history}
use Rattle.mol_replay.proofs.TidiedFaults.{first-tidied}
use Rattle.mol_replay.specs.Replays.{IsUnclean, ReplayRefuses, Replays, unclean}
use Rattle.mol_replay.specs.declared.fault.ReplayFault.{ReplayFault}
use Rattle.mol_replay.specs.declared.fault.ReplayFault.TheVariants as faults
use Rattle.mol_spell_files.specs.Bundle.{digest_of}
use Rattle.mol_spell_rules.specs.Clean.{Clean}
use Rattle.mol_table_rules.specs.Program.{Program}
use Rattle.mol_table_rules.specs.Rules.{IsProgram}
use Rattle.mol_table_rules.specs.Tidy.{tidy}

-- # The tidied form of a program

module _ (left tidied : Program) (rules : IsProgram left) (is : tidied ≡ tidy left) where
  first-left : (first : Option Fault) → IsFirst tidied (option_map kept_fault first) → IsFirst left (option_map kept_fault first)
  first-left first told =
      first-tidied left rules (option_map kept_fault first)
      (subst (λ (program : Program). IsFirst program (option_map kept_fault first)) is told)

  pub clean-left : Clean tidied → Clean left
  clean-left clean = first-left None clean

  pub unclean-left : (fault : ReplayFault) → IsUnclean tidied fault → IsUnclean left fault
  unclean-left fault found = (found.0, found.1, first-left (Some found.0) found.2)

-- # What a log leaves

module _ (base left : Program) (log : Log) (leaves : left ≡ after base (history log)) where
  pub tidied-over : (tidied : Program) → tidied ≡ tidy left → tidied ≡ tidy (after base (history log))
  tidied-over tidied is = is ∙ ap tidy leaves

  module _ (own : log.base_digest ≡ digest_of base) (applies : AppliesOn base (history log)) where
    pub replays-over : Clean left → Replays base log
    replays-over clean = record { digest = own; applies = applies; clean = subst Clean leaves clean }

    pub refused-over : (fault : ReplayFault) → IsUnclean left fault → ReplayRefuses base log fault
    refused-over fault found =
        subst (ReplayRefuses base log) (sym found.1)
        (unclean own applies (subst (λ (program : Program). IsFirst program (Some (kept_fault found.0))) leaves found.2))

-- # Want of memory

-- it is told as what it is
pub memory-told : {A : Type 0} (P : ReplayFault → Type 0) (answer : Result A ReplayFault) → IsErrAnd answer (λ f. f ≡ faults.OutOfMemory)
    → IfErr answer (λ fault. fault ≢ faults.OutOfMemory → P fault)
memory-told {A = A} P answer is =
    let err = err_from_is_err_and answer is in
    subst (λ (r : Result A ReplayFault). IfErr r (λ fault. fault ≢ faults.OutOfMemory → P fault)) (sym err.1)
    (λ other. absurd (other err.2))
