-- A log that was applied to a copy of its base: what is left, and the first fault of that.
use Rattle.std.proofs.Common.{◌≡◌, ◌∙◌, ap, subst, Option, None, Some}
use Rattle.std.specs.Prelude.{option_map}
use Rattle.mol_faults.specs.First.{IsFirst}
use Rattle.mol_faults_rules.specs.Kept.{kept_fault}
use Rattle.mol_faults_rules.specs.declared.fault.Fault.{Fault}
use Rattle.mol_log.specs.declared.log.Log.{Log}
use Rattle.mol_log_rules.specs.Histories.{AppliesOn, after}
use Rattle.mol_log_rules.specs.Logs.{history}
use Rattle.mol_replay.specs.Replays.{Replays, ReplayRefuses, unclean}
use Rattle.mol_replay.specs.declared.fault.ReplayFault.TheVariants as faults
use Rattle.mol_spell_files.specs.Bundle.{digest_of}
use Rattle.mol_table_rules.specs.Program.{Program}

module _ (base copy left : Program) (log : Log) (same : copy ≡ base) (leaves : left ≡ after copy (history log)) where
  pub left-over : left ≡ after base (history log)
  left-over = leaves ∙ ap (λ (program : Program). after program (history log)) same

  pub applies-over : AppliesOn copy (history log) → AppliesOn base (history log)
  applies-over applies = subst (λ (program : Program). AppliesOn program (history log)) same applies

  -- the first fault of what is left of the base
  first-over : (first : Option Fault) → IsFirst left (option_map kept_fault first)
      → IsFirst (after base (history log)) (option_map kept_fault first)
  first-over first told = subst (λ (program : Program). IsFirst program (option_map kept_fault first)) left-over told

  module _ (own : log.base_digest ≡ digest_of base) (applies : AppliesOn copy (history log)) where
    pub replayed : (first : Option Fault) → IsFirst left (option_map kept_fault first) → first ≡ None → Replays base log
    replayed first told none = record {
      digest = own;
      applies = applies-over applies;
      clean = subst (λ (o : Option Fault). IsFirst (after base (history log)) (option_map kept_fault o)) none (first-over first told);
    }

    pub not-clean : (first : Option Fault) (fault : Fault) → IsFirst left (option_map kept_fault first) → first ≡ Some fault
        → ReplayRefuses base log (faults.NotClean fault)
    not-clean first fault told is =
        unclean own (applies-over applies)
        (subst (λ (o : Option Fault). IsFirst (after base (history log)) (option_map kept_fault o)) is (first-over first told))
