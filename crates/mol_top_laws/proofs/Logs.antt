-- A log that is to be at a path is there or is refused.
use Rattle.std.proofs.Common.{◌≡◌, ◌⊎◌, inl, inr, ℕ, List, Option, None, Some, is_some, refl, ap, if◌then◌else◌}
use Rattle.std.specs.FinMap.{get}
use Rattle.mol_log_laws.proofs.Told.{told as logs_told}
use Rattle.mol_log_laws.specs.Laws.{HasFault, HasLog}
use Rattle.mol_log.specs.Form.{IsLogFault, IsLogText}
use Rattle.mol_log.specs.declared.log.Log.{Log}
use Rattle.mol_log_rows.specs.declared.lines.fault.LogFault.{LogFault}
use Rattle.mol_outside.specs.Contents.{Contents}
use Rattle.mol_top_laws.proofs.Steps.{IsExactStep, SomeRefuses, in_turn, none_some, one_some, refused_as, reworded}
use Rattle.mol_top.specs.Answers.{log_status}
use Rattle.mol_top.specs.Logs.{IsLogAt, LogRefuses}
use Rattle.mol_top.specs.Refusals.{absent_input}
use Rattle.mol_top.specs.declared.status.Status.{Status}
use Rattle.mol_top.specs.declared.status.Status.TheVariants.{Missing}

-- # Inputs

module _ (path : List ℕ) (held : Contents) where
  -- an input is absent, or has these bytes
  input_either : (o : Option (List ℕ)) → get held path ≡ o
      → ((status : Status) × (absent_input path held ≡ Some status)) ⊎ ((bytes : List ℕ) × (get held path ≡ Some bytes))
  input_either (Some bytes) there = inr (bytes, there)
  input_either None none = inl (Missing path, ap (λ (o : Option (List ℕ)). if is_some o then None else Some (Missing path)) none)

  never_both : (status : Status) (bytes : List ℕ) → absent_input path held ≡ Some status → get held path ≡ Some bytes → ⊥
  never_both status bytes absent there =
      none_some (absent_input path held) status absent (ap (λ (o : Option (List ℕ)). if is_some o then None else Some (Missing path)) there)

  input_step : IsExactStep (λ (status : Status). absent_input path held ≡ Some status) (λ (bytes : List ℕ). get held path ≡ Some bytes)
  input_step = record {
    either = input_either (get held path) refl;
    apart = never_both;
    one_refusal = one_some (absent_input path held);
    one_gift = one_some (get held path);
  }

-- # Logs

-- bytes are the text of a log or have a first fault
text_step : (bytes : List ℕ) → IsExactStep (IsLogFault bytes) (IsLogText bytes)
text_step bytes = record {
  either = by (logs_told.either bytes);
  apart = λ fault log first text. logs_told.apart bytes log fault text first;
  one_refusal = logs_told.one_fault bytes;
  one_gift = logs_told.one_log bytes;
}
  where
    by : HasLog bytes ⊎ HasFault bytes → ((fault : LogFault) × IsLogFault bytes fault) ⊎ ((log : Log) × IsLogText bytes log)
    by (inl has) = inr (has.log, has.text)
    by (inr has) = inl (has.fault, has.first)

module _ (which : ℕ) (path : List ℕ) (held : Contents) where
  abbrev IsThere : List ℕ → Type 0
  IsThere bytes = get held path ≡ Some bytes

  abbrev IsWrong : List ℕ → Status → Type 0
  IsWrong bytes status = (fault : LogFault) × IsLogFault bytes fault × (status ≡ log_status which fault)

  to : (status : Status) → SomeRefuses (λ (s : Status). absent_input path held ≡ Some s) IsThere IsWrong status
      → LogRefuses which path held status
  to status (inl absent) = LogRefuses.absent absent
  to status (inr found) =
      let wrong = found.2 in
      LogRefuses.no_log found.0 found.1 (record { fault = wrong.0; wrong = wrong.1; is = wrong.2 })

  from : (status : Status) → LogRefuses which path held status
      → SomeRefuses (λ (s : Status). absent_input path held ≡ Some s) IsThere IsWrong status
  from status (LogRefuses.absent absent) = inl absent
  from status (LogRefuses.no_log bytes there refused) = inr (bytes, there, (refused.fault, refused.wrong, refused.is))

  pub log_step : IsExactStep (LogRefuses which path held) (IsLogAt path held)
  log_step =
      reworded (in_turn (input_step path held) (λ bytes there. refused_as (text_step bytes) (log_status which))) to from
      (λ log given. record { bytes = given.0; there = given.1; spelled = given.2 })
      (λ log (found : IsLogAt path held log). (found.bytes, found.there, found.spelled))
