-- What the reading of a log, and the look at OUT, answer, and what these carry.
use Rattle.std.proofs.Common.{◌≡◌, ◌≢◌, ◌⊎◌, inl, inr, ℕ, false, List, refl, sym, ◌∙◌, ap, subst}
use Rattle.std.specs.FinMap.{get}
use Rattle.std.specs.Prelude.{Option, Some}
use Rattle.mol_log.specs.Form.{IsLogFault, IsLogText}
use Rattle.mol_log.specs.declared.log.Log.{Log}
use Rattle.mol_log_rows.specs.declared.lines.fault.LogFault.{LogFault}
use Rattle.mol_log_rows.specs.declared.lines.fault.LogFault.TheVariants as logs
use Rattle.mol_outside.specs.Contents.{Contents}
use Rattle.mol_top.proofs.LogLimits.{log_above}
use Rattle.mol_top.proofs.Stopping.{store_plain}
use Rattle.mol_top.specs.Answers.{log_status, store_status}
use Rattle.mol_top.specs.Carried.{Carries}
use Rattle.mol_top.specs.Logs.{IsLogAt, LogRefuses}
use Rattle.mol_top.specs.Outside.{IfTold, Store}
use Rattle.mol_top.specs.ReadLogs.{CarriesLog, IsLogStopped, IsRefusalOfLog, IsStoppedAt}
use Rattle.mol_top.specs.Report.{line_bytes, names_addresses, refusal_line}
use Rattle.mol_top.specs.Steps.{Only, Stops, StopsBy}
use Rattle.mol_top.specs.declared.fault.StoreFault.{StoreFault}
use Rattle.mol_top.specs.declared.fault.StoreFault.TheVariants as stores
use Rattle.mol_top.specs.declared.refusal.Refusal.{Refusal}
use Rattle.mol_top.specs.declared.status.Status.{Status}
use Rattle.mol_top.specs.declared.status.Status.TheVariants.{OutOfMemory}

-- # A step of the store

module _ (path : List ℕ) (old new : Store) (refusal : Contents → Option Status) (refuses : Contents → Status → Type 0)
    (more : (h : Contents) (s : Status) → refusal h ≡ Some s → refuses h s) where
  step_cause : (fault : StoreFault) → Stops (Only path) old new refusal fault → StopsBy (Only path) old new refuses (store_status fault)
  step_cause stores.OutOfMemory stops = tt
  step_cause (stores.ReadFailed p) stops = stops
  step_cause (stores.Missing p) stops = λ h e. more h _ (stops h e)
  step_cause (stores.OutInUse p) stops = λ h e. more h _ (stops h e)
  step_cause (stores.Limit fault) stops = λ h e. more h _ (stops h e)

  pub store_step : (fault : StoreFault) (said : Refusal) → Stops (Only path) old new refusal fault
      → (said.status ≡ store_status fault) ⊎ (said.status ≡ OutOfMemory) → line_bytes said.line ≡ refusal_line said.status
      → IsStoppedAt path old new refuses said
  store_step fault said stops (inl is) line = record {
    cause = subst (StopsBy (Only path) old new refuses) (sym is) (step_cause fault stops);
    plain = ap names_addresses is ∙ store_plain fault;
    line = line;
  }
  store_step fault said stops (inr is) line = record {
    cause = subst (StopsBy (Only path) old new refuses) (sym is) tt;
    plain = ap names_addresses is;
    line = line;
  }

-- an answer carries what the fault of the store does
pub said_carries : (reads inputs outs : List ℕ → Type 0) (fault : StoreFault) (said : Status) → Carries reads inputs outs (store_status fault)
    → (said ≡ store_status fault) ⊎ (said ≡ OutOfMemory) → Carries reads inputs outs said
said_carries reads inputs outs fault said carried (inl is) = subst (Carries reads inputs outs) (sym is) carried
said_carries reads inputs outs fault said carried (inr is) = subst (Carries reads inputs outs) (sym is) tt

-- # Bytes that are no log

pub log_there : (path : List ℕ) (held : Contents) (bytes : List ℕ) (log : Log) → get held path ≡ Some bytes → IsLogText bytes log
    → IsLogAt path held log
log_there path held bytes log there spelled = record { bytes = bytes; there = there; spelled = spelled }

-- the refusal of bytes for what is wrong with them first
pub wrong_log : (which : ℕ) (bytes : List ℕ) (fault : LogFault) (refusal : Refusal)
    → (fault ≢ logs.OutOfMemory → IsLogFault bytes fault)
    → (refusal.status ≡ log_status which fault) ⊎ (refusal.status ≡ OutOfMemory) → line_bytes refusal.line ≡ refusal_line refusal.status
    → IsRefusalOfLog which bytes refusal
wrong_log which bytes logs.OutOfMemory refusal wrong (inl is) line = inl (record { status = is; line = line ∙ ap refusal_line is })
wrong_log which bytes fault refusal wrong (inl is) line =
    inr (record { refused = record { fault = fault; wrong = wrong (λ e. cc); is = is }; line = line })
wrong_log which bytes fault refusal wrong (inr is) line = inl (record { status = is; line = line ∙ ap refusal_line is })

log_plain : (which : ℕ) (fault : LogFault) → names_addresses (log_status which fault) ≡ false
log_plain which logs.OutOfMemory = refl
log_plain which (logs.TooLong limit number) = refl
log_plain which fault = refl

module _ (which : ℕ) (path : List ℕ) (old new : Store) (bytes : List ℕ) (there : IfTold old.held (λ h. get h path ≡ Some bytes)) where
  form_cause : (fault : LogFault) → IsLogFault bytes fault → StopsBy (Only path) old new (LogRefuses which path) (log_status which fault)
  form_cause logs.OutOfMemory wrong = tt
  form_cause (logs.TooLong limit number) wrong =
      λ h e. LogRefuses.no_log bytes (there h e) (record { fault = logs.TooLong limit number; wrong = wrong; is = refl })
  form_cause fault wrong = λ h e. LogRefuses.no_log bytes (there h e) (record { fault = fault; wrong = wrong; is = refl })

  pub form_stopped : (refusal : Refusal) → IsRefusalOfLog which bytes refusal → IsLogStopped which path old new refusal
  form_stopped refusal (inl memory) = record {
    cause = subst (StopsBy (Only path) old new (LogRefuses which path)) (sym memory.status) tt;
    plain = ap names_addresses memory.status;
    line = memory.line ∙ ap refusal_line (sym memory.status);
  }
  form_stopped refusal (inr wrong) = record {
    cause = subst (StopsBy (Only path) old new (LogRefuses which path)) (sym wrong.refused.is)
        (form_cause wrong.refused.fault wrong.refused.wrong);
    plain = ap names_addresses wrong.refused.is ∙ log_plain which wrong.refused.fault;
    line = wrong.line;
  }

form_number : (which : ℕ) (path bytes : List ℕ) (fault : LogFault) → IsLogFault bytes fault → CarriesLog path (log_status which fault)
form_number which path bytes logs.OutOfMemory wrong = tt
form_number which path bytes (logs.TooLong limit number) wrong = log_above bytes (logs.TooLong limit number) wrong
form_number which path bytes fault wrong = tt

pub form_carries : (which : ℕ) (path bytes : List ℕ) (refusal : Refusal) → IsRefusalOfLog which bytes refusal → CarriesLog path refusal.status
form_carries which path bytes refusal (inl memory) = subst (CarriesLog path) (sym memory.status) tt
form_carries which path bytes refusal (inr wrong) =
    subst (CarriesLog path) (sym wrong.refused.is) (form_number which path bytes wrong.refused.fault wrong.refused.wrong)
