-- What the call that reads a log answers is the log that the bytes spell, or their first fault.
use mathlib.Core.HLevel.{⊥_prop}
use Rattle.std.proofs.Common.{◌≡◌, ◌≢◌, ◌⊎◌, inl, inr, ℕ, List, Result, Ok, Err, refl, ap}
use Rattle.std.proofs.Math.Logic.{∥∥₁_elim}
use Rattle.std.specs.Coded.{Coded-set}
use Rattle.std.specs.Prelude.{IfOk, IfErr, MatchResult}
use Rattle.mol_log_rows.specs.declared.lines.fault.LogFault.{LogFault}
use Rattle.mol_log_rows.specs.declared.lines.fault.LogFault.TheVariants.{OutOfMemory, TooLong, BadHeader, Torn, NotUtf8, NotJson, BadOp, BadStamp}
use Rattle.mol_log_rows.specs.declared.lines.fault.LogFault.TheVariants.{BadBody}
use Rattle.mol_log.proofs.LogLaws.{one_log, one_fault, no_fault}
use Rattle.mol_log.specs.Form.{IsLogText, IsLogFault}
use Rattle.mol_log.specs.Reading.{IsLogRead}
use Rattle.mol_log.specs.contracts.log.Log as log_row
use Rattle.mol_log.specs.declared.log.Log.{Log}

-- memory ran out, or not
memory : (fault : LogFault) → (fault ≡ OutOfMemory) ⊎ (fault ≢ OutOfMemory)
memory OutOfMemory = inl refl
memory (TooLong which count) = inr (λ e. cc)
memory BadHeader = inr (λ e. cc)
memory (Torn line) = inr (λ e. cc)
memory (NotUtf8 line) = inr (λ e. cc)
memory (NotJson line) = inr (λ e. cc)
memory (BadOp line) = inr (λ e. cc)
memory (BadStamp line) = inr (λ e. cc)
memory (BadBody line word) = inr (λ e. cc)

module _ (bytes : List ℕ) where
  abbrev pub Answers : Result Log LogFault → Type 0
  Answers result = MatchResult result (λ log. IsLogText bytes log) (λ fault. fault ≢ OutOfMemory → IsLogFault bytes fault)

  spelled : (result : Result Log LogFault) → Answers result → IfOk result (λ log. IsLogText bytes log)
  spelled (Ok log) answers = answers
  spelled (Err fault) answers = tt

  faulty : (result : Result Log LogFault) → Answers result → IfErr result (λ fault. fault ≢ OutOfMemory → IsLogFault bytes fault)
  faulty (Ok log) answers = tt
  faulty (Err fault) answers = answers

  -- what is to be answered, unless memory runs out
  abbrev Is : Result Log LogFault → Result Log LogFault → Type 0
  Is result wanted = (result ≡ wanted) ⊎ (result ≡ Err OutOfMemory)

  log-back : (result : Result Log LogFault) → Answers result → (log : Log) → ∥ IsLogText bytes log ∥₁ → Is result (Ok log)
  log-back (Ok found) answers log text =
      inl (ap Ok (∥∥₁_elim text (Coded-set log_row.the_row.coded found log) (λ t. one_log bytes found log answers t)))
  log-back (Err fault) answers log text = by (memory fault) where
    by : (fault ≡ OutOfMemory) ⊎ (fault ≢ OutOfMemory) → Is (Err fault) (Ok log)
    by (inl is) = inr (ap Err is)
    by (inr enough) = absurd (∥∥₁_elim text ⊥_prop (λ t. no_fault bytes log fault t (answers enough)))

  fault-back : (result : Result Log LogFault) → Answers result → (fault : LogFault) → IsLogFault bytes fault → Is result (Err fault)
  fault-back (Ok found) answers fault has = absurd (no_fault bytes found fault answers has)
  fault-back (Err found) answers fault has = by (memory found) where
    by : (found ≡ OutOfMemory) ⊎ (found ≢ OutOfMemory) → Is (Err found) (Err fault)
    by (inl is) = inr (ap Err is)
    by (inr enough) = inl (ap Err (one_fault bytes found fault (answers enough) has))

  pub log-read : (result : Result Log LogFault) → Answers result → IsLogRead bytes result
  log-read result answers = record {
    spelled = spelled result answers;
    fault = faulty result answers;
    log_back = log-back result answers;
    fault_back = fault-back result answers;
  }
