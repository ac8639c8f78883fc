-- What the call that reads a log answers.
use Rattle.std.specs.Prelude.{◌≡◌, ◌≢◌, ◌⊎◌, ℕ, List, Result, Ok, Err, IfOk, IfErr}
use Rattle.mol_log_rows.specs.declared.lines.fault.LogFault.{LogFault}
use Rattle.mol_log_rows.specs.declared.lines.fault.LogFault.TheVariants.{OutOfMemory}
use Rattle.mol_log.specs.Form.{IsLogText, IsLogFault}
use Rattle.mol_log.specs.declared.log.Log.{Log}

-- the log that the bytes spell, and else their first fault, unless memory runs out
pub record IsLogRead (bytes : List ℕ) (result : Result Log LogFault) : Type 0 where
  -- the bytes spell what is answered
  pub spelled : IfOk result (λ log. IsLogText bytes log)
  -- the fault is the first one
  pub fault : IfErr result (λ fault. fault ≢ OutOfMemory → IsLogFault bytes fault)
  -- the log that the bytes spell is answered
  pub log_back : (log : Log) → ∥ IsLogText bytes log ∥₁ → (result ≡ Ok log) ⊎ (result ≡ Err OutOfMemory)
  -- and so is the first fault
  pub fault_back : (fault : LogFault) → IsLogFault bytes fault → (result ≡ Err fault) ⊎ (result ≡ Err OutOfMemory)
