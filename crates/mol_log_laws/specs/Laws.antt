-- The laws of bytes as logs.
use Rattle.std.specs.Prelude.{◌≡◌, ◌⊎◌, ℕ, List}
use Rattle.mol_log_rows.specs.declared.lines.fault.LogFault.{LogFault}
use Rattle.mol_log.specs.Form.{IsLogFault, IsLogText}
use Rattle.mol_log.specs.declared.log.Log.{Log}

-- the bytes spell a log
pub record HasLog (bytes : List ℕ) : Type 0 where
  pub log : Log
  pub text : IsLogText bytes log

-- they spell none
pub record HasFault (bytes : List ℕ) : Type 0 where
  pub fault : LogFault
  pub first : IsLogFault bytes fault

-- Bytes spell a log or have a first fault, and not both. They spell one log, and have one first fault.
pub record LogsTold : Type 0 where
  pub either : (bytes : List ℕ) → HasLog bytes ⊎ HasFault bytes
  pub apart : (bytes : List ℕ) (log : Log) (fault : LogFault) → IsLogText bytes log → ¬ IsLogFault bytes fault
  pub one_log : (bytes : List ℕ) (first second : Log) → IsLogText bytes first → IsLogText bytes second → first ≡ second
  pub one_fault : (bytes : List ℕ) (first second : LogFault) → IsLogFault bytes first → IsLogFault bytes second → first ≡ second
