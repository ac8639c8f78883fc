-- Logs at paths of a store, and what refuses others.
use Rattle.std.specs.FinMap.{get}
use Rattle.std.specs.Prelude.{◌≡◌, ℕ, List, Some}
use Rattle.mol_log.specs.Form.{IsLogFault, IsLogText}
use Rattle.mol_log.specs.declared.log.Log.{Log}
use Rattle.mol_log_rows.specs.declared.lines.fault.LogFault.{LogFault}
use Rattle.mol_outside.specs.Contents.{Contents}
use Rattle.mol_top.specs.Answers.{log_status}
use Rattle.mol_top.specs.Refusals.{absent_input}
use Rattle.mol_top.specs.declared.status.Status.{Status}

-- a file is there at the path, and its bytes spell the log
pub record IsLogAt (path : List ℕ) (held : Contents) (log : Log) : Type 0 where
  pub bytes : List ℕ
  pub there : get held path ≡ Some bytes
  pub spelled : IsLogText bytes log

-- bytes that spell no log are refused as the log of this number: for what is wrong with them first, of which the limits of a log are tried
-- before its form
pub record RefuseLog (which : ℕ) (bytes : List ℕ) (status : Status) : Type 0 where
  pub fault : LogFault
  pub wrong : IsLogFault bytes fault
  pub is : status ≡ log_status which fault

-- what refuses the log of this number, which is to be at the path
pub data LogRefuses (which : ℕ) (path : List ℕ) (held : Contents) (status : Status) : Type 0 where
  absent : absent_input path held ≡ Some status → LogRefuses which path held status
  no_log : (bytes : List ℕ) → get held path ≡ Some bytes → RefuseLog which bytes status → LogRefuses which path held status
