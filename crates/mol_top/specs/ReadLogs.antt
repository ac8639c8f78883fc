-- What stops the reading of a log, and the look at OUT after it.
use Rattle.std.specs.Prelude.{◌≡◌, ◌⊎◌, ℕ, false, List, Some}
use Rattle.mol_outside.specs.Contents.{Contents}
use Rattle.mol_top.specs.Carried.{Carries, NoPath}
use Rattle.mol_top.specs.Logs.{LogRefuses, RefuseLog}
use Rattle.mol_top.specs.Outside.{Store}
use Rattle.mol_top.specs.Refusals.{out_refusal}
use Rattle.mol_top.specs.Refused.{IsForMemory}
use Rattle.mol_top.specs.Report.{line_bytes, names_addresses, refusal_line}
use Rattle.mol_top.specs.Steps.{Only, StopsBy}
use Rattle.mol_top.specs.declared.refusal.Refusal.{Refusal}
use Rattle.mol_top.specs.declared.status.Status.{Status}

-- bytes are refused for what is wrong with them first
pub record IsForLog (which : ℕ) (bytes : List ℕ) (refusal : Refusal) : Type 0 where
  pub refused : RefuseLog which bytes refusal.status
  pub line : line_bytes refusal.line ≡ refusal_line refusal.status

abbrev pub IsRefusalOfLog : ℕ → List ℕ → Refusal → Type 0
IsRefusalOfLog which bytes refusal = IsForMemory refusal ⊎ IsForLog which bytes refusal

-- a step that reads one path stops, and this is its refusal, whose line names no address
pub record IsStoppedAt (path : List ℕ) (old new : Store) (refuses : Contents → Status → Type 0) (refusal : Refusal) : Type 0 where
  pub cause : StopsBy (Only path) old new refuses refusal.status
  pub plain : names_addresses refusal.status ≡ false
  pub line : line_bytes refusal.line ≡ refusal_line refusal.status

-- the reading of a log stops
abbrev pub IsLogStopped : ℕ → List ℕ → Store → Store → Refusal → Type 0
IsLogStopped which path old new refusal = IsStoppedAt path old new (LogRefuses which path) refusal

-- a folder is in use
abbrev pub RefusesOut : List ℕ → Contents → Status → Type 0
RefusesOut out held status = out_refusal out held ≡ Some status

-- an answer to the reading of a log carries its path
abbrev pub CarriesLog : List ℕ → Status → Type 0
CarriesLog path status = Carries (Only path) (Only path) NoPath status
