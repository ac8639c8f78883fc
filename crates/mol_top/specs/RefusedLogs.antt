-- The refusal of a log that does not replay on a base, with its line.
use Rattle.std.specs.Prelude.{◌≡◌, ◌≢◌, ◌⊎◌, ℕ, List}
use Rattle.mol_replay.specs.declared.fault.ReplayFault.{ReplayFault}
use Rattle.mol_replay.specs.declared.fault.ReplayFault.TheVariants as faults
use Rattle.mol_report_logs.specs.ReplayFaults.{replay_fault_text}
use Rattle.mol_table_rules.specs.Program.{Program}
use Rattle.mol_top.specs.Refused.{IsForMemory}
use Rattle.mol_top.specs.Report.{line_bytes, log_line}
use Rattle.mol_top.specs.declared.refusal.Refusal.{Refusal}
use Rattle.mol_top.specs.declared.status.LogCause.TheVariants.{Replay}
use Rattle.mol_top.specs.declared.status.Status.TheVariants.{LogRefused}

-- the log of this number is refused for a fault of its replay, with a line
pub record IsForFault (which : ℕ) (fault : ReplayFault) (line : List ℕ) (refusal : Refusal) : Type 0 where
  pub enough : fault ≢ faults.OutOfMemory
  pub is : refusal.status ≡ LogRefused which (Replay fault)
  pub says : line_bytes refusal.line ≡ line

abbrev pub IsRefusalWith : ℕ → ReplayFault → List ℕ → Refusal → Type 0
IsRefusalWith which fault line refusal = IsForMemory refusal ⊎ IsForFault which fault line refusal

-- that line is the one of its fault, over the program that its base is
abbrev pub IsRefusalOfFault : Program → ℕ → ReplayFault → Refusal → Type 0
IsRefusalOfFault base which fault refusal = IsRefusalWith which fault (log_line which (replay_fault_text base fault)) refusal
