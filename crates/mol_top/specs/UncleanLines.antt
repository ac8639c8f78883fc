-- The lines of programs that are not clean, a base or what a log leaves of it. They name addresses of the base.
use Rattle.std.specs.Prelude.{◌≡◌, ℕ, List}
use Rattle.mol_faults_rules.specs.Kept.{kept_fault}
use Rattle.mol_outside.specs.Contents.{Contents}
use Rattle.mol_replay.specs.declared.fault.ReplayFault.TheVariants.{NotClean}
use Rattle.mol_report.specs.FaultText.{fault_text}
use Rattle.mol_report_logs.specs.ReplayFaults.{replay_fault_text}
use Rattle.mol_table_rules.specs.Program.{Program}
use Rattle.mol_top.specs.Bases.{IsBaseOf}
use Rattle.mol_top.specs.Report.{base_line, log_line, refusal_line}
use Rattle.mol_top.specs.declared.status.BaseFault.TheVariants.{Unclean}
use Rattle.mol_top.specs.declared.status.LogCause.TheVariants.{Replay}
use Rattle.mol_top.specs.declared.status.Status.{Status}
use Rattle.mol_top.specs.declared.status.Status.TheVariants.{BaseRefused, LogRefused}

-- over the program that the files of a base are
abbrev pub program_line : Program → Status → List ℕ
program_line program (BaseRefused (Unclean fault)) = base_line (fault_text program (kept_fault fault))
program_line program (LogRefused which (Replay (NotClean fault))) = log_line which (replay_fault_text program (NotClean fault))
program_line program status = refusal_line status

pub record IsProgramLine (base : List ℕ) (held : Contents) (status : Status) (line : List ℕ) : Type 0 where
  pub program : Program
  pub base_of : IsBaseOf base held program
  pub is : line ≡ program_line program status
