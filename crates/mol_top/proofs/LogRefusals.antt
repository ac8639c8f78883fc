-- The lines of refusals over a base, of logs and of others.
use Rattle.std.proofs.Common.{◌≡◌, ◌∙◌, ℕ, Bool, true, false, List, refl, subst}
use Rattle.std.specs.Prelude.{Some}
use Rattle.mol_outside.specs.Contents.{Contents}
use Rattle.mol_replay.specs.declared.fault.ReplayFault.{ReplayFault}
use Rattle.mol_replay.specs.declared.fault.ReplayFault.TheVariants as faults
use Rattle.mol_report_logs.specs.ReplayFaults.{replay_fault_text}
use Rattle.mol_table_rules.specs.Program.{Program}
use Rattle.mol_top.specs.Bases.{IsBaseOf}
use Rattle.mol_top.specs.Command.{Command}
use Rattle.mol_top.specs.Outcome.{ByNames, IsAddressesLine}
use Rattle.mol_top.specs.Outside.{IfTold, Store}
use Rattle.mol_top.specs.Prepared.{HasItsLine}
use Rattle.mol_top.specs.RefusedLogs.{IsRefusalOfFault, IsRefusalWith}
use Rattle.mol_top.specs.Report.{line_bytes, log_line, names_addresses, refusal_line}
use Rattle.mol_top.specs.UncleanLines.{IsProgramLine, program_line}
use Rattle.mol_top.specs.declared.refusal.Refusal.{Refusal}
use Rattle.mol_top.specs.declared.status.BaseFault.TheVariants.{Unclean}
use Rattle.mol_top.specs.declared.status.LogCause.TheVariants.{Replay}
use Rattle.mol_top.specs.declared.status.Status.{Status}
use Rattle.mol_top.specs.declared.status.Status.TheVariants.{BaseRefused, LogRefused}

-- a line that names no address is the same over any program
pub any_program : (program : Program) (s : Status) → names_addresses s ≡ false → program_line program s ≡ refusal_line s
any_program program (BaseRefused (Unclean fault)) plain = absurd cc
any_program program (LogRefused k (Replay (faults.NotClean fault))) plain = absurd cc
any_program program s plain = refl

-- a line over the program of a base is that of a command over the base
module _ (c : Command) (base : List ℕ) (old : Store) (program : Program) (is_base : IfTold old.held (λ h. IsBaseOf base h program))
    (lines : (h : Contents) (s : Status) (line : List ℕ) → IsProgramLine base h s line → IsAddressesLine c h s line) where
  by_names : (refusal : Refusal) (b : Bool) → names_addresses refusal.status ≡ b → line_bytes refusal.line ≡ program_line program refusal.status
      → ByNames b (Some c) old refusal.status (λ line. line_bytes refusal.line ≡ line)
  by_names refusal true names is = λ h e. let line = line_bytes refusal.line in
      (line, lines h refusal.status line (record { program = program; base_of = is_base h e; is = is }), refl)
  by_names refusal false names is = is ∙ any_program program refusal.status names

  pub its_line : (refusal : Refusal) → line_bytes refusal.line ≡ program_line program refusal.status → HasItsLine c old refusal
  its_line refusal is = by_names refusal (names_addresses refusal.status) refl is

-- the line of a log that does not replay is that of its status
pub fault_line : (base : Program) (which : ℕ) (fault : ReplayFault)
    → log_line which (replay_fault_text base fault) ≡ program_line base (LogRefused which (Replay fault))
fault_line base which (faults.NotClean fault) = refl
fault_line base which (faults.BaseDiffers have want) = refl
fault_line base which (faults.NotApplicable stamp why) = refl
fault_line base which faults.OutOfMemory = refl

-- the refusal for a fault of a replay
pub fault_with : (base : Program) (which : ℕ) (fault : ReplayFault) (line : List ℕ) (refusal : Refusal)
    → line ≡ log_line which (replay_fault_text base fault) → IsRefusalWith which fault line refusal
    → IsRefusalOfFault base which fault refusal
fault_with base which fault line refusal is said = subst (λ line. IsRefusalWith which fault line refusal) is said
