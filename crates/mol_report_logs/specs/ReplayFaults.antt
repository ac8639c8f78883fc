-- Why a log does not replay on a base: a name, and the two digests, the first entry that does not apply, or the first fault of what the log leaves.
use Rattle.std.specs.Prelude.{ℕ, List, [], ◌∷◌, ◌++◌, codes}
use Rattle.hex.specs.Hex.{encode_lower}
use Rattle.mol_base.specs.Identity.{spelled_stamp}
use Rattle.mol_faults_rules.specs.Kept.{kept_fault}
use Rattle.mol_replay.specs.declared.fault.ReplayFault.{ReplayFault}
use Rattle.mol_replay.specs.declared.fault.ReplayFault.TheVariants.{BaseDiffers, NotApplicable, NotClean, OutOfMemory}
use Rattle.mol_report.specs.FaultText.{fault_text}
use Rattle.mol_report_logs.specs.OpFaults.{op_fault_text}
use Rattle.mol_table_rules.specs.Program.{Program}

-- what names no address of the base; nothing of the fault of a program, whose line is made where the base is at hand
abbrev pub plain_fault_text : ReplayFault → List ℕ
plain_fault_text (BaseDiffers have want) = codes "base-differs " ++ encode_lower have ++ 32 ∷ encode_lower want
plain_fault_text (NotApplicable stamp why) = codes "not-applicable " ++ spelled_stamp stamp ++ 32 ∷ op_fault_text why
plain_fault_text (NotClean fault) = []
plain_fault_text OutOfMemory = codes "out-of-memory"

abbrev pub replay_fault_text : Program → ReplayFault → List ℕ
replay_fault_text base (NotClean fault) = codes "not-clean " ++ fault_text base (kept_fault fault)
replay_fault_text base fault = plain_fault_text fault
