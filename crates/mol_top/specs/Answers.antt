-- What a run answers to the faults of the calls below it.
use Rattle.std.specs.Prelude.{ℕ}
use Rattle.mol_log_rows.specs.declared.lines.fault.LogFault.{LogFault}
use Rattle.mol_log_rows.specs.declared.lines.fault.LogFault.TheVariants as logs
use Rattle.mol_merge.specs.declared.outcome.MergeFault.{MergeFault}
use Rattle.mol_merge.specs.declared.outcome.MergeFault.TheVariants as merges
use Rattle.mol_program.specs.declared.fault.ReadFault.{ReadFault}
use Rattle.mol_program.specs.declared.fault.ReadFault.TheVariants as read
use Rattle.mol_spell_files.specs.declared.limits.LimitFault.{LimitFault}
use Rattle.mol_top.specs.declared.fault.StoreFault.{StoreFault}
use Rattle.mol_top.specs.declared.fault.StoreFault.TheVariants as faults
use Rattle.mol_top.specs.declared.status.BaseFault.TheVariants.{Source}
use Rattle.mol_top.specs.declared.status.LogCause.TheVariants.{Form, Replay, SharedTag}
use Rattle.mol_top.specs.declared.status.Status.{Status}
use Rattle.mol_top.specs.declared.status.Status.TheVariants.{BaseRefused, LogRefused, ReadFailed, Missing, OutOfMemory, OutInUse, Limit}

abbrev pub limit_status : LimitFault → Status
limit_status fault = Limit fault.which fault.number

abbrev pub store_status : StoreFault → Status
store_status (faults.ReadFailed path) = ReadFailed path
store_status (faults.Missing path) = Missing path
store_status (faults.OutInUse path) = OutInUse path
store_status (faults.Limit fault) = limit_status fault
store_status faults.OutOfMemory = OutOfMemory

abbrev pub read_status : ReadFault → Status
read_status (read.Refused place fault) = BaseRefused (Source place fault)
read_status read.OutOfMemory = OutOfMemory

-- of the log of this number
abbrev pub log_status : ℕ → LogFault → Status
log_status which logs.OutOfMemory = OutOfMemory
log_status which (logs.TooLong limit number) = Limit limit number
log_status which fault = LogRefused which (Form fault)

-- of two logs
abbrev pub merge_status : MergeFault → Status
merge_status (merges.SharedTag tag) = LogRefused 2 (SharedTag tag)
merge_status (merges.First fault) = LogRefused 1 (Replay fault)
merge_status (merges.Second fault) = LogRefused 2 (Replay fault)
merge_status (merges.Limit which number) = Limit which number
merge_status merges.OutOfMemory = OutOfMemory
