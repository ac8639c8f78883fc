-- Why bytes are no log: a name, then the number of a line or what passes a limit.
use Rattle.std.specs.Prelude.{ℕ, List, ◌∷◌, ◌++◌, codes}
use Rattle.std.specs.Fmt.{decimal}
use Rattle.mol_log_rows.specs.declared.lines.fault.LogFault.{LogFault}
use Rattle.mol_log_rows.specs.declared.lines.fault.LogFault.TheVariants.{OutOfMemory, TooLong, BadHeader, Torn, NotUtf8, NotJson, BadOp, BadStamp, BadBody}
use Rattle.mol_report_logs.specs.Limits.{limit_text}

abbrev pub log_fault_text : LogFault → List ℕ
log_fault_text OutOfMemory = codes "out-of-memory"
log_fault_text (TooLong which count) = codes "too-long " ++ limit_text which ++ 32 ∷ decimal count
log_fault_text BadHeader = codes "bad-header"
log_fault_text (Torn line) = codes "torn " ++ decimal line
log_fault_text (NotUtf8 line) = codes "not-utf8 " ++ decimal line
log_fault_text (NotJson line) = codes "not-json " ++ decimal line
log_fault_text (BadOp line) = codes "bad-op " ++ decimal line
log_fault_text (BadStamp line) = codes "bad-stamp " ++ decimal line
log_fault_text (BadBody line word) = codes "bad-body " ++ decimal line ++ 32 ∷ decimal word
