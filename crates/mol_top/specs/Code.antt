-- The exit status of each answer.
use Rattle.std.specs.Prelude.{ℕ}
use Rattle.mol_top.specs.declared.status.Status.{Status}
use Rattle.mol_top.specs.declared.status.Status.TheVariants.{Done, Conflicts, Usage, BaseRefused, LogRefused, ReadFailed, Missing, WriteFailed, OutOfMemory, OutInUse, Limit}

abbrev pub code_of : Status → ℕ
code_of Done = 0
code_of (Conflicts count) = 1
code_of Usage = 2
code_of (BaseRefused fault) = 3
code_of (LogRefused which cause) = 4
code_of (ReadFailed path) = 5
code_of (Missing path) = 6
code_of (WriteFailed path) = 7
code_of OutOfMemory = 8
code_of (OutInUse path) = 9
code_of (Limit which count) = 10
