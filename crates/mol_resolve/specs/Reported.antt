-- The faults for which files are refused.
use Rattle.std.specs.Prelude.{◌≢◌}
use Rattle.mol_resolve_faults.specs.first_faults.FirstByPath.{IsFirstOf}
use Rattle.mol_resolve_faults.specs.declared.fault.ResolveFault.{ResolveFault}
use Rattle.mol_resolve_faults.specs.declared.fault.ResolveFault.TheVariants.{OutOfMemory}
use Rattle.mol_resolve_rules.specs.Files.{Files}
use Rattle.mol_resolve_rules.specs.ResolveFaults.{HavePathsApart}

-- Unless it is want of memory, the fault is the first one of the files, where no two of these have one path.
abbrev pub IsReported : Files → ResolveFault → Type 0
IsReported files fault = fault ≢ OutOfMemory → HavePathsApart files → IsFirstOf files fault
