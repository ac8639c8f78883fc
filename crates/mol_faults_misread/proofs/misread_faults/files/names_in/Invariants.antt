use Rattle.std.proofs.Common.{◌≡◌, ◌++◌, map, drop}
use Rattle.mol_faults_misread.proofs.misread_faults.files.names_in.Given as goal
use Rattle.mol_faults_misread.specs.misread_faults.Found.{all_misreads, kept_name}

abbrev pub invariant-loop-id : goal.invariant-loop-id
invariant-loop-id l = map kept_name l.found.items ++ all_misreads l.program (drop l.id-index l.ids) ≡ all_misreads l.program l.ids
