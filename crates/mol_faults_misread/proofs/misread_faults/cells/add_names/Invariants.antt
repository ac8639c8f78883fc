use Rattle.std.proofs.Common.{◌≡◌, ◌++◌, map}
use Rattle.mol_faults_expr.specs.Kept.{kept_misread}
use Rattle.mol_faults_misread.proofs.misread_faults.cells.add_names.Given as goal
use Rattle.mol_faults_misread.specs.misread_faults.Found.{found_at, kept_name}

abbrev pub invariant-loop-misread : goal.invariant-loop-misread
invariant-loop-misread l =
    map kept_name l.names.items ≡ map kept_name l.initial.names.items ++ map (found_at l.at) (map kept_misread l.yielded)
