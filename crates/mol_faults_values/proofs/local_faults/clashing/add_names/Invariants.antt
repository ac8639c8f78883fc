use Rattle.std.proofs.Common.{◌≡◌, ◌++◌, map, drop}
use Rattle.std.specs.Borrow.{Bor}
use Rattle.jav_names.specs.DottedNames.{Name}
use Rattle.mol_faults_values.proofs.local_faults.clashing.add_names.Given as goal
use Rattle.mol_faults_values.specs.local_faults.Clashing.{clash_of}

abbrev pub invariant-loop-name : goal.invariant-loop-name
invariant-loop-name l =
    l.clashes.items ++ map (clash_of l.declaration) (map (λ (name : Bor Name). name.now) (drop l.name-index l.names))
    ≡ l.initial.clashes.items ++ map (clash_of l.declaration) (map (λ (name : Bor Name). name.now) l.names)
