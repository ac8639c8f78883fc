use Rattle.std.proofs.Common.{List, [], ◌∷◌, map, refl}
use Rattle.std.specs.Borrow.{Bor}
use Rattle.jav_names.specs.DottedNames.{Name}
use Rattle.mol_faults_values.proofs.local_faults.clashing.add_names.Goals as goal
use Rattle.mol_faults_values.specs.local_faults.Clashing.{clash_of}
use Rattle.mol_base.proofs.Added.{adds-whole}

pub returns : goal.returns
returns c =
    let clash = clash_of c.args.declaration.now in
    adds-whole (λ (names : List (Bor Name)). map clash (map (λ name. name.now) names)) (λ name. clash name.now ∷ []) refl (λ x rest. refl)
    c.args.names.now c.loop-name.name-index _ _ c.loop-name-test.false c.loop-name.invariant
