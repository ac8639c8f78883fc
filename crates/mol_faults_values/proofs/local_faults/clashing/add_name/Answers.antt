use Rattle.std.proofs.Common.{[], ◌∷◌, ◌++◌, ◌∙◌, ap}
use Rattle.mol_faults_values.proofs.local_faults.clashing.add_name.Goals as goal
use Rattle.mol_faults_values.specs.local_faults.Clashing.{clash_of}

pub returns : goal.returns
returns c =
    c.in_ok-push.ensures.items
    ∙ ap (λ name. c.args.clashes.now.items ++ clash_of c.args.declaration.now name ∷ []) c.in_ok-name.ensures
