use Rattle.std.proofs.Common.{map}
use Rattle.std.proofs.lemmas.Result.{IfOk-weaker}
use Rattle.mol_faults_misread.proofs.misread_faults_lemmas.Found.{all-misread}
use Rattle.mol_faults_misread.proofs.misread_faults.names.misread_names.Goals as goal
use Rattle.mol_faults_misread.specs.misread_faults.Found.{kept_name}

pub returns : goal.returns
returns c =
    IfOk-weaker c.names_in.result _ _ (λ names.
    all-misread c.args.tidied.now c.ids.result.now (rw c.table.ensures at c.ids.ensures.known) (map kept_name names.items))
    c.names_in.ensures
