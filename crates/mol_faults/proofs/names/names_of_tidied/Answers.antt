use Rattle.std.proofs.Common.{map, subst}
use Rattle.std.specs.Prelude.{◌↔◌, Contains, IfOk}
use Rattle.mol_faults.proofs.names.names_of_tidied.Goals as goal
use Rattle.mol_faults_misread.specs.misread_faults.Found.{Found, IsMisread, kept_name}
use Rattle.mol_table_rules.specs.Program.{Program}

pub returns : goal.returns
returns c =
    subst (λ (program : Program). IfOk c.misread_names.result
    (λ names. (found : Found) → Contains (map kept_name names.items) found ↔ IsMisread program found)) c.in_ok-index.ensures
    c.misread_names.ensures
