use Rattle.std.proofs.Common.{◌∙◌, ap, map, option_map}
use Rattle.mol_faults_rules.specs.Kept.{kept_fault}
use Rattle.mol_faults.proofs.FirstOfAll.{is-first-of}
use Rattle.mol_faults.proofs.first.first_fault.Goals as goal
use Rattle.mol_faults.specs.First.{first_of}

pub returns : goal.returns
returns c =
    is-first-of c.args.table.now (map kept_fault c.in_ok-faults.field-0) (option_map kept_fault c.first_of.result)
    (c.first_of.ensures ∙ ap (λ all. first_of (map kept_fault all)) c.into_vec.ensures) c.in_ok-faults.ensures
