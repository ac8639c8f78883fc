use Rattle.std.proofs.Common.{◌∙◌, sym, ap, subst}
use Rattle.std.specs.Prelude.{IfOk, option_map}
use Rattle.mol_faults.specs.First.{IsFirst}
use Rattle.mol_faults_rules.specs.Kept.{kept_fault}
use Rattle.mol_replay.proofs.tidying.first_fault_in.Goals as goal
use Rattle.mol_table_rules.specs.Program.{Program}
use Rattle.mol_table_rules.specs.Tidy.{tidy}

pub first_fault_of_tidied-requires : goal.first_fault_of_tidied-requires
first_fault_of_tidied-requires c = ap tidy c.in_ok-program.ensures ∙ c.requires ∙ sym c.in_ok-program.ensures

pub returns : goal.returns
returns c =
    subst (λ (program : Program). IfOk c.first_fault_of_tidied.result (λ first. IsFirst program (option_map kept_fault first)))
    c.in_ok-program.ensures c.first_fault_of_tidied.ensures
