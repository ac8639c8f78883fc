use Rattle.std.proofs.Common.{subst}
use Rattle.std.specs.Prelude.{IfOk}
use Rattle.std.proofs.lemmas.Result.{IfOk-weaker}
use Rattle.mol_faults.proofs.NamesSorted.{are-names}
use Rattle.mol_faults.specs.Names.{AreNames}
use Rattle.mol_faults.proofs.names.names_of.Goals as goal
use Rattle.mol_table_rules.specs.Program.{Program}

pub returns : goal.returns
returns c =
    subst (λ (p : Program). IfOk c.by_place.result (λ names. AreNames p names.items)) c.in_ok-tidied.ensures.ok
    (IfOk-weaker c.by_place.result _ _ (λ sorted is. are-names c.in_ok-tidied.tidied c.in_ok-names.names.items sorted.items
    c.in_ok-names.ensures is.0 is.1) c.by_place.ensures)
