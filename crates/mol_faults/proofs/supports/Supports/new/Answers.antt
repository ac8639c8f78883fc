use Rattle.std.proofs.Common.{subst, sym}
use Rattle.mol_faults.specs.Names.{AreNames}
use Rattle.mol_faults.proofs.supports.Supports.new.Goals as goal
use Rattle.mol_table_rules.specs.Program.{Program}
use Rattle.mol_table_rules.specs.Tidy.{tidy}

pub invariant_of-result : goal.invariant_of-result
invariant_of-result c =
    subst (λ (p : Program). AreNames (tidy p) c.in_ok-names.names.items) (sym c.in_ok-declarations.ensures) c.in_ok-names.ensures
