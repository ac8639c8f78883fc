use Rattle.std.proofs.Common.{subst}
use Rattle.std.specs.Prelude.{IfOk}
use Rattle.mol_faults_rules.specs.Kept.{kept_fault}
use Rattle.mol_faults.proofs.supports.support.Goals as goal
use Rattle.mol_spell_rules.specs.Support.{IsSupport}
use Rattle.mol_table_rules.specs.Program.{Program}

pub returns : goal.returns
returns c =
    subst (λ (p : Program). IfOk c.of.result (IsSupport p (kept_fault c.args.fault.now))) c.in_ok-supports.ensures c.of.ensures
