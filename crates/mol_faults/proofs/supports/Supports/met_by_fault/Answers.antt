use Rattle.std.proofs.Common.{map, sym, subst}
use Rattle.std.specs.Prelude.{IfOk}
use Rattle.mol_faults_rules.specs.Kept.{kept_fault}
use Rattle.mol_faults_rules.specs.declared.fault.Fault.{Fault}
use Rattle.mol_faults.proofs.MetNames.{none-met}
use Rattle.mol_faults_rules.specs.Met.{kept_met}
use Rattle.mol_faults_support.specs.Met.{HasMet}
use Rattle.mol_faults.proofs.supports.Supports.met_by_fault.Goals as goal

pub returns-in-Misread : goal.returns-in-Misread
returns-in-Misread c =
    subst (λ (fault : Fault). IfOk c.met_by_name.result (λ met. HasMet c.args.self.now (kept_fault fault) (map kept_met met.items)))
    (sym c.in-Misread.is) c.met_by_name.ensures

pub returns-in_default : goal.returns-in_default
returns-in_default c = none-met c.args.self.now c.args.fault.now c.in_default.not-Misread _
