use Rattle.std.proofs.Common.{◌≡◌, map, subst, sym}
use Rattle.std.specs.Prelude.{IfOk}
use Rattle.mol_faults_rules.specs.Kept.{kept_fault}
use Rattle.mol_faults_rules.specs.Met.{kept_met}
use Rattle.mol_faults_support.specs.Met.{HasMet}
use Rattle.mol_faults.proofs.supports.Supports.of.Goals as goal
use Rattle.mol_spell_rules.specs.Support.{IsSupport}
use Rattle.mol_table_rules.specs.Program.{Program}

pub support-requires : goal.support-requires
support-requires c =
    let fault = kept_fault c.args.fault.now in
    subst (λ (p : Program). HasMet p fault (map kept_met c.as_slice.result.now)) (sym c.self.view_is)
    (subst (λ met. HasMet c.args.self.now fault (map kept_met met)) (sym c.as_slice.ensures.value) c.in_ok-met.ensures)

pub returns : goal.returns
returns c = subst (λ (p : Program). IfOk c.support.result (IsSupport p (kept_fault c.args.fault.now))) c.self.view_is c.support.ensures
