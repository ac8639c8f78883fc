use Rattle.std.proofs.Common.{sym, subst}
use Rattle.mol_faults_rules.specs.Kept.{kept_fault}
use Rattle.mol_spell_rules.specs.Support.{IsSupport}
use Rattle.mol_faults_support.proofs.InOrder.{same-cell, support-is}
use Rattle.mol_faults_support.proofs.supports.support.Goals as goal

pub in_order-cells-requires : goal.in_order-cells-requires
in_order-cells-requires c = same-cell

pub returns : goal.returns
returns c =
    let program = c.args.index.now in
    let fault = kept_fault c.args.fault.now in
    subst (IsSupport program fault) (sym c.from_vec.ensures)
    (support-is program fault c.in_ok-found.found.items c.in_order-cells.result.items c.in_ok-found.ensures
    c.in_order-cells.ensures.ascending c.in_order-cells.ensures.same)
