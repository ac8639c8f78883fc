use Rattle.std.proofs.Common.{map}
use Rattle.std.proofs.lemmas.Result.{IfOk-weaker}
use Rattle.mol_faults_support.proofs.Arms.{arm, clash-arm, misread-arm, table-arm}
use Rattle.mol_faults_rules.specs.Met.{kept_met}
use Rattle.mol_faults_support.proofs.supports.rests_on.Goals as goal

pub returns-in-SameAddress : goal.returns-in-SameAddress
returns-in-SameAddress c =
    table-arm c.same_address.result (λ cells. cells.items) c.args.index.now c.args.fault.now _ c.table-table.ensures _ c.in-SameAddress.is
    c.same_address.ensures

pub returns-in-FalseOverride : goal.returns-in-FalseOverride
returns-in-FalseOverride c =
    table-arm c.false_override.result (λ cells. cells.items) c.args.index.now c.args.fault.now _ c.table-table.ensures _ c.in-FalseOverride.is
    c.false_override.ensures

pub returns-in-Apart : goal.returns-in-Apart
returns-in-Apart c =
    arm c.apart.result (λ cells. cells.items) c.args.index.now c.args.fault.now _ c.in-Apart.is c.apart.ensures

pub returns-in-OutsideName : goal.returns-in-OutsideName
returns-in-OutsideName c =
    arm c.outside_name.result (λ cells. cells.items) c.args.index.now c.args.fault.now _ c.in-OutsideName.is c.outside_name.ensures

pub returns-in-Missing : goal.returns-in-Missing
returns-in-Missing c =
    arm c.missing.result (λ cells. cells.items) c.args.index.now c.args.fault.now _ c.in-Missing.is c.missing.ensures

pub returns-in-Misread : goal.returns-in-Misread
returns-in-Misread c = misread-arm c.misread.result (λ cells. cells.items) c.args.index.now c.args.fault.now
    (map kept_met c.args.met.now) _ _ _ c.in-Misread.is c.requires c.misread.ensures

pub returns-in-LocalClash : goal.returns-in-LocalClash
returns-in-LocalClash c =
    clash-arm c.local_clash.result (λ cells. cells.items) c.args.index.now c.args.fault.now _ c.table-table.ensures _ _ c.in-LocalClash.is
    c.local_clash.ensures

pub returns-in-PackageIsClass : goal.returns-in-PackageIsClass
returns-in-PackageIsClass c =
    arm c.package_is_class.result (λ cells. cells.items) c.args.index.now c.args.fault.now _ c.in-PackageIsClass.is
    (IfOk-weaker c.package_is_class.result _ _ (λ cells rests. rests c.args.index.now) c.package_is_class.ensures)
