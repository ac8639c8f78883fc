use Rattle.std.proofs.Common.{◌∙◌, Some, None, cond, sym, ap}
use Rattle.mol_faults_entities.specs.package_faults.Packages.{row_of}
use Rattle.mol_faults_entities.specs.declared.package_faults.package_rows.PackageRow.{PackageRow}
use Rattle.mol_faults_entities.proofs.package_faults.package_rows.living_row.Goals as goal

pub returns-in_ok-row : goal.returns-in_ok-row
returns-in_ok-row c =
    ap (λ (row : PackageRow). Some row) c.in_ok-row.ensures
    ∙ sym (ap (λ b. cond b (Some (row_of c.args.table.now c.args.id.now)) None) (sym c.is_living_class.ensures ∙ c.if-is_living_class.true))

pub returns-else-is_living_class : goal.returns-else-is_living_class
returns-else-is_living_class c =
    sym (ap (λ b. cond b (Some (row_of c.args.table.now c.args.id.now)) None) (sym c.is_living_class.ensures ∙ c.if-is_living_class.false))
