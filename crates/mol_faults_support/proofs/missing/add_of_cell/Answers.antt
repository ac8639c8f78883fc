use Rattle.std.proofs.Common.{◌∙◌, ap, refl, sym}
use Rattle.std.proofs.lemmas.Result.{on_ok_weaker}
use Rattle.mol_faults_support.proofs.OfValues.{adds-cell, adds-none}
use Rattle.mol_faults_support.proofs.missing.add_of_cell.Goals as goal
use Rattle.mol_table_rules.specs.Program.{Program, value_at}

pub returns-in-Some : goal.returns-in-Some
returns-in-Some c =
    let at = c.args.at.now in
    let value = ap (λ (p : Program). value_at p at.id at.slot) (sym c.table-table.ensures) ∙ sym c.in-Some.ensures in
    on_ok_weaker c.add_of_value.result (adds-cell c.args.index.now at c.args.cells.now.items _ _ value) c.add_of_value.ensures

pub returns-in-None : goal.returns-in-None
returns-in-None c =
    let at = c.args.at.now in
    adds-none c.args.index.now at c.args.cells.now.items _
    (ap (λ (p : Program). value_at p at.id at.slot) (sym c.table-table.ensures) ∙ sym c.in-None.ensures) refl
