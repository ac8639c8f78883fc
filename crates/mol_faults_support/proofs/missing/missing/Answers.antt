use Rattle.std.proofs.Common.{◌∙◌, ◌++◌, ◌∷◌, ap}
use Rattle.std.specs.FinMap.{get}
use Rattle.mol_faults_support.specs.Cells.{declared_method, params_beside}
use Rattle.mol_faults_support.proofs.ByFault.{missing-rests}
use Rattle.mol_faults_support.proofs.missing.missing.Goals as goal
use Rattle.mol_table_rules.specs.Program.{Program, method_of_param}

pub returns : goal.returns
returns c =
    let at = c.args.at.now in
    let lives = c.in_ok-cells.cells.items in
    missing-rests c.args.index.now at c.args.target.now lives _ _ c.in_ok-cells.ensures
    (c.in_ok-add_beside.ensures ∙ ap (λ (p : Program). lives ++ at ∷ (declared_method at.id (get p.known at.id)
    ++ params_beside (method_of_param p c.args.target.now))) c.table.ensures)
    c.in_ok-add_of_cell.ensures
