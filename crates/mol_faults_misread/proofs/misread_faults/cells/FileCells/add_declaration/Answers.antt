use Rattle.std.proofs.Common.{map}
use Rattle.std.proofs.lemmas.Result.{on_ok_weaker}
use Rattle.mol_faults_misread.proofs.misread_faults_lemmas.SameFile.{three-cells}
use Rattle.mol_faults_misread.proofs.misread_faults.cells.FileCells.add_declaration.Goals as goal
use Rattle.mol_faults_misread.specs.misread_faults.Found.{kept_name}
use Rattle.mol_table_rules.specs.Program.{cell}
use Rattle.mol_values_types.specs.declared.cell.Slot.TheVariants as slots

pub returns : goal.returns
returns g c =
    let cells = c.args.self.now in
    on_ok_weaker c.add_cell-3.result (three-cells cells.index.now (g.F.FileNames.imports cells.file.now)
    (g.F.FileNames.simple cells.file.now) cells.class (cell c.args.method.now slots.Result) (cell c.args.method.now slots.Params)
    (cell c.args.id.now slots.Body) (map kept_name c.args.names.now.items) _ _ _ c.in_ok-add_cell.ensures c.in_ok-add_cell-2.ensures)
    c.add_cell-3.ensures
