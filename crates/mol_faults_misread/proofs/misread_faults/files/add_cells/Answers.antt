use Rattle.std.proofs.Common.{◌∙◌, map, ap}
use Rattle.std.proofs.lemmas.Result.{on_ok_weaker}
use Rattle.mol_faults_misread.proofs.misread_faults_lemmas.SameFile.{all-cells}
use Rattle.mol_faults_misread.proofs.misread_faults.files.add_cells.Goals as goal
use Rattle.mol_faults_misread.specs.misread_faults.Found.{kept_name}
use Rattle.mol_spell_rules.specs.UnitCells.{members_of}
use Rattle.mol_table_rules.specs.Program.{Program, cell}
use Rattle.mol_values_types.specs.declared.cell.Slot.TheVariants as slots

pub returns : goal.returns
returns g c =
    let program : Program = c.args.index.now in
    let class = c.args.class.now in
    on_ok_weaker c.add_members.result (all-cells program (g.F.FileNames.imports c.args.file.now)
    (g.F.FileNames.simple c.args.file.now) class (cell class slots.Super) _ (members_of program class)
    (map kept_name c.args.found.now.items) _ _
    (c.members_of.ensures ∙ ap (λ (program : Program). members_of program class) c.requires.table) c.in_ok-add_cell.ensures)
    c.add_members.ensures
