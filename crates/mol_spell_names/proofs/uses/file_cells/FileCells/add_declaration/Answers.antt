use Rattle.std.proofs.lemmas.Result.{on_ok_weaker}
use Rattle.mol_spell_names.proofs.uses_lemmas.MembersUsed.{three-cells}
use Rattle.mol_spell_names.proofs.uses.file_cells.FileCells.add_declaration.Goals as goal
use Rattle.mol_table_rules.specs.Program.{cell}
use Rattle.mol_values_types.specs.declared.cell.Slot.TheVariants as slots

pub returns : goal.returns
returns c =
    let file = c.args.self.now in
    on_ok_weaker c.add_cell-3.result (three-cells file.index.now file.class (cell c.args.method.now slots.Result)
    (cell c.args.method.now slots.Params) (cell c.args.id.now slots.Body) c.args.uses.now _ _ _ c.in_ok-add_cell.ensures
    c.in_ok-add_cell-2.ensures) c.add_cell-3.ensures
