use Rattle.std.proofs.Common.{◌≡◌, ◌∙◌, ◌++◌, List, ap, subst}
use Rattle.std.specs.Prelude.{OnOk}
use Rattle.mol_spell_names.proofs.uses_lemmas.MembersUsed.{cell-uses}
use Rattle.mol_spell_names.proofs.uses.file_cells.FileCells.add_cell.Goals as goal
use Rattle.mol_spell_rules.specs.Writers.{Use}
use Rattle.mol_table_rules.specs.Program.{Program, cell, value_at}

pub returns-in-Ok : goal.returns-in-Ok
returns-in-Ok c =
    let file = c.args.self.now in
    let value = c.get-value.ensures ∙ ap (λ (program : Program). value_at program c.args.id.now c.args.slot) c.table.ensures in
    subst (λ (uses : List Use). OnOk c.add_value.result (c.add_value.new.uses ≡ c.args.uses.now ++ uses))
    (cell-uses file.index.now file.class (cell c.args.id.now c.args.slot) _ _ (c.in-Ok.ensures c.args.slot) value) c.add_value.ensures
