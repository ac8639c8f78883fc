use Rattle.std.proofs.Common.{◌∙◌, ◌++◌, ap}
use Rattle.mol_spell_names.proofs.uses.uses_of_file.uses_by.Goals as goal
use Rattle.mol_spell_names.specs.uses.CellUses.{members_uses}
use Rattle.mol_spell_rules.specs.SimpleNames.{uses_at}
use Rattle.mol_spell_rules.specs.UnitCells.{members_of}
use Rattle.mol_table_rules.specs.Program.{Program, cell}
use Rattle.mol_values_types.specs.declared.cell.Slot.TheVariants as slots

pub returns : goal.returns
returns c =
    let program : Program = c.args.index.now in
    let class = c.args.class.now in
    c.in_ok-add_members.ensures
    ∙ (λ i. (c.in_ok-add_cell.ensures
    ∙ ap (λ us. us ++ uses_at program class (cell class slots.Super)) c.new-uses.ensures) i
    ++ members_uses program class ((c.members_of.ensures ∙ ap (λ (program : Program). members_of program class) c.requires) i))
