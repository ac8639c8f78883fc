use Rattle.std.proofs.Common.{◌∙◌, List, map, ap}
use Rattle.mol_spell_rules.specs.SimpleNames.{unit_writer}
use Rattle.mol_spell_rules.specs.Writers.{Writer}
use Rattle.mol_table_rules.specs.Program.{Program, cell, params_at}
use Rattle.mol_spell.proofs.units_lemmas.MadeOf.{moved}
use Rattle.mol_spell.proofs.units.unit_writer.UnitWriter.params_of.Goals as goal
use Rattle.mol_spell.specs.units.MemberTrees.{param_tree}
use Rattle.mol_values_types.specs.declared.cell.Slot.TheVariants as slots
use Rattle.mol_values_types.specs.declared.param.Param.{Param}

pub returns : goal.returns
returns g c =
    let unit = c.args.self.now in
    let writer = unit_writer unit.index.now unit.class (cell c.args.method.now slots.Params) in
    let params = c.params_of.ensures ∙ ap (λ (program : Program). params_at program c.args.method.now) c.table.ensures in
    moved c.param_trees.result (λ (params : List Param). map (param_tree writer) params) _ _ params
    (moved c.param_trees.result (λ (writer : Writer). map (param_tree writer) c.params_of.result.now) _ _
    (c.in_ok-names.ensures slots.Params) c.param_trees.ensures)
