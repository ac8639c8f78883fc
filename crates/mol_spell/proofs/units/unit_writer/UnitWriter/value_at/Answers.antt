use Rattle.mol_spell_rules.specs.Writers.{Writer}
use Rattle.mol_spell.proofs.units_lemmas.MadeOf.{moved}
use Rattle.mol_spell.proofs.units.unit_writer.UnitWriter.value_at.Goals as goal
use Rattle.mol_spell.specs.units.MemberTrees.{field_value}
use Rattle.mol_values_types.specs.declared.cell.Slot.TheVariants as slots

pub returns : goal.returns
returns g c =
    moved c.value_tree.result (λ (writer : Writer). field_value writer c.args.ty.now c.args.init.now) _ _
    (c.in_ok-names.ensures slots.Value) c.value_tree.ensures
