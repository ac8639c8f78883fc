use Rattle.std.proofs.Common.{◌∙◌, Option, Some, sym, ap}
use Rattle.jav_tree.specs.declared.types.TypeName.{TypeName}
use Rattle.mol_spell_rules.specs.SpelledUnits.{parent_tree}
use Rattle.mol_spell.proofs.units.unit_writer.UnitWriter.parent.Goals as goal
use Rattle.mol_values_types.specs.declared.cell.Slot.TheVariants as slots
use Rattle.mol_values_types.specs.declared.itype.IType.{IType}
use Rattle.mol_values_types.specs.declared.value.Value.{Value}
use Rattle.mol_values_types.specs.declared.value.Value.TheVariants as values

pub returns-in_ok-parent-in-Some-Super-Some : goal.returns-in_ok-parent-in-Some-Super-Some
returns-in_ok-parent-in-Some-Super-Some g c =
    let unit = c.args.self.now in
    ap (λ (tree : TypeName). Some tree) (c.in_ok-parent-in-Some-Super-Some.ensures slots.Super)
    ∙ ap (parent_tree unit.index.now unit.class)
    (ap (λ (parent : Option IType). Some (values.Super parent)) (sym c.in-Some-Super-Some.field-0-0-is)
    ∙ ap (λ (value : Value). Some value) (sym c.in-Some-Super-Some.field-0-is) ∙ c.in-Some-Super-Some.ensures)
