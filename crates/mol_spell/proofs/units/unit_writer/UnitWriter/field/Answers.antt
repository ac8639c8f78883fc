use Rattle.std.proofs.Common.{◌∙◌, Some, sym, ap}
use Rattle.jav_tree.specs.declared.unit.Field.{Field}
use Rattle.jav_tree.specs.declared.unit.Member.TheVariants as member
use Rattle.mol_spell_rules.specs.SpelledUnits.{field_member}
use Rattle.mol_spell.proofs.units.unit_writer.UnitWriter.field.Goals as goal
use Rattle.mol_values_types.specs.declared.value.Value.{Value}
use Rattle.mol_values_types.specs.declared.value.Value.TheVariants as values

pub returns-in_ok-field-in-Some-Value : goal.returns-in_ok-field-in-Some-Value
returns-in_ok-field-in-Some-Value g c =
    let unit = c.args.self.now in
    ap (λ (field : Field). Some (member.Field field)) c.in_ok-field-in-Some-Value.ensures
    ∙ ap (field_member unit.index.now unit.class c.args.id.now)
    (ap (λ (value : Value). Some value) (ap (values.Value c.in-Some-Value.ty) c.get.ensures ∙ sym c.in-Some-Value.field-0-is)
    ∙ c.in-Some-Value.ensures)
