use Rattle.std.proofs.Common.{◌∙◌, Option, Some, sym, ap}
use Rattle.jav_tree.specs.declared.stmt.Block.{Block}
use Rattle.mol_spell_rules.specs.SpelledUnits.{body_in}
use Rattle.mol_spell.proofs.units.unit_writer.UnitWriter.body_of.Goals as goal
use Rattle.mol_values_types.specs.declared.cell.Slot.TheVariants as slots
use Rattle.mol_values_types.specs.declared.iblock.IBody.{IBody}
use Rattle.mol_values_types.specs.declared.value.Value.{Value}
use Rattle.mol_values_types.specs.declared.value.Value.TheVariants as values

pub returns-in_ok-block-in-Some-Body-Some : goal.returns-in_ok-block-in-Some-Body-Some
returns-in_ok-block-in-Some-Body-Some g c =
    let unit = c.args.self.now in
    ap (λ (tree : Block). Some tree) (c.in_ok-block-in-Some-Body-Some.ensures slots.Body)
    ∙ ap (body_in unit.index.now unit.class c.args.id.now)
    (ap (λ (body : Option IBody). Some (values.Body body)) (sym c.in-Some-Body-Some.field-0-0-is)
    ∙ ap (λ (value : Value). Some value) (sym c.in-Some-Body-Some.field-0-is) ∙ c.in-Some-Body-Some.ensures)
