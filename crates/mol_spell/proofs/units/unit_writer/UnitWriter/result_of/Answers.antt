use Rattle.std.proofs.Common.{◌≡◌, ◌∙◌, Option, Some, sym, ap, subst}
use Rattle.std.specs.Prelude.{IfOk}
use Rattle.jav_tree.specs.declared.types.TypeName.{TypeName}
use Rattle.mol_spell_rules.specs.SimpleNames.{unit_writer}
use Rattle.mol_spell_rules.specs.SpelledUnits.{result_tree}
use Rattle.mol_table_rules.specs.Program.{cell}
use Rattle.mol_spell.proofs.units_lemmas.MadeOf.{chosen}
use Rattle.mol_spell.proofs.units.unit_writer.UnitWriter.result_of.Goals as goal
use Rattle.mol_spell.specs.units.MemberTrees.{type_tree}
use Rattle.mol_values_types.specs.declared.cell.Slot.{Slot}
use Rattle.mol_values_types.specs.declared.cell.Slot.TheVariants as slots
use Rattle.mol_values_types.specs.declared.value.Value.{Value}

pub returns-in-Some-Result : goal.returns-in-Some-Result
returns-in-Some-Result g c =
    let unit = c.args.self.now in
    let method = c.args.method.now in
    subst (λ (value : Option Value). IfOk c.type_at.result (λ (tree : TypeName). tree
    ≡ result_tree unit.index.now unit.class method value))
    (ap (λ (value : Value). Some value) (sym c.in-Some-Result.field-0-is) ∙ c.in-Some-Result.ensures)
    (chosen c.type_at.result (λ (slot : Slot). type_tree (unit_writer unit.index.now unit.class (cell method slot)) c.in-Some-Result.ty)
    slots.Result c.type_at.ensures)
