use Rattle.std.proofs.Common.{◌∙◌, ◌++◌, ◌∷◌, [], sym, ap, subst}
use Rattle.std.proofs.lemmas.Result.{on_ok_weaker}
use Rattle.std.specs.List.{flat_map, Contains}
use Rattle.std.specs.Prelude.{◌↔◌, List}
use Rattle.mol_base.specs.declared.ident.Id.{Id}
use Rattle.mol_spell_rules.specs.Support.{Calls}
use Rattle.mol_faults_support.specs.Calls.{AreConstructors}
use Rattle.mol_faults_support.specs.Cells.{cells_of}
use Rattle.mol_faults_support.proofs.OfValues.{adds-value}
use Rattle.mol_faults_support.proofs.missing.add_of_value.Goals as goal
use Rattle.mol_values_types.specs.declared.cell.Slot.TheVariants as slots

pub returns : goal.returns
returns c =
    let program = c.args.index.now in
    let value = c.args.value.now in
    let methods = c.as_slice-methods.result.now in
    let constructors = c.as_slice-constructors.result.now in
    on_ok_weaker c.add_lives.result
    (λ is. adds-value program value methods constructors
    (subst (λ (ids : List Id). (method : Id) → Contains ids method ↔ Calls value method) (sym c.as_slice-methods.ensures.value)
    c.in_ok-called.ensures)
    (subst (AreConstructors program value) (sym c.as_slice-constructors.ensures.value) c.in_ok-created.ensures)
    c.args.cells.now.items _
    (is ∙ ap (λ cs. cs ++ flat_map (cells_of (slots.Live ∷ [])) constructors) c.in_ok-add_params.ensures))
    c.add_lives.ensures
