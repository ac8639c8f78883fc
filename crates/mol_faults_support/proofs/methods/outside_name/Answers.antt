use Rattle.std.proofs.Common.{◌∙◌, ◌++◌, ◌∷◌, [], sym, ap, subst}
use Rattle.std.specs.List.{flat_map}
use Rattle.mol_faults_support.specs.Cells.{cells_of}
use Rattle.mol_faults_support.specs.Declarations.{DeclaresAny}
use Rattle.mol_faults_support.proofs.ByFault.{outside-rests}
use Rattle.mol_faults_support.proofs.methods.outside_name.Goals as goal
use Rattle.mol_values_types.specs.declared.cell.Slot.TheVariants as slots

pub returns : goal.returns
returns c =
    let program = c.args.index.now in
    let method = c.args.method.now in
    let declarations = c.as_slice-declarations.result.now in
    outside-rests program method declarations
    (subst (DeclaresAny program (method ∷ [])) (sym c.as_slice-declarations.ensures.value) c.in_ok-found.ensures) _
    (c.in_ok-add_each.ensures ∙ ap (λ cs. cs ++ flat_map (cells_of (slots.Live ∷ slots.Method ∷ [])) declarations)
    (c.in_ok-add_slots.ensures ∙ ap (λ cs. cs ++ cells_of (slots.Name ∷ slots.Params ∷ slots.Fixed ∷ []) method) c.new-cells.ensures.items))
