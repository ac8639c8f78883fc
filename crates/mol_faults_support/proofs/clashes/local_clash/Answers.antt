use Rattle.std.proofs.Common.{◌∙◌, ◌++◌, ◌∷◌, [], ap}
use Rattle.std.specs.FinMap.{get}
use Rattle.mol_faults_support.specs.Cells.{cells_of, declared_params}
use Rattle.mol_faults_support.proofs.ByFault.{clash-rests}
use Rattle.mol_faults_support.proofs.clashes.local_clash.Goals as goal
use Rattle.mol_values_types.specs.declared.cell.Slot.TheVariants as slots

pub returns : goal.returns
returns c = λ name.
    let program = c.args.table.now in
    let body = c.args.at.now in
    clash-rests program body name _
    (c.in_ok-add_declared_params.ensures ∙ ap (λ cs. cs ++ declared_params (get program.known body.id))
    (c.in_ok-add_slots.ensures ∙ ap (λ cs. cs ++ cells_of (slots.Live ∷ slots.Method ∷ []) body.id)
    (c.in_ok-add_cell.ensures ∙ ap (λ cs. cs ++ body ∷ []) c.new-cells.ensures.items)))
