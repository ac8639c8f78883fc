use Rattle.std.proofs.Common.{◌∙◌, ◌++◌, ◌∷◌, [], sym, ap, subst}
use Rattle.std.specs.List.{flat_map}
use Rattle.mol_faults_support.specs.Cells.{address_of, cells_of}
use Rattle.mol_faults_support.specs.Ways.{AreBetweenOwners}
use Rattle.mol_faults_support.proofs.ByFault.{over-rests}
use Rattle.mol_faults_support.proofs.pairs.false_override.Goals as goal
use Rattle.mol_values_types.specs.declared.cell.Slot.TheVariants as slots

pub returns : goal.returns
returns c =
    let program = c.args.table.now in
    let first = c.args.first.now in
    let second = c.args.second.now in
    let classes = c.as_slice-classes.result.now in
    over-rests program first second classes
    (subst (AreBetweenOwners program first second) (sym c.as_slice-classes.ensures.value) c.in_ok-between.ensures) _
    (c.in_ok-add_supers.ensures ∙ ap (λ cs. cs ++ flat_map (cells_of (slots.Super ∷ [])) classes)
    (c.in_ok-add_addresses.ensures ∙ ap (λ cs. cs ++ (address_of program first ++ address_of program second)) c.new-cells.ensures.items))
