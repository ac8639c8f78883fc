use Rattle.std.proofs.Common.{◌∙◌, ◌++◌, ◌∷◌, [], ap}
use Rattle.std.specs.List.{flat_map}
use Rattle.mol_faults_support.specs.Cells.{cells_of}
use Rattle.mol_faults_support.proofs.ByFault.{package-rests}
use Rattle.mol_faults_support.proofs.pairs.package_is_class.Goals as goal
use Rattle.mol_values_types.specs.declared.cell.Slot.TheVariants as slots

pub returns : goal.returns
returns c = λ program.
    package-rests program c.args.class.now c.args.inside.now _ (c.in_ok-add_each.ensures
    ∙ ap (λ cs. cs ++ flat_map (cells_of (slots.Live ∷ slots.Package ∷ slots.Name ∷ [])) (c.args.class.now ∷ c.args.inside.now ∷ []))
    c.new-cells.ensures.items)
