use Rattle.std.proofs.Common.{◌∙◌, ◌++◌, ◌∷◌, [], sym, ap, subst}
use Rattle.std.specs.List.{flat_map}
use Rattle.mol_faults_support.specs.Cells.{cells_of}
use Rattle.mol_faults_support.specs.Declarations.{DeclaresAny}
use Rattle.mol_faults_support.specs.Ways.{AreAbove}
use Rattle.mol_faults_support.proofs.ByFault.{apart-rests}
use Rattle.mol_faults_support.proofs.methods.apart.Goals as goal
use Rattle.mol_table_rules.specs.Program.{Program}
use Rattle.mol_values_types.specs.declared.cell.Slot.TheVariants as slots

pub returns : goal.returns
returns c =
    let program = c.args.index.now in
    let method = c.args.method.now in
    let declarations = c.as_slice-declarations.result.now in
    let classes = c.as_slice-classes.result.now in
    apart-rests program method declarations
    (subst (DeclaresAny program (method ∷ [])) (sym c.as_slice-declarations.ensures.value) c.in_ok-found.ensures) classes
    (subst (AreAbove program declarations) (sym c.as_slice-classes.ensures.keys)
    (subst (λ (p : Program). AreAbove p declarations c.in_ok-met.met.keys) c.table.ensures c.in_ok-met.ensures)) _
    (c.in_ok-add_supers.ensures ∙ ap (λ cs. cs ++ flat_map (cells_of (slots.Super ∷ [])) classes)
    (c.in_ok-add_each.ensures ∙ ap (λ cs. cs ++ flat_map (cells_of (slots.Live ∷ slots.Owner ∷ slots.Method ∷ [])) declarations)
    c.new-cells.ensures.items))
