use Rattle.std.proofs.Common.{◌∙◌, ◌++◌, ◌∷◌, [], sym, ap, subst}
use Rattle.std.specs.List.{flat_map}
use Rattle.mol_faults_support.specs.Cells.{cells_of, own_life}
use Rattle.mol_faults_support.specs.Declarations.{DeclaresAny}
use Rattle.mol_faults_support.proofs.CellsOf.{are-lives}
use Rattle.mol_faults_support.proofs.life.lives.Goals as goal
use Rattle.mol_values_types.specs.declared.cell.Slot.TheVariants as slots

pub returns : goal.returns
returns c =
    let program = c.args.index.now in
    let ids = c.args.ids.now in
    let declarations = c.as_slice-declarations.result.now in
    are-lives program ids declarations
    (subst (DeclaresAny program ids) (sym c.as_slice-declarations.ensures.value) c.in_ok-found.ensures) _
    (c.in_ok-add_lives.ensures ∙ ap (λ cs. cs ++ flat_map (cells_of (slots.Live ∷ [])) declarations)
    (c.in_ok-add_own_lives.ensures ∙ (λ k. c.new-cells.ensures.items k ++ flat_map (own_life (c.table.ensures k)) ids)))
