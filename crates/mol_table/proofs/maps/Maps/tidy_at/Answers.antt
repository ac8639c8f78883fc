use Rattle.std.proofs.Common.{◌≡◌, ◌∙◌, sym, ap, List, None, Some, slice_get, option_map}
use Rattle.std.specs.Map.Iter.{deref_pair}
use Rattle.mol_table.proofs.TidiedInPlace.{inserted-changed, none-changed}
use Rattle.mol_table.proofs.maps.Maps.tidy_at.Goals as goal
use Rattle.mol_table.specs.Tidying.{value_by}
use Rattle.mol_values_types.specs.declared.cell.Cell.{Cell}
use Rattle.mol_values_types.specs.declared.value.Value.{Value}

pub returns-in_default-clause-cells : goal.returns-in_default-clause-cells
returns-in_default-clause-cells c =
    let es = c.args.self.now.cells.entries in
    let none : slice_get es c.args.place ≡ None = ap (λ (list : List (Cell × Value)). slice_get list c.args.place) (sym c.as_slice-entries.ensures.entries)
    ∙ sym c.get_index.ensures.entry ∙ ap (option_map deref_pair) c.in_default.is in
    sym (none-changed (value_by c.args.self.now c.args.index.now.entries) c.args.place es none)

pub returns-clause-cells : goal.returns-clause-cells
returns-clause-cells c =
    let es = c.args.self.now.cells.entries in
    let at : slice_get es c.args.place ≡ Some (c.in-Some.at.now, c.in-Some.value.now) =
    ap (λ (list : List (Cell × Value)). slice_get list c.args.place) (sym c.as_slice-entries.ensures.entries)
    ∙ sym c.get_index.ensures.entry ∙ ap (option_map deref_pair) c.in-Some.is in
    c.in_ok-insert.ensures.entries
    ∙ inserted-changed (value_by c.args.self.now c.args.index.now.entries) es c.args.place c.in-Some.at.now c.in-Some.value.now
    c.in_ok-tidied.tidied c.as_slice-entries.ensures.unique at c.in_ok-tidied.ensures
