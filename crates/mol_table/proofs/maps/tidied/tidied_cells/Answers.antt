use Rattle.std.proofs.Common.{◌≡◌, ◌∙◌, ◌++◌, ◌∷◌, [], sym, ap, subst, take, map, Some, cond, option_copied, option_map}
use Rattle.std.proofs.lemmas.List.{take_all}
use Rattle.std.specs.FinMap.{get, get-empty, get-insert, insert, entries, from_entries}
use Rattle.indexmap.specs.IndexMap.{keys}
use Rattle.mol_values_types.specs.Order.{cell_cmp}
use Rattle.mol_table_rules.proofs.CellOrder.{cell_cmp-total, cell_cmp-IsAntisymmetric}
use Rattle.mol_table.specs.Maps.{cells_of}
use Rattle.mol_table_rules.specs.Program.{Cells}
use Rattle.mol_table.specs.Tidying.{value_by, entry_by}
use Rattle.std.specs.Ordering.{eq_by_cmp}
use Rattle.mol_table.proofs.Copying.{HasAt, take-item, has-more, has-same, has-mapped}
use Rattle.mol_values_types.proofs.Lookups.{inserted, get_is}
use Rattle.mol_values_types.proofs.Ties.{cell_eq, cell_ties}
use Rattle.mol_table_rules.proofs.TidyRules.{get-mapped}
use Rattle.mol_table.proofs.maps.tidied.tidied_cells.Goals.{in-Some+in_ok-tidy_value+in_ok-insert, in_default}
use Rattle.mol_table.proofs.maps.tidied.tidied_cells.Goals as goal

pub loop-cell-init : goal.loop-cell-init
loop-cell-init c = λ q. ap (λ es. get (cells_of es) q) c.in_ok-tidied.ensures.empty ∙ get-empty cell_cmp q

pub loop-cell-preserved : goal.loop-cell-preserved
loop-cell-preserved c =
    let items = c.as_slice-cell-items.result.now in
    let k = c.cell-item.result in
    let i = c.loop-cell.cell-index in
    let tidied = value_by c.args.maps.now c.args.index.now.entries in
    let source = cells_of c.args.maps.now.cells.entries in
    let full : Cells = from_entries (map (entry_by c.args.maps.now c.args.index.now.entries) (entries source)) in
    let old = cells_of c.loop-cell.tidied.entries in
    let new = cells_of c.match-get.tidied.entries in
    let found : option_copied c.get.result ≡ get source k = c.get.ensures.value ∙ get_is cell_cmp cell_eq cell_ties cell_cmp-total k c.args.maps.now.cells.entries in
    let mapped : get full k ≡ option_map tidied (get source k) = get-mapped cell_cmp-total tidied source k in
    let more : HasAt full new (take i items ++ k ∷ []) = elim c.match-get.branch [
      | in-Some+in_ok-tidy_value+in_ok-insert w ↦
          let is : get full k ≡ Some (tidied w.in-Some.value.now) = mapped ∙ ap (option_map tidied) (sym found ∙ ap option_copied w.in-Some.is) in
          let e : new ≡ insert old k w.in_ok-tidy_value.field-0 = ap (λ map. cells_of map.entries) w.tidied-is
          ∙ inserted cell_cmp cell_eq cell_ties cell_cmp-total cell_cmp-IsAntisymmetric k w.in_ok-tidy_value.field-0 c.loop-cell.tidied.entries w.insert.new.self.entries w.in_ok-insert.ensures.updates.0 in
          has-more cell_cmp-total cell_cmp-IsAntisymmetric full old (take i items) k (Some (tidied w.in-Some.value.now)) is new
          (λ q. ap (λ map. get map q) e ∙ get-insert cell_cmp-total old k w.in_ok-tidy_value.field-0 q ∙ ap (λ v. cond (eq_by_cmp cell_cmp q k) (Some v) (get old q)) w.in_ok-tidy_value.ensures) c.loop-cell.invariant
      | in_default w ↦
          subst (λ map. HasAt full map (take i items ++ k ∷ [])) (sym (ap (λ map. cells_of map.entries) w.tidied-is))
          (has-same cell_cmp-total cell_cmp-IsAntisymmetric full old (take i items) k (mapped ∙ ap (option_map tidied) (sym found ∙ ap option_copied w.in_default.is)) c.loop-cell.invariant)
    ] in
    subst (λ ks. HasAt full new ks) (sym (take-item items i k c.loop-cell-test.true c.cell-item.is)) more

pub returns : goal.returns
returns c =
    let source = cells_of c.args.maps.now.cells.entries in
    let full : Cells = from_entries (map (entry_by c.args.maps.now c.args.index.now.entries) (entries source)) in
    let tidied = value_by c.args.maps.now c.args.index.now.entries in
    let all : take c.loop-cell.cell-index c.as_slice-cell-items.result.now ≡ keys c.args.maps.now.cells =
    take_all c.loop-cell.cell-index c.as_slice-cell-items.result.now c.loop-cell-test.false ∙ c.as_slice-cell-items.ensures ∙ c.keys.ensures.rest in
    has-mapped cell_cmp-total cell_cmp-IsAntisymmetric tidied c.args.maps.now.cells.entries full (get-mapped cell_cmp-total tidied source) (cells_of c.loop-cell.tidied.entries)
    (subst (λ ks. HasAt full (cells_of c.loop-cell.tidied.entries) ks) all c.loop-cell.invariant)
