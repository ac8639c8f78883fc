use Rattle.std.proofs.Common.{◌≡◌, ◌∙◌, ◌++◌, ◌∷◌, [], sym, ap, subst, take, Some, cond, option_copied}
use Rattle.std.proofs.lemmas.List.{take_all}
use Rattle.std.specs.FinMap.{get, get-empty, get-insert, insert}
use Rattle.indexmap.specs.IndexMap.{keys}
use Rattle.mol_values_types.specs.Order.{cell_cmp}
use Rattle.mol_table_rules.proofs.CellOrder.{cell_cmp-total, cell_cmp-IsAntisymmetric}
use Rattle.mol_table.specs.Maps.{cells_of}
use Rattle.std.specs.Ordering.{eq_by_cmp}
use Rattle.mol_table.proofs.Copying.{HasAt, take-item, has-more, has-same, has-all}
use Rattle.mol_values_types.proofs.Lookups.{inserted, get_is}
use Rattle.mol_values_types.proofs.Ties.{cell_eq, cell_ties}
use Rattle.mol_table.proofs.maps.copy.copy_cells.Goals.{in-Some+in_ok-copy-2+in_ok-insert, in_default}
use Rattle.mol_table.proofs.maps.copy.copy_cells.Goals as goal

pub loop-cell-init : goal.loop-cell-init
loop-cell-init c = λ q. ap (λ es. get (cells_of es) q) c.in_ok-copy.ensures.empty ∙ get-empty cell_cmp q

pub loop-cell-preserved : goal.loop-cell-preserved
loop-cell-preserved c =
    let items = c.as_slice-cell-items.result.now in
    let k = c.cell-item.result in
    let i = c.loop-cell.cell-index in
    let full = cells_of c.args.cells.now.entries in
    let old = cells_of c.loop-cell.copy.entries in
    let new = cells_of c.match-get.copy.entries in
    let found : option_copied c.get.result ≡ get full k = c.get.ensures.value ∙ get_is cell_cmp cell_eq cell_ties cell_cmp-total k c.args.cells.now.entries in
    let more : HasAt full new (take i items ++ k ∷ []) = elim c.match-get.branch [
      | in-Some+in_ok-copy-2+in_ok-insert w ↦
          let is : get full k ≡ Some w.in-Some.value.now = sym found ∙ ap option_copied w.in-Some.is in
          let e : new ≡ insert old k w.in_ok-copy-2.field-0 = ap (λ map. cells_of map.entries) w.copy-is
          ∙ inserted cell_cmp cell_eq cell_ties cell_cmp-total cell_cmp-IsAntisymmetric k w.in_ok-copy-2.field-0 c.loop-cell.copy.entries w.insert.new.self.entries w.in_ok-insert.ensures.updates.0 in
          has-more cell_cmp-total cell_cmp-IsAntisymmetric full old (take i items) k (Some w.in-Some.value.now) is new
          (λ q. ap (λ map. get map q) e ∙ get-insert cell_cmp-total old k w.in_ok-copy-2.field-0 q ∙ ap (λ v. cond (eq_by_cmp cell_cmp q k) (Some v) (get old q)) w.in_ok-copy-2.ensures) c.loop-cell.invariant
      | in_default w ↦
          subst (λ map. HasAt full map (take i items ++ k ∷ [])) (sym (ap (λ map. cells_of map.entries) w.copy-is))
          (has-same cell_cmp-total cell_cmp-IsAntisymmetric full old (take i items) k (sym found ∙ ap option_copied w.in_default.is) c.loop-cell.invariant)
    ] in
    subst (λ ks. HasAt full new ks) (sym (take-item items i k c.loop-cell-test.true c.cell-item.is)) more

pub returns : goal.returns
returns c =
    let all : take c.loop-cell.cell-index c.as_slice-cell-items.result.now ≡ keys c.args.cells.now =
    take_all c.loop-cell.cell-index c.as_slice-cell-items.result.now c.loop-cell-test.false ∙ c.as_slice-cell-items.ensures ∙ c.keys.ensures.rest in
    has-all cell_cmp-total cell_cmp-IsAntisymmetric c.args.cells.now.entries (cells_of c.loop-cell.copy.entries)
    (subst (λ ks. HasAt (cells_of c.args.cells.now.entries) (cells_of c.loop-cell.copy.entries) ks) all c.loop-cell.invariant)
