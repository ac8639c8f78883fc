use Rattle.std.proofs.Common.{◌≡◌, ◌∙◌, ◌++◌, ◌∷◌, [], sym, ap, subst, take, option_copied}
use Rattle.std.proofs.lemmas.List.{take_all}
use Rattle.std.specs.FinMap.{get, get-empty, get-insert, insert}
use Rattle.indexmap.specs.IndexMap.{keys}
use Rattle.mol_base.specs.Order.{id_cmp, id_cmp-total}
use Rattle.std.proofs.Common.{is_some}
use Rattle.std.specs.FinMap.{get-from_entries}
use Rattle.std.specs.FinMap.Entries.{is_some-find}
use Rattle.mol_table.specs.Maps.{cells_of, program_in}
use Rattle.mol_values_types.specs.Order.{id_eq, cell_cmp}
use Rattle.mol_table_rules.proofs.CellOrder.{cell_cmp-total, cell_cmp-IsAntisymmetric}
use Rattle.mol_table_rules.specs.Program.{cell}
use Rattle.mol_values.specs.Renaming.{names_of}
use Rattle.mol_table.proofs.Copying.{take-item}
use Rattle.mol_values_types.proofs.Lookups.{inserted, get_is}
use Rattle.mol_table_numbers.proofs.Renumbering.{CellsTaken, cell-more, cell-dead, cell-absent, cells-none, cells-all}
use Rattle.mol_values_types.proofs.Ties.{cell_eq, cell_ties, id_ties}
use Rattle.mol_table_numbers.proofs.renumbered.renamed_cells.Goals.{in-Some+in-Some-get+in_ok-rename_value+in_ok-insert, in-Some+in_default-get, in_default}
use Rattle.mol_table_numbers.proofs.renumbered.renamed_cells.Goals as goal

pub loop-cell-init : goal.loop-cell-init
loop-cell-init c =
    cells-none (program_in c.args.maps.now) c.args.names.now.entries c.requires (cells_of c.new-cells.result.entries)
    (λ q. ap (λ es. get (cells_of es) q) c.new-cells.ensures.empty ∙ get-empty cell_cmp q)

pub loop-cell-preserved : goal.loop-cell-preserved
loop-cell-preserved c =
    let maps = c.args.maps.now in
    let program = program_in maps in
    let names = c.args.names.now.entries in
    let has = c.requires in
    let items = c.as_slice-cell-items.result.now in
    let i = c.loop-cell.cell-index in
    let x = c.cell-item.result in
    let was = cells_of c.loop-cell.cells.entries in
    let new = cells_of c.match-get.cells.entries in
    let named : option_copied c.get.result ≡ get (names_of names) x.id = c.get.ensures.value ∙ get_is id_cmp id_eq id_ties id_cmp-total x.id names in
    let more : CellsTaken program new (take i items ++ x ∷ []) = elim c.match-get.branch [
      | in-Some+in-Some-get+in_ok-rename_value+in_ok-insert w ↦
          let name = w.in-Some.name.now in
          let v = w.in-Some-get.value.now in
          let changed = w.in_ok-rename_value.field-0 in
          let found : option_copied w.get-in-Some.result ≡ get program.cells x = w.get-in-Some.ensures.value ∙ get_is cell_cmp cell_eq cell_ties cell_cmp-total x maps.cells.entries in
          let e : new ≡ insert was (cell name x.slot) changed = ap (λ map. cells_of map.entries) w.cells-is
          ∙ inserted cell_cmp cell_eq cell_ties cell_cmp-total cell_cmp-IsAntisymmetric (cell name x.slot) changed c.loop-cell.cells.entries w.insert.new.self.entries w.in_ok-insert.ensures.updates.0 in
          cell-more program names has was new (take i items) x name v changed (sym named ∙ ap option_copied w.in-Some.is) (sym found ∙ ap option_copied w.in-Some-get.is) w.in_ok-rename_value.ensures
          (λ q. ap (λ map. get map q) e ∙ get-insert cell_cmp-total was (cell name x.slot) changed q) c.loop-cell.invariant
      | in-Some+in_default-get w ↦
          let found : option_copied w.get-in-Some.result ≡ get program.cells x = w.get-in-Some.ensures.value ∙ get_is cell_cmp cell_eq cell_ties cell_cmp-total x maps.cells.entries in
          subst (λ map. CellsTaken program map (take i items ++ x ∷ [])) (sym (ap (λ map. cells_of map.entries) w.cells-is))
          (cell-absent program names has was (take i items) x (sym found ∙ ap option_copied w.in_default-get.is) c.loop-cell.invariant)
      | in_default w ↦
          subst (λ map. CellsTaken program map (take i items ++ x ∷ [])) (sym (ap (λ map. cells_of map.entries) w.cells-is))
          (cell-dead program names has was (take i items) x (sym named ∙ ap option_copied w.in_default.is) c.loop-cell.invariant)
    ] in
    subst (λ ks. CellsTaken program new ks) (sym (take-item items i x c.loop-cell-test.true c.cell-item.is)) more

pub returns : goal.returns
returns c =
    let maps = c.args.maps.now in
    let program = program_in maps in
    let all : take c.loop-cell.cell-index c.as_slice-cell-items.result.now ≡ keys maps.cells =
    take_all c.loop-cell.cell-index c.as_slice-cell-items.result.now c.loop-cell-test.false ∙ c.as_slice-cell-items.ensures ∙ c.keys.ensures.rest in
    cells-all program c.args.names.now.entries c.requires (cells_of c.loop-cell.cells.entries) (keys maps.cells)
    (λ q there. sym (ap is_some (get-from_entries {R = cell_cmp} cell_cmp-total maps.cells.entries q) ∙ is_some-find cell_cmp q maps.cells.entries) ∙ there)
    (subst (λ ks. CellsTaken program (cells_of c.loop-cell.cells.entries) ks) all c.loop-cell.invariant)
