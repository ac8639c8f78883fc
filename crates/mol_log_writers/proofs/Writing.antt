-- Which cells a log writes, by an index of them.
use Rattle.std.proofs.Common.{◌≡◌, ◌∙◌, refl, sym, ap, List, ◌∷◌, Contains}
use Rattle.std.proofs.lemmas.Map.Views.{Contains-keys_from_lookup, IsSome-lookup_from_Contains}
use Rattle.std.specs.Cmp.{eq_by_cmp_equiv}
use Rattle.std.specs.Map.{keys_of, lookup}
use Rattle.std.specs.Ordering.{eq_by_cmp}
use Rattle.std.specs.Prelude.{◌↔◌, Option, IsSome, is_some}
use Rattle.mol_base.specs.declared.ident.Stamp.{Stamp}
use Rattle.mol_log_rules.proofs.WhoWrote.{writers-together}
use Rattle.mol_log_rules.specs.Histories.{History, last}
use Rattle.mol_log_rules.specs.Writers.{same_cell}
use Rattle.mol_log_writers.specs.LastWriters.{AreLastWriters}
use Rattle.mol_op.specs.ChangeLaws.{cell_is}
use Rattle.mol_table_rules.proofs.CellOrder.{cell_cmp-total}
use Rattle.mol_values_types.proofs.Lookups.{get_is}
use Rattle.mol_values_types.specs.Order.{cell_cmp}
use Rattle.mol_values_types.specs.declared.cell.Cell.{Cell}

module _ (history : History) (index : List (Cell × Stamp)) (are : AreLastWriters cell_cmp same_cell history index) where
  found-is : (at : Cell) → is_some (lookup (same_cell at) index) ≡ is_some (last history at)
  found-is at =
      ap is_some (get_is cell_cmp same_cell (λ x y. refl) cell_cmp-total at index ∙ are at) ∙ writers-together history at

  pub keys-written : (at : Cell) → Contains (keys_of index) at ↔ IsSome (last history at)
  keys-written at = (
    λ stands. sym (found-is at) ∙ IsSome-lookup_from_Contains (eq_by_cmp_equiv cell_cmp-total) at index stands,
    λ some. Contains-keys_from_lookup cell_is at index (found-is at ∙ some),
  )
