use Rattle.std.proofs.Common.{◌∙◌, sym}
use mathlib.Core.Logic.{inl, inr}
use Rattle.mol_values_types.specs.Order.{cell_cmp}
use Rattle.mol_table_rules.proofs.CellOrder.{cell_cmp-total, cell_cmp-IsAntisymmetric}
use Rattle.mol_values_types.proofs.Lookups.{inserted, get_is, not_absent, must_be_ok}
use Rattle.mol_values_types.proofs.Ties.{cell_eq, cell_ties}
use Rattle.mol_table.proofs.maps.Maps.put_value.Goals as goal

pub unwrap-requires : goal.unwrap-requires
unwrap-requires c =
    elim c.requires [
      | inl room ↦ c.insert.ensures.succeeds room
      | inr there ↦ must_be_ok _ _ c.insert.ensures.absent (λ absent.
          not_absent _ there (sym (get_is cell_cmp cell_eq cell_ties cell_cmp-total c.args.cell c.args.self.now.cells.entries) ∙ absent))
    ]

pub returns-clause-cells : goal.returns-clause-cells
returns-clause-cells c =
    let updates = rw c.unwrap.ensures at c.insert.ensures.updates in
    inserted cell_cmp cell_eq cell_ties cell_cmp-total cell_cmp-IsAntisymmetric c.args.cell c.args.value c.args.self.now.cells.entries c.insert.new.self.entries updates.0
