use Rattle.std.proofs.Common.{◌∙◌, sym}
use mathlib.Core.Logic.{inl, inr}
use Rattle.mol_base.specs.Order.{id_cmp, id_cmp-total, id_cmp-IsAntisymmetric}
use Rattle.mol_values_types.specs.Order.{id_eq}
use Rattle.mol_values_types.proofs.Lookups.{inserted, get_is, not_absent, must_be_ok}
use Rattle.mol_values_types.proofs.Ties.{id_ties}
use Rattle.mol_table.proofs.maps.Maps.put_number.Goals as goal

pub unwrap-requires : goal.unwrap-requires
unwrap-requires c =
    elim c.requires [
      | inl room ↦ c.insert.ensures.succeeds room
      | inr there ↦ must_be_ok _ _ c.insert.ensures.absent (λ absent.
          not_absent _ there (sym (get_is id_cmp id_eq id_ties id_cmp-total c.args.method c.args.self.now.living.entries) ∙ absent))
    ]

pub returns-clause-counts : goal.returns-clause-counts
returns-clause-counts c =
    let updates = rw c.unwrap.ensures at c.insert.ensures.updates in
    inserted id_cmp id_eq id_ties id_cmp-total id_cmp-IsAntisymmetric c.args.method c.args.number c.args.self.now.living.entries c.insert.new.self.entries updates.0
