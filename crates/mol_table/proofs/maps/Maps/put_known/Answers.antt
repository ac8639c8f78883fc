use Rattle.std.proofs.Common.{◌∙◌, sym, subst}
use mathlib.Core.Logic.{inl, inr}
use Rattle.mol_base.specs.Order.{id_cmp, id_cmp-total, id_cmp-IsAntisymmetric}
use Rattle.mol_table.specs.Maps.{StartsWith}
use Rattle.mol_values_types.specs.Order.{id_eq}
use Rattle.mol_table.proofs.Identities.{starts-insert, count-insert, count-again}
use Rattle.mol_values_types.proofs.Lookups.{inserted, get_is, not_absent, must_be_ok}
use Rattle.mol_values_types.proofs.Ties.{id_ties}
use Rattle.mol_table.proofs.maps.Maps.put_known.Goals as goal

pub unwrap-requires : goal.unwrap-requires
unwrap-requires c =
    elim c.requires [
      | inl room ↦ c.insert.ensures.succeeds room
      | inr there ↦ must_be_ok _ _ c.insert.ensures.absent (λ absent.
          not_absent _ there (sym (get_is id_cmp id_eq id_ties id_cmp-total c.args.id c.args.self.now.known.entries) ∙ absent))
    ]

pub returns-clause-known : goal.returns-clause-known
returns-clause-known c =
    let updates = rw c.unwrap.ensures at c.insert.ensures.updates in
    inserted id_cmp id_eq id_ties id_cmp-total id_cmp-IsAntisymmetric c.args.id c.args.what c.args.self.now.known.entries c.insert.new.self.entries updates.0

pub returns-clause-starts : goal.returns-clause-starts
returns-clause-starts c ids starts =
    let entries = rw c.unwrap.ensures at c.insert.ensures.entries in
    subst (StartsWith ids) (sym entries) (starts-insert ids c.args.self.now.known.entries c.args.id c.args.what starts)

pub returns-clause-count : goal.returns-clause-count
returns-clause-count c =
    let entries = rw c.unwrap.ensures at c.insert.ensures.entries in
    count-insert c.args.self.now.known.entries c.insert.new.self.entries c.args.id c.args.what entries

pub returns-clause-again : goal.returns-clause-again
returns-clause-again c there =
    let entries = rw c.unwrap.ensures at c.insert.ensures.entries in
    count-again c.args.self.now.known.entries c.insert.new.self.entries c.args.id c.args.what entries
    (λ absent. not_absent _ there (sym (get_is id_cmp id_eq id_ties id_cmp-total c.args.id c.args.self.now.known.entries) ∙ absent))
