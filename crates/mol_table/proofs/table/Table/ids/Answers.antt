use Rattle.std.proofs.Common.{◌≡◌, ◌∙◌, sym, subst}
use Rattle.std.specs.List.{IsDistinct}
use Rattle.indexmap.specs.IndexMap.{keys}
use Rattle.mol_table_rules.specs.Identities.{IsAscending, AreKnown}
use Rattle.mol_table_rules.proofs.Programs.{ascending, contains-known}
use Rattle.mol_values_types.proofs.Ties.{id_ties}
use Rattle.mol_table.proofs.table.Table.ids.Goals as goal

pub returns-clause-ascending : goal.returns-clause-ascending
returns-clause-ascending c =
    let e : c.as_slice.result.now ≡ keys c.self.inside.maps.known = c.as_slice.ensures ∙ c.keys.ensures.rest in
    subst IsAscending (sym e) (ascending _ c.self.invariant.ordered (subst (λ eq. IsDistinct eq (keys c.self.inside.maps.known)) (λ i x y. id_ties x y i) c.keys.ensures.unique))

pub returns-clause-known : goal.returns-clause-known
returns-clause-known c =
    let e : c.as_slice.result.now ≡ keys c.self.inside.maps.known = c.as_slice.ensures ∙ c.keys.ensures.rest in
    subst (λ ids. AreKnown c.args.self.now ids) (sym e) (subst (λ p. AreKnown p (keys c.self.inside.maps.known)) c.self.view_is (contains-known c.self.inside.maps.known.entries))
