-- Misread names by where they stand.
use Rattle.std.proofs.Common.{◌≡◌, ℕ, List, map, Contains, IsPermutation, Ordering, Less, Equal, Greater, refl, ◌∙◌, ap, subst}
use Rattle.std.specs.Cmp.{IsTotalOrder}
use Rattle.std.specs.FinMap.{IsAntisymmetric, nat_cmp-IsAntisymmetric}
use Rattle.std.specs.List.Sorted.{IsSorted}
use Rattle.std.specs.Ordering.{ordering_then}
use Rattle.std.specs.Prelude.{◌↔◌}
use Rattle.std.proofs.lemmas.Cmp.{on_total, then_total, nat_cmp_total}
use Rattle.std.proofs.lemmas.List.Sorted.{Contains-permutation, IsPermutation-sym}
use Rattle.jav_names.proofs.Lists.{stands-mapped}
use Rattle.jav_names.specs.Views.{IsKeyOrder}
use Rattle.mol_base.specs.Order.{id_cmp-total, id_cmp-IsAntisymmetric}
use Rattle.mol_faults.specs.Names.{Place, names_cmp, place, place_cmp, place_of, AreNames}
use Rattle.mol_faults_misread.specs.declared.misread_faults.names.MisreadName.{MisreadName}
use Rattle.mol_faults_misread.specs.misread_faults.Found.{Found, IsMisread, kept_name}
use Rattle.mol_resolve_rules.proofs.Stands.{from_map}
use Rattle.mol_table_rules.specs.Program.{Program}
use Rattle.mol_values_types.specs.declared.cell.Cell.{Cell}

then_both : (a b : Ordering) → ordering_then a b ≡ Equal → (a ≡ Equal) × (b ≡ Equal)
then_both Less b e = absurd cc
then_both Equal b e = (refl, e)
then_both Greater b e = absurd cc

place_cmp-total : IsTotalOrder place_cmp
place_cmp-total = then_total (on_total (λ (p : Place). p.entity) id_cmp-total) (on_total (λ (p : Place). p.number) nat_cmp_total)

place_cmp-IsAntisymmetric : IsAntisymmetric place_cmp
place_cmp-IsAntisymmetric x y e =
    let parts = then_both _ _ e in
    let entity = id_cmp-IsAntisymmetric x.entity y.entity parts.0 in
    let number = nat_cmp-IsAntisymmetric x.number y.number parts.1 in
    λ i. record { entity = entity i; number = number i }

pub place-order : IsKeyOrder place_cmp
place-order = record { total = place_cmp-total; same = place_cmp-IsAntisymmetric }

mapped-moved : (former latter : List MisreadName) → IsPermutation former latter → (found : Found) → Contains (map kept_name former) found
    → Contains (map kept_name latter) found
mapped-moved former latter same found stands =
    let kept = from_map kept_name former found stands in
    subst (Contains (map kept_name latter)) kept.2
    (stands-mapped kept_name latter kept.0 (Contains-permutation former latter kept.0 same kept.1))

-- all of a program, sorted
pub are-names : (program : Program) (names sorted : List MisreadName)
    → ((found : Found) → Contains (map kept_name names) found ↔ IsMisread program found) → IsPermutation names sorted
    → IsSorted names_cmp sorted → AreNames program sorted
are-names program names sorted are same up = record {
  sorted = up;
  each = λ found. (
    λ stands. (are found).0 (mapped-moved sorted names (IsPermutation-sym names sorted same) found stands),
    λ is. mapped-moved names sorted same found ((are found).1 is),
  );
}

-- Those at a place are misread, and they are all that are misread there.
pub record AreThere (program : Program) (at : Cell) (number : ℕ) (names : List Found) : Type 0 where
  pub misread : (found : Found) → Contains names found → IsMisread program found
  pub all : (found : Found) → IsMisread program found → found.at ≡ at → found.name.number ≡ number → Contains names found

pub are-there : (program : Program) (names run : List MisreadName) (at : Cell) (number : ℕ) → AreNames program names
    → ((name : MisreadName) → Contains run name ↔ (Contains names name × (place_of name ≡ place at number)))
    → AreThere program at number (map kept_name run)
are-there program names run at number are of-place = record {
  misread = λ found stands. let kept = from_map kept_name run found stands in
      (are.each found).0 (subst (Contains (map kept_name names)) kept.2
      (stands-mapped kept_name names kept.0 ((of-place kept.0).0 kept.1).0));
  all = λ found is same_at same_number. let kept = from_map kept_name names found ((are.each found).1 is) in
      let entity : kept.0.at.id ≡ at.id = ap (λ (f : Found). f.at.id) kept.2 ∙ ap (λ (c : Cell). c.id) same_at in
      let numbered : kept.0.misread.number ≡ number = ap (λ (f : Found). f.name.number) kept.2 ∙ same_number in
      subst (Contains (map kept_name run)) kept.2 (stands-mapped kept_name run kept.0
      ((of-place kept.0).1 (kept.1, λ i. record { entity = entity i; number = numbered i })));
}
