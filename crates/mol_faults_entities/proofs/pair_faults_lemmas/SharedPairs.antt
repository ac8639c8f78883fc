-- In rows that ascend by their addresses the pairs of neighbours are those of all rows of one address.
use Rattle.std.proofs.Common.{◌≡◌, ◌⊎◌, inl, inr, ℕ, ◌+◌, ◌<◌, List, [], ◌∷◌, ◌++◌, length, get_or, drop, append_assoc, Option, Some, Contains, take_while, sym, ◌∙◌, ap, Ordering, Less, Equal}
use Rattle.std.specs.Ordering.{is_eq}
use Rattle.std.proofs.lemmas.Cmp.{tied_itself}
use Rattle.std.proofs.lemmas.List.{drop_more}
use Rattle.jav_names.proofs.Lists.{stands_first, stands_later, stands_where, stands_nowhere}
use Rattle.mol_base.specs.Order.{id_cmp, id_cmp-total}
use Rattle.mol_faults_entities.specs.pair_faults.Addresses.{AddressKey, key_cmp, key_of, location_cmp}
use Rattle.mol_faults_entities.specs.pair_faults.Pairs.{ordered_pair}
use Rattle.mol_faults_entities.specs.pair_faults.Sharing.{shared_pairs, shared_with}
use Rattle.mol_faults_entities.specs.declared.pair_faults.addressed.Addressed.{Addressed}
use Rattle.mol_faults_entities.specs.declared.pair_faults.pair.Pair.{Pair}
use Rattle.mol_faults_entities.proofs.pair_faults_lemmas.Fronts.{Ascend, from-front, in-front}
use Rattle.mol_faults_entities.proofs.pair_faults_lemmas.Keys.{key-order}
use Rattle.mol_faults_entities.proofs.pair_faults_lemmas.PairsOrdered.{pair-is, pair-made, pair-made_back}
use Rattle.mol_resolve_rules.proofs.Stands.{in_front, behind, in_either, from_some, in_some}

abbrev pub key_at : Addressed → AddressKey
key_at row = key_of row.address

abbrev pub Rise : List Addressed → Type 0
Rise rows = Ascend key_cmp key_at key-order rows

-- two rows of one address with these identities, the smaller first
pub record Share (rows : List Addressed) (pair : Pair) : Type 0 where
  pub first_row : Addressed
  pub second_row : Addressed
  pub first_stands : Contains rows first_row
  pub second_stands : Contains rows second_row
  pub same : key_at first_row ≡ key_at second_row
  pub is_first : first_row.id ≡ pair.first
  pub is_second : second_row.id ≡ pair.second
  pub ordered : id_cmp pair.first pair.second ≡ Less

share-later : (row : Addressed) (rows : List Addressed) (pair : Pair) → Share rows pair → Share (row ∷ rows) pair
share-later row rows pair share = record {
  first_row = share.first_row;
  second_row = share.second_row;
  first_stands = stands_later row share.first_row rows share.first_stands;
  second_stands = stands_later row share.second_row rows share.second_stands;
  same = share.same;
  is_first = share.is_first;
  is_second = share.is_second;
  ordered = share.ordered;
}

-- ---- a row with those that follow it

abbrev pair_with : Addressed → Addressed → Option Pair
pair_with row next = ordered_pair row.id next.id

-- a row that follows at the address of this one makes the pair with it
record With (row : Addressed) (later : List Addressed) (pair : Pair) : Type 0 where
  next : Addressed
  stands : Contains later next
  same : key_at row ≡ key_at next
  made : pair_with row next ≡ Some pair

abbrev beside : Addressed → List Addressed → List Addressed
beside row later = take_while (λ next. is_eq (location_cmp row next)) later

from-with : (row : Addressed) (later : List Addressed) (pair : Pair) → Contains (shared_with row later) pair → With row later pair
from-with row later pair stands =
    let found = from_some (pair_with row) (beside row later) pair stands in
    let there = from-front key_cmp key_at key-order (key_at row) later found.0 found.1 in
    record { next = found.0; stands = there.0; same = there.1; made = found.2 }

in-with : (row : Addressed) (later : List Addressed) → Rise (row ∷ later) → (pair : Pair) → With row later pair
    → Contains (shared_with row later) pair
in-with row later up pair found = in_some (pair_with row) (beside row later) found.next pair
    (in-front key_cmp key_at key-order (key_at row) later up.0 up.1 found.next found.stands found.same) found.made

-- ---- all rows

pub pairs-share : (rows : List Addressed) (pair : Pair) → Contains (shared_pairs rows) pair → Share rows pair
pairs-share [] pair stands = absurd (stands_nowhere pair stands)
pairs-share (row ∷ later) pair stands =
    by (in_either (shared_with row later) (shared_pairs later) pair stands) (pairs-share later pair) where
      ways : (found : With row later pair) → id_cmp pair.first pair.second ≡ Less
          → ((row.id ≡ pair.first) × (found.next.id ≡ pair.second)) ⊎ ((row.id ≡ pair.second) × (found.next.id ≡ pair.first))
          → Share (row ∷ later) pair
      ways found less (inl way) = record {
        first_row = row;
        second_row = found.next;
        first_stands = stands_first row later;
        second_stands = stands_later row found.next later found.stands;
        same = found.same;
        is_first = way.0;
        is_second = way.1;
        ordered = less;
      }
      ways found less (inr way) = record {
        first_row = found.next;
        second_row = row;
        first_stands = stands_later row found.next later found.stands;
        second_stands = stands_first row later;
        same = sym found.same;
        is_first = way.1;
        is_second = way.0;
        ordered = less;
      }

      by : Contains (shared_with row later) pair ⊎ Contains (shared_pairs later) pair
          → (Contains (shared_pairs later) pair → Share later pair) → Share (row ∷ later) pair
      by (inl here) more =
          let found = from-with row later pair here in
          let is = pair-is row.id found.next.id pair found.made in
          ways found is.ordered is.ways
      by (inr there) more = share-later row later pair (more there)

less_equal : (order : Ordering) → order ≡ Less → order ≡ Equal → ⊥
less_equal order less equal = absurd cc

pub share-pairs : (rows : List Addressed) → Rise rows → (pair : Pair) → Share rows pair → Contains (shared_pairs rows) pair
share-pairs [] up pair share = absurd (stands_nowhere share.first_row share.first_stands)
share-pairs (row ∷ later) up pair share =
    by (stands_where row share.first_row later share.first_stands) (stands_where row share.second_row later share.second_stands)
    (share-pairs later up.1 pair) where
      here : With row later pair → Contains (shared_pairs (row ∷ later)) pair
      here found = in_front (shared_with row later) (shared_pairs later) pair (in-with row later up pair found)

      by : (row ≡ share.first_row) ⊎ Contains later share.first_row → (row ≡ share.second_row) ⊎ Contains later share.second_row
          → (Share later pair → Contains (shared_pairs later) pair) → Contains (shared_pairs (row ∷ later)) pair
      by (inl first) (inl second) more =
          let one : pair.second ≡ pair.first =
          sym share.is_second ∙ ap (λ (r : Addressed). r.id) (sym second ∙ first) ∙ share.is_first in
          absurd (less_equal (id_cmp pair.first pair.second) share.ordered
          (ap (id_cmp pair.first) one ∙ tied_itself id_cmp-total pair.first))
      by (inl first) (inr later-second) more = here (record {
        next = share.second_row;
        stands = later-second;
        same = ap key_at first ∙ share.same;
        made = pair-made pair share.ordered row.id share.second_row.id (ap (λ (r : Addressed). r.id) first ∙ share.is_first)
            share.is_second;
      })
      by (inr later-first) (inl second) more = here (record {
        next = share.first_row;
        stands = later-first;
        same = ap key_at second ∙ sym share.same;
        made = pair-made_back pair share.ordered row.id share.first_row.id
            (ap (λ (r : Addressed). r.id) second ∙ share.is_second) share.is_first;
      })
      by (inr later-first) (inr later-second) more = behind (shared_with row later) (shared_pairs later) pair
          (more (record {
            first_row = share.first_row;
            second_row = share.second_row;
            first_stands = later-first;
            second_stands = later-second;
            same = share.same;
            is_first = share.is_first;
            is_second = share.is_second;
            ordered = share.ordered;
          }))

-- ---- one row after another

module _ (rows : List Addressed) (i : ℕ) (row : Addressed) (within : i < length rows) (is : row ≡ get_or rows i row)
    (now after : List Pair) where
  pub shared-more : now ++ shared_pairs (drop i rows) ≡ shared_pairs rows → after ≡ now ++ shared_with row (drop (i + 1) rows)
      → after ++ shared_pairs (drop (i + 1) rows) ≡ shared_pairs rows
  shared-more so_far grown =
      let split : drop i rows ≡ row ∷ drop (i + 1) rows = drop_more rows i row within ∙ ap (λ r. r ∷ drop (i + 1) rows) (sym is) in
      ap (λ ps. ps ++ shared_pairs (drop (i + 1) rows)) grown
      ∙ append_assoc now (shared_with row (drop (i + 1) rows)) (shared_pairs (drop (i + 1) rows))
      ∙ ap (λ rs. now ++ shared_pairs rs) (sym split) ∙ so_far
