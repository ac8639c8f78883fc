-- No two pairs, lists and keys have one number.
use Rattle.std.proofs.Common.{◌≡◌, ℕ, zero, suc, ◌<◌, Bool, true, false, List, [], ◌∷◌, refl, sym, ◌∙◌, ap, arith, Ordering}
use Rattle.std.specs.Prelude.{◌≢◌, Some, length, slice_get, slice_index_or, if◌then◌else◌}
use Rattle.std.specs.Bool.{Decides}
use Rattle.std.specs.List.{AllPairs}
use Rattle.std.specs.FinMap.{nat_cmp-IsAntisymmetric}
use Rattle.std.specs.Ordering.{is_eq, nat_cmp}
use Rattle.std.proofs.lemmas.Cmp.{nat_cmp_total}
use Rattle.jav_names.specs.Views.{IsKeyOrder}
use Rattle.jav_names.proofs.Lists.{Decides-fails}
use Rattle.jav_names.proofs.Ways.{same_key}
use Rattle.jav_names_laws.specs.Laws.{NumbersApart, KeysNumbered}
use Rattle.jav_names_laws.specs.Numbered.{pair_number, list_number, number_among}

-- ---- pairs and lists

pair-positive : (m n : ℕ) → 0 < pair_number m n
pair-positive zero n = omega arith
pair-positive (suc m) n = omega (arith, pair-positive m n)

pair-apart : (m n k l : ℕ) → pair_number m n ≡ pair_number k l → (m ≡ k) × (n ≡ l)
pair-apart zero n zero l same = (refl, omega (arith, same))
pair-apart zero n (suc k) l same = absurd (omega (arith, same))
pair-apart (suc m) n zero l same = absurd (omega (arith, same))
pair-apart (suc m) n (suc k) l same =
    let halves : pair_number m n ≡ pair_number k l = omega (arith, same) in
    let parts = pair-apart m n k l halves in
    (ap suc parts.0, parts.1)

list-apart : (ms ns : List ℕ) → list_number ms ≡ list_number ns → ms ≡ ns
list-apart [] [] same = refl
list-apart [] (n ∷ ns) same = absurd (omega (arith, same, pair-positive n (list_number ns)))
list-apart (m ∷ ms) [] same = absurd (omega (arith, same, pair-positive m (list_number ms)))
list-apart (m ∷ ms) (n ∷ ns) same =
    let parts = pair-apart m (list_number ms) n (list_number ns) same in
    ap (λ k. k ∷ ms) parts.0 ∙ ap (λ rest. n ∷ rest) (list-apart ms ns parts.1)

pub numbers_apart : NumbersApart
numbers_apart = record { pairs = pair-apart; lists = list-apart }

-- ---- keys

nat_order : IsKeyOrder nat_cmp
nat_order = record { total = nat_cmp_total; same = nat_cmp-IsAntisymmetric }

module _ {K : Type 0} (cmp : K → K → Ordering) (own : K → ℕ) (order : IsKeyOrder cmp)
    (apart : (first second : K) → own first ≡ own second → first ≡ second) where
  pub key-apart : (keys : List K) (first second : K) → number_among cmp own keys first ≡ number_among cmp own keys second → first ≡ second
  key-apart [] first second is = apart first second is
  key-apart (key ∷ keys) first second is = by_tests (is_eq (cmp key first)) (is_eq (cmp key second)) refl refl is (key-apart keys first second) where
    by_tests : (t u : Bool) → is_eq (cmp key first) ≡ t → is_eq (cmp key second) ≡ u
        → (if t then zero else suc (number_among cmp own keys first)) ≡ (if u then zero else suc (number_among cmp own keys second))
        → (number_among cmp own keys first ≡ number_among cmp own keys second → first ≡ second) → first ≡ second
    by_tests true true here there is more = sym ((same_key order key first).0 here) ∙ (same_key order key second).0 there
    by_tests true false here there is more = absurd (omega (arith, is))
    by_tests false true here there is more = absurd (omega (arith, is))
    by_tests false false here there is more = more (omega (arith, is))

  pub keys-compared : (keys : List K) (first second : K) → is_eq (cmp first second)
      ≡ is_eq (nat_cmp (number_among cmp own keys first) (number_among cmp own keys second))
  keys-compared keys first second =
      by_tests (is_eq (cmp first second)) refl (is_eq (nat_cmp (number_among cmp own keys first) (number_among cmp own keys second))) refl where
        here : Decides (is_eq (cmp first second)) (first ≡ second)
        here = same_key order first second

        there : Decides (is_eq (nat_cmp (number_among cmp own keys first) (number_among cmp own keys second)))
            (number_among cmp own keys first ≡ number_among cmp own keys second)
        there = same_key nat_order (number_among cmp own keys first) (number_among cmp own keys second)

        by_tests : (t : Bool) → is_eq (cmp first second) ≡ t
            → (u : Bool) → is_eq (nat_cmp (number_among cmp own keys first) (number_among cmp own keys second)) ≡ u → t ≡ u
        by_tests true is true are = refl
        by_tests false is false are = refl
        by_tests true is false are = sym (there.1 (ap (number_among cmp own keys) (here.0 is))) ∙ are
        by_tests false is true are = sym is ∙ here.1 (key-apart keys first second (there.0 are))

module _ {K : Type 0} where
  get-below : (keys : List K) (place : ℕ) (key : K) → slice_get keys place ≡ Some key → place < length keys
  get-below [] place key is = absurd cc
  get-below (first ∷ keys) zero key is = omega arith
  get-below (first ∷ keys) (suc place) key is = omega (arith, get-below keys place key is)

  get-index : (keys : List K) (place : ℕ) (key : K) → slice_get keys place ≡ Some key → slice_index_or keys place key ≡ key
  get-index [] place key is = absurd cc
  get-index (first ∷ keys) zero key is = cc
  get-index (first ∷ keys) (suc place) key is = get-index keys place key is

  first-apart : (first : K) (keys : List K) → AllPairs (λ a b. a ≢ b) (first ∷ keys) → (place : ℕ) (key : K)
      → slice_get keys place ≡ Some key → first ≢ key
  first-apart first keys all place key is same =
      all zero (suc place) key (omega arith) (omega (arith, get-below keys place key is)) (same ∙ sym (get-index keys place key is))

  rest-apart : (first : K) (keys : List K) → AllPairs (λ a b. a ≢ b) (first ∷ keys) → AllPairs (λ a b. a ≢ b) keys
  rest-apart first keys all i j d less within = all (suc i) (suc j) d (omega (arith, less)) (omega (arith, within))

  module _ (cmp : K → K → Ordering) (own : K → ℕ) (order : IsKeyOrder cmp) where
    key-placed : (keys : List K) → AllPairs (λ first second. first ≢ second) keys → (place : ℕ) (key : K)
        → slice_get keys place ≡ Some key → number_among cmp own keys key ≡ place
    key-placed [] all place key is = absurd cc
    key-placed (first ∷ keys) all zero key is =
        let same : first ≡ key = cc in rw ((same_key order first key).1 same) refl
    key-placed (first ∷ keys) all (suc place) key is =
        rw (Decides-fails (same_key order first key) (first-apart first keys all place key is))
        (ap suc (key-placed keys (rest-apart first keys all) place key is))

pub keys_numbered : {K : Type 0} → KeysNumbered K
keys_numbered = record { apart = key-apart; compared = keys-compared; placed = key-placed }
