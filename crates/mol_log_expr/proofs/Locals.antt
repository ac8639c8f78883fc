-- Local variables in scope: how they stand, and which numbers are among them.
use Rattle.std.proofs.Common.{◌≡◌, ℕ, zero, suc, ◌+◌, ◌<◌, ◌≤◌, ◌^◌, ◌-◌, ◌≢◌, ◌==◌, ◌⊎◌, inl, inr, Bool, true, false, ◌||◌}
use Rattle.std.proofs.Common.{List, [], ◌∷◌, ◌++◌, Option, Some, None, Result, Ok, Err, refl, sym, arith, min, option_map, get_or}
use Rattle.std.proofs.Common.{length, take}
use Rattle.std.specs.List.Sorted.{IsBinarySearchResult}
use Rattle.std.specs.Ordering.{nat_cmp}
use Rattle.std.specs.Prelude.{is_ok, not, MatchResult}
use Rattle.std.proofs.lemmas.Bool.{cases_lt}
use Rattle.std.proofs.lemmas.Bool.Decides.{nat_tests}
use Rattle.std.proofs.lemmas.List.{get_or_append_left, get_or_at, get_or-take, length-append, length-take}
use Rattle.std.proofs.lemmas.List.Sorted.{searched}
use Rattle.mol_log_words.specs.Words.{kept}
use Rattle.mol_log_expr.specs.Scope.{Scope, any, has, AreInOrder}

abbrev pub scope_of : ℕ → List ℕ → Scope
scope_of next locals = record { next = next; locals = locals }

pub any_counted : (xs : List ℕ) → not (length xs == 0) ≡ any xs
any_counted [] = refl
any_counted (x ∷ xs) = let q : (length (x ∷ xs) == 0) ≡ false = grind (arith, nat_tests) in rw q refl

-- no local
pub none_in_order : (next : ℕ) → AreInOrder [] next
none_in_order next = record { rising = λ i j le low. absurd (omega arith); below = λ i low. absurd (omega arith) }

module _ (xs : List ℕ) (next : ℕ) (h : AreInOrder xs next) where
  -- where a place of one more local is: among those before, or the last one
  IsAt : ℕ → Type 0
  IsAt i = (i < length xs) ⊎ (get_or (xs ++ next ∷ []) i 0 ≡ next)

  is_at : (i : ℕ) → i < length (xs ++ next ∷ []) → IsAt i
  unfolding IsAt
  is_at i low = by_case (cases_lt i (length xs)) where
    by_case : (i < length xs) ⊎ (length xs ≤ i) → (i < length xs) ⊎ (get_or (xs ++ next ∷ []) i 0 ≡ next)
    by_case (inl p) = inl p
    by_case (inr p) =
        let longer = length-append xs (next ∷ []) in
        let last : length xs ≡ i = omega arith in
        inr (get_or_at xs next [] 0 i last)

  before : (i : ℕ) → i < length xs → get_or (xs ++ next ∷ []) i 0 ≡ get_or xs i 0
  before i p = get_or_append_left xs (next ∷ []) 0 i p

  rises : (i j : ℕ) → i ≤ j → IsAt i → IsAt j → get_or (xs ++ next ∷ []) i 0 ≤ get_or (xs ++ next ∷ []) j 0
  unfolding IsAt
  rises i j le (inl p) (inl q) = rw (before i p, before j q) (h.rising i j le q)
  rises i j le (inl p) (inr q) = let e = before i p in let b = h.below i p in omega arith
  rises i j le (inr p) (inl q) =
      let low : i < length xs = omega arith in
      rw (before i low, before j q) (h.rising i j le q)
  rises i j le (inr p) (inr q) = omega arith

  lies : (i : ℕ) → IsAt i → get_or (xs ++ next ∷ []) i 0 < next + 1
  unfolding IsAt
  lies i (inl p) = let e = before i p in let b = h.below i p in omega arith
  lies i (inr p) = omega arith

  -- one more local
  pub in_order_declared : AreInOrder (xs ++ next ∷ []) (next + 1)
  in_order_declared = record {
    rising = λ i j le low. rises i j le (is_at i (omega arith)) (is_at j low);
    below = λ i low. lies i (is_at i low);
  }

  -- the first locals
  pub in_order_cut : (count : ℕ) → AreInOrder (take count xs) next
  in_order_cut count = record { rising = λ i j le low. cut_rises i j le low; below = λ i low. cut_lies i low } where
    cut_rises : (i j : ℕ) → i ≤ j → j < length (take count xs) → get_or (take count xs) i 0 ≤ get_or (take count xs) j 0
    cut_rises i j le low =
        let n = length-take count xs in
        let p : i < count = omega arith in
        let q : j < count = omega arith in
        rw (get_or-take count xs i 0 p, get_or-take count xs j 0 q) (h.rising i j le (omega arith))

    cut_lies : (i : ℕ) → i < length (take count xs) → get_or (take count xs) i 0 < next
    cut_lies i low =
        let n = length-take count xs in
        let p : i < count = omega arith in
        rw (get_or-take count xs i 0 p) (h.below i (omega arith))

or_true : (b : Bool) → (b || true) ≡ true
or_true true = refl
or_true false = refl

has_at : (xs : List ℕ) (n i : ℕ) → i < length xs → get_or xs i 0 ≡ n → has n xs ≡ true
has_at [] n i low e = absurd (omega arith)
has_at (x ∷ xs) n zero low e = let q : (x == n) ≡ true = grind (arith, nat_tests) in rw q refl
has_at (x ∷ xs) n (suc i) low e = rw (has_at xs n i (omega arith) e) (or_true (x == n))

has_none : (xs : List ℕ) (n : ℕ) → ((k : ℕ) → k < length xs → get_or xs k 0 ≢ n) → has n xs ≡ false
has_none [] n h = refl
has_none (x ∷ xs) n h =
    let first : x ≢ n = h 0 (omega arith) in
    let q : (x == n) ≡ false = grind (arith, nat_tests) in
    rw (q, has_none xs n (λ k low. h (suc k) (omega arith))) refl

-- what a search in order answers of the locals
abbrev pub Searched : List ℕ → ℕ → Result ℕ ℕ → Type 0
Searched xs n r = MatchResult r (λ i. (i < length xs) × (get_or xs i 0 ≡ n))
    (λ i. (i ≤ length xs) × ((k : ℕ) → k < i → get_or xs k 0 < n) × ((k : ℕ) → i ≤ k → k < length xs → n < get_or xs k 0))

not_among : (xs : List ℕ) (n i k : ℕ) → Searched xs n (Err i) → k < length xs → get_or xs k 0 ≡ n → (k < i) ⊎ (i ≤ k) → ⊥
not_among xs n i k found low e (inl p) = let b = found.1 k p in omega arith
not_among xs n i k found low e (inr p) = let b = found.2 k p low in omega arith

by_search : (xs : List ℕ) (n : ℕ) (r : Result ℕ ℕ) → Searched xs n r → is_ok r ≡ has n xs
by_search xs n (Ok i) found = sym (has_at xs n i found.0 found.1)
by_search xs n (Err i) found = sym (has_none xs n (λ k low e. not_among xs n i k found low e (cases_lt k i)))

-- a search in order finds what is among them
pub has_searched : (xs : List ℕ) (next n : ℕ) (r : Result ℕ ℕ) → AreInOrder xs next → IsBinarySearchResult (λ y. nat_cmp y n) xs r
    → is_ok r ≡ has n xs
has_searched xs next n r h is = by_search xs n r (searched xs n r is h.rising)

-- no local in scope has the number of the next one, or one above it
pub none_from : (o : Option ℕ) (xs : List ℕ) (next count : ℕ) → AreInOrder xs next → option_map (λ n. min n (2 ^ 64 - 1)) o ≡ Some count
    → next ≤ count → None ≡ kept (λ n. has n xs) o
none_from None xs next count h e large = refl
none_from (Some n) xs next count h e large =
    let same : min n (2 ^ 64 - 1) ≡ count = cc in
    rw (has_none xs n (λ k place is. let b = h.below k place in absurd (omega arith))) refl
