-- What stands in lists that are made of others.
use Rattle.std.proofs.Common.{◌≡◌, ◌⊎◌, inl, inr, ℕ, zero, suc, ◌+◌, ◌<◌, List, [], ◌∷◌, ◌++◌, map, reverse, length, Option, Some, None, Contains, flat_map, filter_map, slice_get, refl, sym, ◌∙◌, ap, subst, arith}
use Rattle.std.specs.List.{enumerate_from, cons_option, range_with_len}
use Rattle.std.proofs.lemmas.List.{reverse-append, reverse-reverse}
use Rattle.jav_names.proofs.Lists.{stands_first, stands_later, stands_where, stands_nowhere}

module _ {X : Type 0} where
  pub in_front : (xs ys : List X) (x : X) → Contains xs x → Contains (xs ++ ys) x
  in_front [] ys x stands = absurd (stands_nowhere x stands)
  in_front (z ∷ xs) ys x stands = by (stands_where z x xs stands) (in_front xs ys x) where
    by : (z ≡ x) ⊎ Contains xs x → (Contains xs x → Contains (xs ++ ys) x) → Contains (z ∷ xs ++ ys) x
    by (inl same) more = subst (Contains (z ∷ xs ++ ys)) same (stands_first z (xs ++ ys))
    by (inr later) more = stands_later z x (xs ++ ys) (more later)

  pub behind : (xs ys : List X) (x : X) → Contains ys x → Contains (xs ++ ys) x
  behind [] ys x stands = stands
  behind (z ∷ xs) ys x stands = stands_later z x (xs ++ ys) (behind xs ys x stands)

  pub in_either : (xs ys : List X) (x : X) → Contains (xs ++ ys) x → Contains xs x ⊎ Contains ys x
  in_either [] ys x stands = inr stands
  in_either (z ∷ xs) ys x stands = by (stands_where z x (xs ++ ys) stands) (in_either xs ys x) where
    by_more : Contains xs x ⊎ Contains ys x → Contains (z ∷ xs) x ⊎ Contains ys x
    by_more (inl front) = inl (stands_later z x xs front)
    by_more (inr back) = inr back

    by : (z ≡ x) ⊎ Contains (xs ++ ys) x → (Contains (xs ++ ys) x → Contains xs x ⊎ Contains ys x) → Contains (z ∷ xs) x ⊎ Contains ys x
    by (inl same) more = inl (subst (Contains (z ∷ xs)) same (stands_first z xs))
    by (inr later) more = by_more (more later)

  pub in_reverse : (xs : List X) (x : X) → Contains xs x → Contains (reverse xs) x
  in_reverse [] x stands = absurd (stands_nowhere x stands)
  in_reverse (z ∷ xs) x stands = by (stands_where z x xs stands) (in_reverse xs x) where
    by : (z ≡ x) ⊎ Contains xs x → (Contains xs x → Contains (reverse xs) x) → Contains (reverse (z ∷ xs)) x
    by (inl same) more = subst (λ ys. Contains ys x) (sym (reverse-append (z ∷ []) xs))
        (behind (reverse xs) (z ∷ []) x (0, omega arith, same))
    by (inr later) more = subst (λ ys. Contains ys x) (sym (reverse-append (z ∷ []) xs)) (in_front (reverse xs) (z ∷ []) x (more later))

  pub from_reverse : (xs : List X) (x : X) → Contains (reverse xs) x → Contains xs x
  from_reverse xs x stands = subst (λ ys. Contains ys x) (reverse-reverse xs) (in_reverse (reverse xs) x stands)

module _ {X Y : Type 0} where
  pub from_map : (make : X → Y) (xs : List X) (y : Y) → Contains (map make xs) y → (x : X) × Contains xs x × (make x ≡ y)
  from_map make [] y stands = absurd (stands_nowhere y stands)
  from_map make (z ∷ xs) y stands = by (stands_where (make z) y (map make xs) stands) (from_map make xs y) where
    by : (make z ≡ y) ⊎ Contains (map make xs) y → (Contains (map make xs) y → (x : X) × Contains xs x × (make x ≡ y))
        → (x : X) × Contains (z ∷ xs) x × (make x ≡ y)
    by (inl same) more = (z, stands_first z xs, same)
    by (inr later) more = let found = more later in (found.0, stands_later z found.0 xs found.1, found.2)

  pub in_each : (make : X → List Y) (xs : List X) (x : X) (y : Y) → Contains xs x → Contains (make x) y → Contains (flat_map make xs) y
  in_each make [] x y stands within = absurd (stands_nowhere x stands)
  in_each make (z ∷ xs) x y stands within = by (stands_where z x xs stands) (λ later. in_each make xs x y later within) where
    by : (z ≡ x) ⊎ Contains xs x → (Contains xs x → Contains (flat_map make xs) y) → Contains (make z ++ flat_map make xs) y
    by (inl same) more = in_front (make z) (flat_map make xs) y (subst (λ w. Contains (make w) y) (sym same) within)
    by (inr later) more = behind (make z) (flat_map make xs) y (more later)

  pub from_each : (make : X → List Y) (xs : List X) (y : Y) → Contains (flat_map make xs) y
      → (x : X) × Contains xs x × Contains (make x) y
  from_each make [] y stands = absurd (stands_nowhere y stands)
  from_each make (z ∷ xs) y stands = by (in_either (make z) (flat_map make xs) y stands) (from_each make xs y) where
    by : Contains (make z) y ⊎ Contains (flat_map make xs) y
        → (Contains (flat_map make xs) y → (x : X) × Contains xs x × Contains (make x) y) → (x : X) × Contains (z ∷ xs) x
        × Contains (make x) y
    by (inl here) more = (z, stands_first z xs, here)
    by (inr there) more = let found = more there in (found.0, stands_later z found.0 xs found.1, found.2)

  pub from_some : (make : X → Option Y) (xs : List X) (y : Y) → Contains (filter_map make xs) y
      → (x : X) × Contains xs x × (make x ≡ Some y)
  from_some make [] y stands = absurd (stands_nowhere y stands)
  from_some make (z ∷ xs) y stands = by (make z) refl stands (from_some make xs y) where
    by_place : (w : Y) → make z ≡ Some w → (w ≡ y) ⊎ Contains (filter_map make xs) y
        → (Contains (filter_map make xs) y → (x : X) × Contains xs x × (make x ≡ Some y)) → (x : X) × Contains (z ∷ xs) x
        × (make x ≡ Some y)
    by_place w is (inl same) more = (z, stands_first z xs, is ∙ ap (λ v. Some v) same)
    by_place w is (inr later) more = let found = more later in (found.0, stands_later z found.0 xs found.1, found.2)

    by : (o : Option Y) → make z ≡ o → Contains (cons_option o (filter_map make xs)) y
        → (Contains (filter_map make xs) y → (x : X) × Contains xs x × (make x ≡ Some y)) → (x : X) × Contains (z ∷ xs) x
        × (make x ≡ Some y)
    by None is here more = let found = more here in (found.0, stands_later z found.0 xs found.1, found.2)
    by (Some w) is here more = by_place w is (stands_where w y (filter_map make xs) here) more

  pub in_some : (make : X → Option Y) (xs : List X) (x : X) (y : Y) → Contains xs x → make x ≡ Some y → Contains (filter_map make xs) y
  in_some make [] x y stands is = absurd (stands_nowhere x stands)
  in_some make (z ∷ xs) x y stands is = by (make z) refl (stands_where z x xs stands) (λ later. in_some make xs x y later is) where
    by : (o : Option Y) → make z ≡ o → (z ≡ x) ⊎ Contains xs x → (Contains xs x → Contains (filter_map make xs) y)
        → Contains (cons_option o (filter_map make xs)) y
    by o made (inl same) more =
        subst (λ (o : Option Y). Contains (cons_option o (filter_map make xs)) y) (sym is ∙ ap make (sym same) ∙ made)
        (stands_first y (filter_map make xs))
    by None made (inr later) more = more later
    by (Some w) made (inr later) more = stands_later w y (filter_map make xs) (more later)

-- ---- what is numbered

module _ {X : Type 0} where
  counted : (n : ℕ) (xs : List X) (entry : ℕ × X) → Contains (enumerate_from n xs) entry
      → (k : ℕ) × (entry.0 ≡ n + k) × (slice_get xs k ≡ Some entry.1)
  counted n [] entry stands = absurd (stands_nowhere entry stands)
  counted n (x ∷ xs) entry stands = by (stands_where (n, x) entry (enumerate_from (n + 1) xs) stands) (counted (n + 1) xs entry) where
    by : ((n, x) ≡ entry) ⊎ Contains (enumerate_from (n + 1) xs) entry
        → (Contains (enumerate_from (n + 1) xs) entry → (k : ℕ) × (entry.0 ≡ n + 1 + k) × (slice_get xs k ≡ Some entry.1))
        → (k : ℕ) × (entry.0 ≡ n + k) × (slice_get (x ∷ xs) k ≡ Some entry.1)
    by (inl same) more =
        (zero, omega (arith, ap (λ (e : ℕ × X). e.0) same), ap (λ (e : ℕ × X). Some e.1) same)
    by (inr later) more = let found = more later in (suc found.0, omega (arith, found.1), found.2)

  pub from_numbered : (xs : List X) (entry : ℕ × X) → Contains (enumerate_from 0 xs) entry → slice_get xs entry.0 ≡ Some entry.1
  from_numbered xs entry stands =
      let found = counted 0 xs entry stands in
      let place : entry.0 ≡ found.0 = omega (arith, found.1) in ap (slice_get xs) place ∙ found.2

  number-in : (n : ℕ) (xs : List X) (k at : ℕ) (x : X) → slice_get xs k ≡ Some x → at ≡ n + k → Contains (enumerate_from n xs) (at, x)
  number-in n [] k at x is place = absurd cc
  number-in n (y ∷ xs) zero at x is place =
      let same : y ≡ x = cc in
      let first : n ≡ at = omega (arith, place) in
      subst (Contains (enumerate_from n (y ∷ xs))) (λ i. (first i, same i)) (stands_first (n, y) (enumerate_from (n + 1) xs))
  number-in n (y ∷ xs) (suc k) at x is place =
      stands_later (n, y) (at, x) (enumerate_from (n + 1) xs) (number-in (n + 1) xs k at x is (omega (arith, place)))

  pub in_numbered : (xs : List X) (k : ℕ) (x : X) → slice_get xs k ≡ Some x → Contains (enumerate_from 0 xs) (k, x)
  in_numbered xs k x is = number-in 0 xs k k x is (omega arith)

  -- what stands at a place stands there
  pub in_place : (xs : List X) (k : ℕ) (x : X) → slice_get xs k ≡ Some x → Contains xs x
  in_place [] k x is = absurd cc
  in_place (y ∷ xs) zero x is = let same : y ≡ x = cc in subst (Contains (y ∷ xs)) same (stands_first y xs)
  in_place (y ∷ xs) (suc k) x is = stands_later y x xs (in_place xs k x is)

  pub get-below : (xs : List X) (k : ℕ) → k < length xs → (x : X) × (slice_get xs k ≡ Some x)
  get-below [] k below = absurd (omega (arith, below))
  get-below (y ∷ xs) zero below = (y, refl)
  get-below (y ∷ xs) (suc k) below = get-below xs k (omega (arith, below))

range-below : (n count k : ℕ) → Contains (range_with_len n count) k → k < n + count
range-below n zero k stands = absurd (stands_nowhere k stands)
range-below n (suc count) k stands = by (stands_where n k (range_with_len (n + 1) count) stands) (range-below (n + 1) count k) where
  by : (n ≡ k) ⊎ Contains (range_with_len (n + 1) count) k → (Contains (range_with_len (n + 1) count) k → k < n + 1 + count)
      → k < n + suc count
  by (inl same) more = omega (arith, same)
  by (inr later) more = omega (arith, more later)

pub from_range : (count k : ℕ) → Contains (range_with_len 0 count) k → k < count
from_range count k stands = omega (arith, range-below 0 count k stands)

in_range_from : (n count k at : ℕ) → k < count → at ≡ n + k → Contains (range_with_len n count) at
in_range_from n zero k at below place = absurd (omega (arith, below))
in_range_from n (suc count) zero at below place =
    let first : n ≡ at = omega (arith, place) in
    subst (Contains (range_with_len n (suc count))) first (stands_first n (range_with_len (n + 1) count))
in_range_from n (suc count) (suc k) at below place = stands_later n at (range_with_len (n + 1) count)
    (in_range_from (n + 1) count k at (omega (arith, below)) (omega (arith, place)))

pub in_range : (count k : ℕ) → k < count → Contains (range_with_len 0 count) k
in_range count k below = in_range_from 0 count k k below (omega arith)
