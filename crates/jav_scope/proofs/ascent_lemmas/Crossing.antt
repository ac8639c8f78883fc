-- A walk of more steps than there are places comes twice to one of them.
use Rattle.std.proofs.Common.{◌≡◌, ◌⊎◌, inl, inr, ℕ, zero, suc, ◌+◌, ◌<◌, ◌≤◌, ◌==◌, Bool, true, false, not, ◌||◌, length, filter, refl, sym, ap, arith, true≢false, eqb-true, eq-eqb}
use Rattle.std.specs.List.{range_with_len}
use Rattle.std.proofs.lemmas.List.FromFn.{length-range_with_len}
use Rattle.jav_names.proofs.Ways.{fewer, filter-length}
use Rattle.jav_scope.proofs.ascent_lemmas.Walks.{in_range}

-- two of these values, up to this last one, are one
pub record Meets (at : ℕ → ℕ) (last : ℕ) : Type 0 where
  pub first : ℕ
  pub second : ℕ
  pub ordered : first < second
  pub within : second ≤ last
  pub same : at first ≡ at second

module _ (at : ℕ → ℕ) (count : ℕ) where
  -- one of the values up to the last is this
  was_at : ℕ → ℕ → Bool
  was_at zero value = at zero == value
  was_at (suc last) value = at (suc last) == value || was_at last value

  abbrev is_new : ℕ → ℕ → Bool
  is_new last value = not (was_at last value)

  found_at : (last value : ℕ) → was_at last value ≡ true → (i : ℕ) × (i ≤ last) × (at i ≡ value)
  unfolding was_at
  found_at zero value is = (zero, omega arith, eqb-true (at zero) value is)
  found_at (suc last) value is = by (at (suc last) == value) refl is (found_at last value) where
    by : (b : Bool) → (at (suc last) == value) ≡ b → (b || was_at last value) ≡ true
        → (was_at last value ≡ true → (i : ℕ) × (i ≤ last) × (at i ≡ value)) → (i : ℕ) × (i ≤ suc last) × (at i ≡ value)
    by true here is earlier = (suc last, omega arith, eqb-true (at (suc last)) value here)
    by false apart is earlier = let before = earlier is in (before.0, omega (arith, before.1), before.2)

  not_new : (last : ℕ) → is_new last (at last) ≡ false
  unfolding was_at
  not_new zero = ap not (eq-eqb (at zero) (at zero) refl)
  not_new (suc last) = ap (λ b. not (b || was_at last (at (suc last)))) (eq-eqb (at (suc last)) (at (suc last)) refl)

  new_before : (last value : ℕ) → is_new (suc last) value ≡ true → is_new last value ≡ true
  unfolding was_at
  new_before last value is = by (at (suc last) == value) is where
    by : (b : Bool) → not (b || was_at last value) ≡ true → not (was_at last value) ≡ true
    by true is = absurd (true≢false (sym is))
    by false is = is

  module _ (within : (i : ℕ) → i ≤ count → at i < count) where
    abbrev left : ℕ → ℕ
    left last = length (filter (is_new last) (range_with_len 0 count))

    meets-or : (last : ℕ) → last ≤ count → Meets at last ⊎ (left last + last < count)
    meets-or zero below =
        let less = fewer (λ value. true) (is_new zero) (λ value is. refl) (range_with_len 0 count) (at zero)
        (in_range count (at zero) (within zero below)) refl (not_new zero) in
        inr (omega (arith, less, filter-length (λ value. true) (range_with_len 0 count), length-range_with_len 0 count))
    meets-or (suc last) below = by (meets-or last (omega (arith, below))) where
      new : (b : Bool) → was_at last (at (suc last)) ≡ b → left last + last < count
          → Meets at (suc last) ⊎ (left (suc last) + suc last < count)
      new true is fewer_left =
          let before = found_at last (at (suc last)) is in
          inl (record {
            first = before.0;
            second = suc last;
            ordered = omega (arith, before.1);
            within = omega arith;
            same = before.2;
          })
      new false is fewer_left =
          let less = fewer (is_new last) (is_new (suc last)) (new_before last) (range_with_len 0 count) (at (suc last))
          (in_range count (at (suc last)) (within (suc last) below)) (ap not is) (not_new (suc last)) in
          inr (omega (arith, less, fewer_left))

      by : Meets at last ⊎ (left last + last < count) → Meets at (suc last) ⊎ (left (suc last) + suc last < count)
      by (inl meets) = inl (record {
        first = meets.first;
        second = meets.second;
        ordered = meets.ordered;
        within = omega (arith, meets.within);
        same = meets.same;
      })
      by (inr fewer_left) = new (was_at last (at (suc last))) refl fewer_left

    pub meets : Meets at count
    meets = by (meets-or count (omega arith)) where
      by : Meets at count ⊎ (left count + count < count) → Meets at count
      by (inl meets) = meets
      by (inr fewer_left) = absurd (omega (arith, fewer_left))
