-- Tests, and lists of one item or none.
use Rattle.std.proofs.Common.{◌≡◌, ◌⊎◌, inl, inr, ℕ, ◌+◌, ◌<◌, ◌≤◌, Bool, true, false, List, [], ◌∷◌, length, drop, get_or, Contains, refl, sym, ap, ◌∙◌, true≢false}
use Rattle.std.proofs.lemmas.List.{at_drop_all, at_drop_more}
use Rattle.std.specs.List.{list_any}
use Rattle.std.specs.Prelude.{◌&&◌, ◌||◌, not, Option, None, Some, is_some, if◌then◌else◌}
use Rattle.jav_names.proofs.Lists.{stands_first, stands_nowhere, stands_where}

pub both-true : (a b : Bool) → a ≡ true → b ≡ true → (a && b) ≡ true
both-true true b is so = so
both-true false b is so = absurd (true≢false (sym is))

pub not-true : (b : Bool) → (b ≡ true → ⊥) → not b ≡ true
not-true true never = absurd (never refl)
not-true false never = refl

pub not-false : (b : Bool) → not b ≡ true → b ≡ false
not-false true is = absurd (true≢false (sym is))
not-false false is = refl

pub some-is : {X : Type 0} (o : Option X) → is_some o ≡ true → (x : X) × (o ≡ Some x)
some-is None is = absurd (true≢false (sym is))
some-is (Some x) is = (x, refl)

module _ {X : Type 0} where
  pub in-if : (b : Bool) (x : X) → b ≡ true → Contains (if b then x ∷ [] else []) x
  in-if true x is = stands_first x []
  in-if false x is = absurd (true≢false (sym is))

  pub from-if : (b : Bool) (x y : X) → Contains (if b then x ∷ [] else []) y → (b ≡ true) × (x ≡ y)
  from-if true x y stands = by (stands_where x y [] stands) where
    by : (x ≡ y) ⊎ Contains [] y → (true ≡ true) × (x ≡ y)
    by (inl same) = (refl, same)
    by (inr later) = absurd (stands_nowhere y later)
  from-if false x y stands = absurd (stands_nowhere y stands)

  -- where none passes, each one fails
  pub any-none : (passes : X → Bool) (xs : List X) → list_any passes xs ≡ false → (x : X) → Contains xs x → passes x ≡ false
  any-none passes [] none x stands = absurd (stands_nowhere x stands)
  any-none passes (y ∷ xs) none x stands =
      by (passes y) (list_any passes xs) none refl (λ rest later. any-none passes xs rest x later) (stands_where y x xs stands)
    where
      by : (here rest : Bool) → (here || rest) ≡ false → passes y ≡ here → (rest ≡ false → Contains xs x → passes x ≡ false)
          → (y ≡ x) ⊎ Contains xs x → passes x ≡ false
      by true rest is own more where_it = absurd (true≢false is)
      by false rest is own more (inl same) = ap passes (sym same) ∙ own
      by false rest is own more (inr later) = more is later

  -- ---- whether one of a list passes, from its front

  pub any-here : (passes : X → Bool) (xs : List X) (i : ℕ) (x : X) (whole : Bool) → i < length xs → x ≡ get_or xs i x
      → passes x ≡ true → list_any passes (drop i xs) ≡ whole → true ≡ whole
  any-here passes xs i x whole within is own so_far =
      sym (ap (λ here. here || list_any passes (drop (i + 1) xs)) own)
      ∙ ap (λ (y : X). passes y || list_any passes (drop (i + 1) xs)) is
      ∙ sym (at_drop_more (list_any passes) xs i x within)
      ∙ so_far

  pub any-later : (passes : X → Bool) (xs : List X) (i : ℕ) (x : X) (whole : Bool) → i < length xs → x ≡ get_or xs i x
      → passes x ≡ false → list_any passes (drop i xs) ≡ whole → list_any passes (drop (i + 1) xs) ≡ whole
  any-later passes xs i x whole within is own so_far =
      sym (ap (λ here. here || list_any passes (drop (i + 1) xs)) own)
      ∙ ap (λ (y : X). passes y || list_any passes (drop (i + 1) xs)) is
      ∙ sym (at_drop_more (list_any passes) xs i x within)
      ∙ so_far

  pub any-all : (passes : X → Bool) (xs : List X) (i : ℕ) (whole : Bool) → length xs ≤ i → list_any passes (drop i xs) ≡ whole
      → false ≡ whole
  any-all passes xs i whole past so_far = sym (at_drop_all (list_any passes) xs i past) ∙ so_far
