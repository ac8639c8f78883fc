-- Ways up in a forest.
use Rattle.std.proofs.Common.{◌≡◌, ◌⊎◌, inl, inr, ℕ, zero, suc, ◌<◌, ◌≤◌, List, [], ◌∷◌, ◌++◌, length, get_or, Some, slice_get, refl, sym, ◌∙◌, ap, subst, arith}
use Rattle.std.proofs.lemmas.Bool.{cases_lt}
use Rattle.std.proofs.lemmas.Option.{slice_get-get_or}
use Rattle.mol_table_rules.proofs.Counts.{some-same}
use Rattle.mol_scope_classes.specs.hierarchy.Forest.{IsUp, here, up, IsPlace, ArePlaces}
use Rattle.mol_scope_classes.specs.declared.hierarchy.place.Place.{Place}

-- ---- places behind others

pub get-front : {X : Type 0} (front back : List X) (i : ℕ) → i < length front → slice_get (front ++ back) i ≡ slice_get front i
get-front [] back i within = absurd (omega (arith, within))
get-front (x ∷ front) back zero within = refl
get-front (x ∷ front) back (suc i) within = get-front front back i (omega (arith, within))

pub get-last : {X : Type 0} (front : List X) (x : X) → slice_get (front ++ x ∷ []) (length front) ≡ Some x
get-last [] x = refl
get-last (y ∷ front) x = get-last front x

pub get-inside : {X : Type 0} (xs : List X) (i : ℕ) (x : X) → slice_get xs i ≡ Some x → i < length xs
get-inside [] i x is = absurd cc
get-inside (y ∷ xs) zero x is = omega arith
get-inside (y ∷ xs) (suc i) x is = omega (arith, get-inside xs i x is)

-- the place above is among them
pub above-within : (places : List Place) → ArePlaces places → (number : ℕ) (default : Place) → number < length places
    → (get_or places number default).above < length places
above-within places are number default within =
    let place : Place = get_or places number default in
    let is = are number place (slice_get-get_or places number default within) in
    omega (arith, is.above, within)

-- ---- ways

module _ (places : List Place) where
  pub up-on : {low middle high : ℕ} → IsUp places low middle → IsUp places middle high → IsUp places low high
  up-on here on = on
  up-on (up place there more) on = up place there (up-on more on)

  pub one-up : (number : ℕ) (place : Place) → slice_get places number ≡ Some place → IsUp places number place.above
  one-up number place there = up place there here

  -- there is no way from the top
  alone : {number high : ℕ} (place : Place) (low : ℕ) → slice_get places number ≡ Some place → place.above ≡ number → low ≡ number
      → IsUp places low high → high ≡ number
  alone place low there top same here = same
  alone {number = number} place low there top same (up other is more) =
      let one : other ≡ place = some-same other place (sym is ∙ ap (slice_get places) same ∙ there) in
      alone place other.above there top (ap (λ (p : Place). p.above) one ∙ top) more

  pub top-alone : (number high : ℕ) (place : Place) → slice_get places number ≡ Some place → place.above ≡ number
      → IsUp places number high → high ≡ number
  top-alone number high place there top is = alone place number there top refl is

  -- where the way leads further it goes over the next place
  pub past : {low high : ℕ} (place : Place) → slice_get places low ≡ Some place → high < low → IsUp places low high
      → IsUp places place.above high
  past place there below here = absurd (omega (arith, below))
  past {high = high} place there below (up other is more) =
      subst (λ (p : Place). IsUp places p.above high) (some-same other place (sym is ∙ there)) more

  module _ (are : ArePlaces places) where
    -- numbers do not grow on the way
    pub up-low : {low high : ℕ} → IsUp places low high → high ≤ low
    up-low here = omega arith
    up-low (up {number = number} place there more) =
        let rest = up-low more in
        let next = (are number place there).above in
        omega (arith, rest, next)

    -- of two places on it the lower leads to the higher
    pub between : {low next high : ℕ} → IsUp places low next → IsUp places low high → high ≤ next → IsUp places next high
    between here way below = way
    between {high = high} (up {number = low} {above = next} place there more) way below =
        by (cases_lt high low) (λ on. between more on below) where
          by : (high < low) ⊎ (low ≤ high) → (IsUp places place.above high → IsUp places next high) → IsUp places next high
          by (inl less) rest = rest (past place there less way)
          by (inr most) rest =
              let same : next ≡ high = omega (arith, most, below, up-low more, (are low place there).above) in
              subst (IsUp places next) same here

-- ---- one place more

pub up-more : (places back : List Place) {low high : ℕ} → IsUp places low high → IsUp (places ++ back) low high
up-more places back here = here
up-more places back (up {number = number} place there more) =
    up place (get-front places back number (get-inside places number place there) ∙ there) (up-more places back more)

pub place-more : (places back : List Place) (number : ℕ) (place : Place) → IsPlace places number place
    → IsPlace (places ++ back) number place
place-more places back number place is = record { above = is.above; jump = up-more places back is.jump; top = is.top }

pub up-back : (places back : List Place) → ArePlaces places → {low high : ℕ} → low < length places → IsUp (places ++ back) low high
    → IsUp places low high
up-back places back are within here = here
up-back places back are within (up {number = number} place there more) =
    let own : slice_get places number ≡ Some place = sym (get-front places back number within) ∙ there in
    up place own (up-back places back are (omega (arith, within, (are number place own).above)) more)
