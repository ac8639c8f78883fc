-- The first and the last of those of a list of which a fact holds, with their places.
use Rattle.std.proofs.Common.{◌≡◌, ℕ, zero, suc, ◌<◌, Bool, true, false, cond, List, [], ◌∷◌, Some, slice_get, find, refl, subst, arith}
use Rattle.std.specs.Bool.{Decides}
use Rattle.std.proofs.lemmas.List.Elements.{All-head, All-tail}
use Rattle.jav_names.specs.Choices.{IsFirst, IsLast, HoldsOfNone}
use Rattle.jav_names.proofs.Lists.{Decides-not, Decides-fails}

module _ {X : Type 0} (P : X → Type 0) where
  -- one more element in front
  pub IsFirst-later : (y : X) (xs : List X) (place : ℕ) (x : X) → ¬ P y → IsFirst P xs place x → IsFirst P (y ∷ xs) (suc place) x
  IsFirst-later y xs place x not first = record { here = first.here; holds = first.holds; none_before = before } where
    before : (k : ℕ) (z : X) → k < suc place → slice_get (y ∷ xs) k ≡ Some z → ¬ P z
    before zero z below is = subst (λ w. ¬ P w) (let same : y ≡ z = cc in same) not
    before (suc k) z below is = first.none_before k z (omega (arith, below)) is

  pub IsFirst-rest : (y : X) (xs : List X) (place : ℕ) (x : X) → IsFirst P (y ∷ xs) (suc place) x → IsFirst P xs place x
  IsFirst-rest y xs place x first = record {
    here = first.here;
    holds = first.holds;
    none_before = λ k z below is. first.none_before (suc k) z (omega (arith, below)) is;
  }

  pub IsLast-later : (y : X) (xs : List X) (place : ℕ) (x : X) → IsLast P xs place x → IsLast P (y ∷ xs) (suc place) x
  IsLast-later y xs place x last = record { here = last.here; holds = last.holds; none_after = after } where
    after : (k : ℕ) (z : X) → suc place < k → slice_get (y ∷ xs) k ≡ Some z → ¬ P z
    after zero z above is = absurd (omega (arith, above))
    after (suc k) z above is = last.none_after k z (omega (arith, above)) is

  pub IsLast-rest : (y : X) (xs : List X) (place : ℕ) (x : X) → IsLast P (y ∷ xs) (suc place) x → IsLast P xs place x
  IsLast-rest y xs place x last = record {
    here = last.here;
    holds = last.holds;
    none_after = λ k z above is. last.none_after (suc k) z (omega (arith, above)) is;
  }

  -- where it holds of none, there is none at any place
  pub HoldsOfNone-at : (xs : List X) (k : ℕ) (z : X) → HoldsOfNone P xs → slice_get xs k ≡ Some z → ¬ P z
  HoldsOfNone-at [] k z none is = absurd cc
  HoldsOfNone-at (x ∷ xs) zero z none is = subst (λ w. ¬ P w) (let same : x ≡ z = cc in same) (All-head (λ w. ¬ P w) x xs none)
  HoldsOfNone-at (x ∷ xs) (suc k) z none is = HoldsOfNone-at xs k z (All-tail (λ w. ¬ P w) x xs none) is

  module _ (p : X → Bool) (tests : (x : X) → Decides (p x) (P x)) where
    pub find-first : (xs : List X) (x : X) → find p xs ≡ Some x → (place : ℕ) × IsFirst P xs place x
    find-first [] x is = absurd cc
    find-first (y ∷ xs) x is = by_test (p y) refl is (find-first xs x) where
      by_test : (b : Bool) → p y ≡ b → cond b (Some y) (find p xs) ≡ Some x → (find p xs ≡ Some x → (place : ℕ) × IsFirst P xs place x)
          → (place : ℕ) × IsFirst P (y ∷ xs) place x
      by_test true passes is more = (
        zero,
        record {
          here = is;
          holds = subst P (let same : y ≡ x = cc in same) ((tests y).0 passes);
          none_before = λ k z below at. absurd (omega (arith, below));
        },
      )
      by_test false fails is more = let later = more is in (suc later.0, IsFirst-later y xs later.0 x (Decides-not (tests y) fails) later.1)

    pub first-find : (xs : List X) (place : ℕ) (x : X) → IsFirst P xs place x → find p xs ≡ Some x
    first-find [] place x first = absurd (let is = first.here in cc)
    first-find (y ∷ xs) zero x first =
        let same : Some y ≡ Some x = first.here in
        let passes : p y ≡ true = (tests y).1 (subst P (let back : x ≡ y = cc in back) first.holds) in
        rw passes first.here
    first-find (y ∷ xs) (suc place) x first =
        let fails : p y ≡ false = Decides-fails (tests y) (first.none_before zero y (omega arith) refl) in
        rw fails (first-find xs place x (IsFirst-rest y xs place x first))
