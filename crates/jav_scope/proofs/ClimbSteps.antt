-- One step up.
use Rattle.std.proofs.Common.{◌≡◌, ℕ, zero, suc, ◌<◌, ◌-◌, Option, Some, None, refl, arith}
use Rattle.jav_names.specs.Views.{View, Found, found, outside, not_found}
use Rattle.jav_scope.specs.Answers.{answered}
use Rattle.jav_scope.specs.Climbs.{above, look_from, climb}
use Rattle.jav_scope.specs.declared.found.Found.TheVariants as answer

module _ {C M X R : Type 0} (view : View C M) (here : C → Option X) (f : X → R) where
  pub climb-found : (n : ℕ) (class : C) (x : X) → 0 < n → here class ≡ Some x → answered f (climb n view here class) ≡ answer.Found (f x)
  climb-found zero class x some is = absurd (omega (arith, some))
  climb-found (suc n) class x some is = rw is refl

  pub climb-up : (n : ℕ) (class next : C) → 0 < n → here class ≡ None → answer.Found next ≡ answered (λ number. number) (above view class)
      → climb n view here class ≡ climb (n - 1) view here next
  climb-up zero class next some none is = absurd (omega (arith, some))
  climb-up (suc n) class next some none is = rw none (by_above (above view class) is) where
    less : n ≡ suc n - 1
    less = omega arith

    by_above : (up : Found C) → answer.Found next ≡ answered (λ number. number) up → look_from up (climb n view here)
        ≡ climb (suc n - 1) view here next
    by_above (found class) is = (λ i. climb (less i) view here ((let same : class ≡ next = cc in same) i))
    by_above outside is = absurd cc
    by_above not_found is = absurd cc

  pub climb-outside : (n : ℕ) (class : C) → 0 < n → here class ≡ None → answer.Outside ≡ answered (λ number. number) (above view class)
      → answered f (climb n view here class) ≡ answer.Outside
  climb-outside zero class some none is = absurd (omega (arith, some))
  climb-outside (suc n) class some none is = rw none (by_above (above view class) is) where
    by_above : (up : Found C) → answer.Outside ≡ answered (λ number. number) up → answered f (look_from up (climb n view here))
        ≡ answer.Outside
    by_above (found class) is = absurd cc
    by_above outside is = refl
    by_above not_found is = absurd cc

  pub climb-nowhere : (n : ℕ) (class : C) → 0 < n → here class ≡ None → answer.NotFound ≡ answered (λ number. number) (above view class)
      → answered f (climb n view here class) ≡ answer.NotFound
  climb-nowhere zero class some none is = absurd (omega (arith, some))
  climb-nowhere (suc n) class some none is = rw none (by_above (above view class) is) where
    by_above : (up : Found C) → answer.NotFound ≡ answered (λ number. number) up → answered f (look_from up (climb n view here))
        ≡ answer.NotFound
    by_above (found class) is = absurd cc
    by_above outside is = absurd cc
    by_above not_found is = refl
