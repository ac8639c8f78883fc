-- Answers that hand on what a look-up found.
use Rattle.std.proofs.Common.{◌≡◌, refl}
use Rattle.jav_scope.specs.Answers.{answered}
use Rattle.jav_scope.specs.declared.found.Found.TheVariants as answer
use Rattle.jav_names.specs.Views.{Found as Result, found, outside, not_found}
use Rattle.mol_resolve_members.specs.found.Found.{Answers}

module _ {A B R : Type 0} (is : B → A → Type 0) (f : B → R) where
  -- something was found
  pub as-found : (read : Result B) (at : R) (kept : A) → answer.Found at ≡ answered f read
      → ((x : B) → read ≡ found x → at ≡ f x → is x kept) → Answers is (answer.Found kept) read
  as-found (found x) at kept found_it of_it = of_it x refl (let same : at ≡ f x = cc in same)
  as-found outside at kept found_it of_it = absurd cc
  as-found not_found at kept found_it of_it = absurd cc

  pub as-outside : (read : Result B) → answer.Outside ≡ answered f read → Answers is answer.Outside read
  as-outside (found x) is_outside = absurd cc
  as-outside outside is_outside = tt
  as-outside not_found is_outside = absurd cc

  pub as-nowhere : (read : Result B) → answer.NotFound ≡ answered f read → Answers is answer.NotFound read
  as-nowhere (found x) nowhere = absurd cc
  as-nowhere outside nowhere = absurd cc
  as-nowhere not_found nowhere = tt
