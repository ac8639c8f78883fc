-- What is found from the superclass up.
use Rattle.std.proofs.Common.{◌≡◌, Bool, true, false, ◌||◌, Option, Some, None, refl, ap}
use Rattle.jav_scope.specs.Answers.{answered, or_of_object}
use Rattle.jav_scope.specs.declared.found.Found.TheVariants as answer
use Rattle.jav_names.specs.LookUps.{found_or, found_above}
use Rattle.jav_names.specs.Views.{Found}

module _ {C X R : Type 0} (key : X → R) (look : C → Found X) where
  pub from-above : (o : Option C) (b : Bool) (above : C) → answer.Found above ≡ answered (λ (class : C). class) (found_or o b)
      → (flag : Bool) → answered key (look above) ≡ answered key (found_above o look flag)
  from-above (Some class) b above is flag = ap (λ c. answered key (look c)) (let same : above ≡ class = cc in same)
  from-above None true above is flag = absurd cc
  from-above None false above is flag = absurd cc

  pub from-outside : (o : Option C) (b : Bool) → answer.Outside ≡ answered (λ (class : C). class) (found_or o b)
      → answer.Outside ≡ answered key (found_above o look b)
  from-outside (Some class) b is = absurd cc
  from-outside None true is = refl
  from-outside None false is = absurd cc

  pub from-outside-or : (o : Option C) (b : Bool) → answer.Outside ≡ answered (λ (class : C). class) (found_or o b) → (other : Bool)
      → answer.Outside ≡ answered key (found_above o look (b || other))
  from-outside-or (Some class) b is other = absurd cc
  from-outside-or None true is other = refl
  from-outside-or None false is other = absurd cc

  pub from-nothing : (o : Option C) (b : Bool) → answer.NotFound ≡ answered (λ (class : C). class) (found_or o b)
      → answer.NotFound ≡ answered key (found_above o look b)
  from-nothing (Some class) b is = absurd cc
  from-nothing None true is = absurd cc
  from-nothing None false is = refl

  pub from-nothing-or : (o : Option C) (b : Bool) → answer.NotFound ≡ answered (λ (class : C). class) (found_or o b) → (other : Bool)
      → or_of_object {A = R} other answer.NotFound ≡ answered key (found_above o look (b || other))
  from-nothing-or (Some class) b is other = absurd cc
  from-nothing-or None true is other = absurd cc
  from-nothing-or None false is true = refl
  from-nothing-or None false is false = refl
