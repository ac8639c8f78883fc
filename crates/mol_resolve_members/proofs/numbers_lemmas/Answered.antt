-- What answers of look-ups say of what is found.
use Rattle.std.proofs.Common.{◌≡◌, Bool, true, false, Option, Some, None, option_map, refl, ap}
use Rattle.jav_scope.specs.Answers.{answered}
use Rattle.jav_scope.specs.declared.found.Found.TheVariants as answer
use Rattle.jav_names.specs.LookUps.{found_or}

module _ {X Y : Type 0} (f : X → Y) where
  pub found-is : (o : Option X) (is_outside : Bool) (y : Y) → answer.Found y ≡ answered f (found_or o is_outside) → Some y ≡ option_map f o
  found-is (Some x) is_outside y is = let same : y ≡ f x = cc in ap (λ y. Some y) same
  found-is None true y is = absurd cc
  found-is None false y is = absurd cc

  pub outside-is : (o : Option X) (is_outside : Bool) → answer.Outside ≡ answered f (found_or o is_outside) → None ≡ option_map f o
  outside-is (Some x) is_outside is = absurd cc
  outside-is None is_outside is = refl

  pub nowhere-is : (o : Option X) (is_outside : Bool) → answer.NotFound ≡ answered f (found_or o is_outside) → None ≡ option_map f o
  nowhere-is (Some x) is_outside is = absurd cc
  nowhere-is None is_outside is = refl

-- and what was mapped
pub from-some : {X Y : Type 0} (f : X → Y) (o : Option X) (y : Y) → Some y ≡ option_map f o → (x : X) × (o ≡ Some x) × (y ≡ f x)
from-some f None y is = absurd cc
from-some f (Some x) y is = let same : y ≡ f x = cc in (x, refl, same)

pub from-none : {X Y : Type 0} (f : X → Y) (o : Option X) → None ≡ option_map f o → o ≡ None
from-none f None is = refl
from-none f (Some x) is = absurd cc

pub mapped-itself : {X : Type 0} (o : Option X) → option_map (λ x. x) o ≡ o
mapped-itself None = refl
mapped-itself (Some x) = refl
