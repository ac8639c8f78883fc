-- Rows in order, made into what is ordered as they are.
use Rattle.std.proofs.Common.{◌≡◌, List, [], ◌∷◌, map, ◌∙◌}
use Rattle.std.specs.List.{AllByRecursion}
use Rattle.std.specs.List.Sorted.{IsStrictlySortedBy}
use Rattle.std.specs.declared.cmp.Ordering.{Ordering}
use Rattle.std.specs.declared.cmp.Ordering.TheVariants.{Less}

module _ {X Y : Type 0} (by : X → X → Ordering) (cmp : Y → Y → Ordering) (make : X → Y)
    (same : (x y : X) → cmp (make x) (make y) ≡ by x y) where
  all-less : (x : X) (xs : List X) → AllByRecursion (λ y. by x y ≡ Less) xs → AllByRecursion (λ y. cmp (make x) y ≡ Less) (map make xs)
  all-less x [] less = tt
  all-less x (y ∷ ys) less = (same x y ∙ less.0, all-less x ys less.1)

  pub sorted-mapped : (xs : List X) → IsStrictlySortedBy by xs → IsStrictlySortedBy cmp (map make xs)
  unfolding IsStrictlySortedBy
  sorted-mapped [] sorted = tt
  sorted-mapped (x ∷ xs) sorted = (all-less x xs sorted.0, sorted-mapped xs sorted.1)
