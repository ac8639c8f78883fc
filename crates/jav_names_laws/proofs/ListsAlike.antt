-- What is found in two lists that have the same elements.
use Rattle.std.proofs.Common.{◌≡◌, Bool, true, false, cond, ◌||◌, List, [], ◌∷◌, map, Option, Some, None, option_map, Contains, find, refl, sym, ◌∙◌, ap}
use Rattle.std.specs.List.{list_any}
use Rattle.std.proofs.lemmas.List.Elements.{All-contains}
use Rattle.jav_names.proofs.Lists.{list_any-decides, find-found, find-none}

-- ---- one list is the other with something made of each

module _ {X Y : Type 0} (make : X → Y) (p : X → Bool) (q : Y → Bool) (same : (x : X) → p x ≡ q (make x)) where
  pub any-mapped : (xs : List X) → list_any p xs ≡ list_any q (map make xs)
  any-mapped [] = refl
  any-mapped (x ∷ xs) = λ i. same x i || any-mapped xs i

  pub find-mapped : (xs : List X) → option_map make (find p xs) ≡ find q (map make xs)
  find-mapped [] = refl
  find-mapped (x ∷ xs) = by_test (p x) ∙ (λ i. cond (same x i) (Some (make x)) (find-mapped xs i)) where
    by_test : (b : Bool) → option_map make (cond b (Some x) (find p xs)) ≡ cond b (Some (make x)) (option_map make (find p xs))
    by_test true = refl
    by_test false = refl

-- ---- the elements are the same, in any order

module _ {X Y : Type 0} (make : X → Y) (p : X → Bool) (q : Y → Bool) (xs : List X) (ys : List Y)
    (there : (x : X) → Contains xs x → Contains ys (make x))
    (back : (y : Y) → Contains ys y → (x : X) × Contains xs x × (make x ≡ y))
    (same : (x : X) → p x ≡ q (make x)) where
  found-here : (x : X) → find p xs ≡ Some x → Contains xs x × (p x ≡ true)
  found-here = find-found (λ x. p x ≡ true) p (λ x. (λ is. is, λ is. is)) xs

  found-there : (y : Y) → find q ys ≡ Some y → Contains ys y × (q y ≡ true)
  found-there = find-found (λ y. q y ≡ true) q (λ y. (λ is. is, λ is. is)) ys

  none-here : find p xs ≡ None → (x : X) → Contains xs x → p x ≡ true → ⊥
  none-here none x = All-contains (λ x. ¬ (p x ≡ true)) xs x (find-none (λ x. p x ≡ true) p (λ x. (λ is. is, λ is. is)) xs none)

  none-there : find q ys ≡ None → (y : Y) → Contains ys y → q y ≡ true → ⊥
  none-there none y = All-contains (λ y. ¬ (q y ≡ true)) ys y (find-none (λ y. q y ≡ true) q (λ y. (λ is. is, λ is. is)) ys none)

  -- where at most one passes, that is found in both
  pub find-alike : ((first second : Y) → Contains ys first → Contains ys second → q first ≡ true → q second ≡ true → first ≡ second)
      → option_map make (find p xs) ≡ find q ys
  find-alike apart = by (find p xs) refl (find q ys) refl where
    by : (o : Option X) → find p xs ≡ o → (r : Option Y) → find q ys ≡ r → option_map make o ≡ r
    by None none None missing = refl
    by (Some x) is None missing =
        let found = found-here x is in
        absurd (none-there missing (make x) (there x found.0) (sym (same x) ∙ found.1))
    by None none (Some y) is =
        let found = found-there y is in
        let from = back y found.0 in
        absurd (none-here none from.0 from.1 (same from.0 ∙ ap q from.2 ∙ found.1))
    by (Some x) is (Some y) are =
        let here = found-here x is in
        let found = found-there y are in
        ap (λ z. Some z) (apart (make x) y (there x here.0) found.0 (sym (same x) ∙ here.1) found.1)

  pub any-alike : list_any p xs ≡ list_any q ys
  any-alike = by (list_any p xs) refl (list_any q ys) refl where
    by : (a : Bool) → list_any p xs ≡ a → (b : Bool) → list_any q ys ≡ b → a ≡ b
    by true is true are = refl
    by false is false are = refl
    by true is false are =
        let found = (list_any-decides (λ x. p x ≡ true) p (λ x. (λ is. is, λ is. is)) xs).0 is in
        sym ((list_any-decides (λ y. q y ≡ true) q (λ y. (λ is. is, λ is. is)) ys).1
        (make found.0, there found.0 found.1, sym (same found.0) ∙ found.2)) ∙ are
    by false is true are =
        let found = (list_any-decides (λ y. q y ≡ true) q (λ y. (λ is. is, λ is. is)) ys).0 are in
        let from = back found.0 found.1 in
        sym is ∙ (list_any-decides (λ x. p x ≡ true) p (λ x. (λ is. is, λ is. is)) xs).1
        (from.0, from.1, same from.0 ∙ ap q from.2 ∙ found.2)
