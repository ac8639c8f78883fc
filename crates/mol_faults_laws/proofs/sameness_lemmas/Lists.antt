-- Lists that are gone through by functions that agree on their items.
use Rattle.std.proofs.Common.{Bool, Contains, List, Option, Some, [], ap, cond, false, inl, inr, refl, subst, sym, true, true≢false, ◌++◌, ◌||◌, ◌∙◌, ◌∷◌, ◌≡◌, ◌⊎◌}
use Rattle.std.specs.List.{AllByRecursion, cons_option, filter, filter_map, find, flat_map, list_all, list_any}
use Rattle.std.specs.Prelude.{map, ◌&&◌}
use Rattle.jav_names.proofs.Lists.{stands_first, stands_later, stands_where, stands_nowhere}
use Rattle.mol_table_rules.proofs.TidyRules.{and-both}

module _ {X Y : Type 0} where
  pub filter_map-same : (f g : X → Option Y) (xs : List X) → ((x : X) → Contains xs x → f x ≡ g x) → filter_map f xs ≡ filter_map g xs
  filter_map-same f g [] same = refl
  filter_map-same f g (x ∷ xs) same =
      let first = same x (stands_first x xs) in
      let rest = filter_map-same f g xs (λ y stands. same y (stands_later x y xs stands)) in
      λ i. cons_option (first i) (rest i)

  pub map-same : (f g : X → Y) (xs : List X) → ((x : X) → Contains xs x → f x ≡ g x) → map f xs ≡ map g xs
  map-same f g [] same = refl
  map-same f g (x ∷ xs) same =
      let first = same x (stands_first x xs) in
      let rest = map-same f g xs (λ y stands. same y (stands_later x y xs stands)) in
      λ i. first i ∷ rest i

  pub flat_map-same : (f g : X → List Y) (xs : List X) → ((x : X) → Contains xs x → f x ≡ g x) → flat_map f xs ≡ flat_map g xs
  flat_map-same f g [] same = refl
  flat_map-same f g (x ∷ xs) same =
      let first = same x (stands_first x xs) in
      let rest = flat_map-same f g xs (λ y stands. same y (stands_later x y xs stands)) in
      λ i. first i ++ rest i

module _ {X : Type 0} where
  pub list_any-same : (p q : X → Bool) (xs : List X) → ((x : X) → Contains xs x → p x ≡ q x) → list_any p xs ≡ list_any q xs
  list_any-same p q [] same = refl
  list_any-same p q (x ∷ xs) same =
      let first = same x (stands_first x xs) in
      let rest = list_any-same p q xs (λ y stands. same y (stands_later x y xs stands)) in
      λ i. first i || rest i

  pub list_all-same : (p q : X → Bool) (xs : List X) → ((x : X) → Contains xs x → p x ≡ q x) → list_all p xs ≡ list_all q xs
  list_all-same p q [] same = refl
  list_all-same p q (x ∷ xs) same =
      let first = same x (stands_first x xs) in
      let rest = list_all-same p q xs (λ y stands. same y (stands_later x y xs stands)) in
      λ i. first i && rest i

  pub filter-same : (p q : X → Bool) (xs : List X) → ((x : X) → Contains xs x → p x ≡ q x) → filter p xs ≡ filter q xs
  filter-same p q [] same = refl
  filter-same p q (x ∷ xs) same =
      let first = same x (stands_first x xs) in
      let rest = filter-same p q xs (λ y stands. same y (stands_later x y xs stands)) in
      λ i. cond (first i) (x ∷ rest i) (rest i)

  pub find-same : (p q : X → Bool) (xs : List X) → ((x : X) → Contains xs x → p x ≡ q x) → find p xs ≡ find q xs
  find-same p q [] same = refl
  find-same p q (x ∷ xs) same =
      let first = same x (stands_first x xs) in
      let rest = find-same p q xs (λ y stands. same y (stands_later x y xs stands)) in
      λ i. cond (first i) (Some x) (rest i)

-- ---- tests of lists

module _ {X : Type 0} where
  pub any-found : (p : X → Bool) (xs : List X) → list_any p xs ≡ true → (x : X) × Contains xs x × (p x ≡ true)
  any-found p [] is = absurd (true≢false (sym is))
  any-found p (x ∷ xs) is = by (p x) refl is (any-found p xs) where
    by : (b : Bool) → p x ≡ b → (b || list_any p xs) ≡ true → (list_any p xs ≡ true → (y : X) × Contains xs y × (p y ≡ true))
        → (y : X) × Contains (x ∷ xs) y × (p y ≡ true)
    by true passes any more = (x, stands_first x xs, passes)
    by false fails any more = let later = more any in (later.0, stands_later x later.0 xs later.1, later.2)

  pub any-stands : (p : X → Bool) (xs : List X) (x : X) → Contains xs x → p x ≡ true → list_any p xs ≡ true
  any-stands p [] x stands is = absurd (stands_nowhere x stands)
  any-stands p (y ∷ xs) x stands is = by (stands_where y x xs stands) (λ later. any-stands p xs x later is) where
    or-true : (b : Bool) → (b || true) ≡ true
    or-true true = refl
    or-true false = refl

    by : (y ≡ x) ⊎ Contains xs x → (Contains xs x → list_any p xs ≡ true) → (p y || list_any p xs) ≡ true
    by (inl same) more = ap (λ b. b || list_any p xs) (ap p same ∙ is)
    by (inr later) more = ap (λ b. p y || b) (more later) ∙ or-true (p y)

  pub all-of-each : (P : X → Type 0) (xs : List X) → ((x : X) → Contains xs x → P x) → AllByRecursion P xs
  all-of-each P [] each = tt {0}
  all-of-each P (x ∷ xs) each = (each x (stands_first x xs), all-of-each P xs (λ y stands. each y (stands_later x y xs stands)))

  pub each-of-all : (P : X → Type 0) (xs : List X) → AllByRecursion P xs → (x : X) → Contains xs x → P x
  each-of-all P [] all x stands = absurd (stands_nowhere x stands)
  each-of-all P (y ∷ xs) all x stands = by (stands_where y x xs stands) (each-of-all P xs all.1 x) where
    by : (y ≡ x) ⊎ Contains xs x → (Contains xs x → P x) → P x
    by (inl same) more = subst P same all.0
    by (inr later) more = more later

  pub passed-by-each : (p : X → Bool) (xs : List X) → list_all p xs ≡ true → (x : X) → Contains xs x → p x ≡ true
  passed-by-each p [] is x stands = absurd (stands_nowhere x stands)
  passed-by-each p (y ∷ xs) is x stands =
      let parts = and-both (p y) (list_all p xs) is in by (stands_where y x xs stands) parts.0 (passed-by-each p xs parts.1 x) where
        by : (y ≡ x) ⊎ Contains xs x → p y ≡ true → (Contains xs x → p x ≡ true) → p x ≡ true
        by (inl same) own more = subst (λ z. p z ≡ true) same own
        by (inr later) own more = more later

  pub found-item : (p : X → Bool) (xs : List X) (x : X) → find p xs ≡ Some x → Contains xs x × (p x ≡ true)
  found-item p [] x is = absurd cc
  found-item p (y ∷ xs) x is = by (p y) refl is (found-item p xs x) where
    by : (b : Bool) → p y ≡ b → cond b (Some y) (find p xs) ≡ Some x → (find p xs ≡ Some x → Contains xs x × (p x ≡ true))
        → Contains (y ∷ xs) x × (p x ≡ true)
    by true passes is more = let same : y ≡ x = cc in (
      subst (Contains (y ∷ xs)) same (stands_first y xs),
      subst
          (λ z. p z ≡ true) same passes,
    )
    by false fails is more = let later = more is in (stands_later y x xs later.0, later.1)
