-- A list that is sorted and stable is what insertion makes of it.
use Rattle.std.proofs.Common.{◌≡◌, ℕ, zero, suc, ◌<◌, ◌≤◌, Bool, true, false, cond, not, ◌&&◌, List, [], ◌∷◌, map, length, get_or, filter, Contains, refl, sym, ◌∙◌, ap, subst, arith, true≢false}
use Rattle.std.specs.Cmp.{IsStrictWeakOrder}
use Rattle.std.specs.List.Sorted.{IsSortedBy, IsStableBy, ties}
use Rattle.std.proofs.lemmas.List.Sorted.{sorted_far}
use Rattle.jav_names.proofs.Lists.{stands_first, stands_later}

-- each of these
abbrev pub AllOf : {X : Type 0} → (X → Type 0) → List X → Type 0
AllOf P [] = Unit {0}
AllOf P (x ∷ xs) = P x × AllOf P xs

pub all-more : {X : Type 0} {P Q : X → Type 0} → ((x : X) → P x → Q x) → (xs : List X) → AllOf P xs → AllOf Q xs
all-more more [] all = tt
all-more more (x ∷ xs) all = (more x all.0, all-more more xs all.1)

pub all-each : {X : Type 0} (P : X → Type 0) (xs : List X) → ((x : X) → Contains xs x → P x) → AllOf P xs
all-each P [] each = tt
all-each P (x ∷ xs) each = (each x (stands_first x xs), all-each P xs (λ y there. each y (stands_later x y xs there)))

-- none is less than one before it
abbrev pub Rises : {X : Type 0} → (X → X → Bool) → List X → Type 0
Rises lt [] = Unit {0}
Rises lt (x ∷ xs) = AllOf (λ y. lt y x ≡ false) xs × Rises lt xs

-- those that tie with it
abbrev pub tied : {X : Type 0} → (X → X → Bool) → X → List X → List X
tied lt x xs = filter (ties lt x) xs

module _ {X : Type 0} (lt : X → X → Bool) (order : IsStrictWeakOrder lt) where
  not_itself : (x : X) → lt x x ≡ false
  not_itself x = by (lt x x) refl where
    by : (b : Bool) → lt x x ≡ b → b ≡ false
    by true is = sym is ∙ order.one_way x x is
    by false is = refl

  ties-with : (x y : X) → lt x y ≡ false → lt y x ≡ false → ties lt x y ≡ true
  ties-with x y forth back = λ i. not (forth i) && not (back i)

  -- ---- what is sorted

  rises-above : (x : X) (xs : List X) → ((k : ℕ) (d : X) → k < length xs → lt (get_or xs k d) x ≡ false) → AllOf (λ y. lt y x ≡ false) xs
  rises-above x [] each = tt
  rises-above x (y ∷ xs) each = (each zero y (omega arith), rises-above x xs (λ k d below. each (suc k) d (omega (arith, below))))

  rises-far : (xs : List X) → ((i j : ℕ) (d : X) → i ≤ j → j < length xs → lt (get_or xs j d) (get_or xs i d) ≡ false) → Rises lt xs
  rises-far [] far = tt
  rises-far (x ∷ xs) far = (
    rises-above x xs (λ k d below. far zero (suc k) d (omega arith) (omega (arith, below))),
    rises-far xs (λ i j d from below. far (suc i) (suc j) d (omega (arith, from)) (omega (arith, below))),
  )

  pub sorted-rises : (xs : List X) → IsSortedBy lt xs → Rises lt xs
  sorted-rises xs up = rises-far xs (sorted_far lt order xs up)

  -- ---- one list

  -- what a filter keeps first is one of the list
  kept-first : (p : X → Bool) (ys : List X) (x : X) (rest : List X) → filter p ys ≡ x ∷ rest → (P : X → Type 0) → AllOf P ys → P x
  kept-first p [] x rest is P all = absurd cc
  kept-first p (y ∷ ys) x rest is P all = by (p y) is (λ is. kept-first p ys x rest is P all.1) where
    by : (b : Bool) → cond b (y ∷ filter p ys) (filter p ys) ≡ x ∷ rest → (filter p ys ≡ x ∷ rest → P x) → P x
    by true is later = let same : y ≡ x = cc in subst P same all.0
    by false is later = later is

  tied-first : (x : X) (xs : List X) → tied lt x (x ∷ xs) ≡ x ∷ tied lt x xs
  tied-first x xs = ap (λ b. cond b (x ∷ tied lt x xs) (tied lt x xs)) (ties-with x x (not_itself x) (not_itself x))

  -- two lists that rise, and have the same elements that tie in the same order, are one
  pub same-list : (xs ys : List X) → Rises lt xs → Rises lt ys → ((z : X) → tied lt z xs ≡ tied lt z ys) → xs ≡ ys
  same-list [] [] up_xs up_ys same = refl
  same-list [] (y ∷ ys) up_xs up_ys same = let is : [] ≡ y ∷ tied lt y ys = same y ∙ tied-first y ys in absurd cc
  same-list (x ∷ xs) [] up_xs up_ys same = let is : x ∷ tied lt x xs ≡ [] = sym (tied-first x xs) ∙ same x in absurd cc
  same-list (x ∷ xs) (y ∷ ys) up_xs up_ys same =
      let back : lt x y ≡ false =
      kept-first (ties lt x) (y ∷ ys) x (tied lt x xs) (sym (same x) ∙ tied-first x xs) (λ z. lt z y ≡ false) (not_itself y, up_ys.0) in
      let forth : lt y x ≡ false =
      kept-first (ties lt y) (x ∷ xs) y (tied lt y ys) (same y ∙ tied-first y ys) (λ z. lt z x ≡ false) (not_itself x, up_xs.0) in
      let firsts : x ∷ tied lt x xs ≡ y ∷ tied lt x ys =
      sym (tied-first x xs) ∙ same x ∙ ap (λ b. cond b (y ∷ tied lt x ys) (tied lt x ys)) (ties-with x y back forth) in
      let first : x ≡ y = cc in
      λ i. first i ∷ same-list xs ys up_xs.1 up_ys.1 (λ z. rest z (ties lt z x) (same z ∙ ap (λ w. tied lt z (w ∷ ys)) (sym first))) i where
        rest : (z : X) (b : Bool) → cond b (x ∷ tied lt z xs) (tied lt z xs) ≡ cond b (x ∷ tied lt z ys) (tied lt z ys)
            → tied lt z xs ≡ tied lt z ys
        rest z true is = cc
        rest z false is = is

  -- ---- insertion

  -- of two that do not tie, which comes first is no matter to the filter
  pub exchanged : (z x y : X) (xs : List X) → lt y x ≡ true → tied lt z (y ∷ x ∷ xs) ≡ tied lt z (x ∷ y ∷ xs)
  exchanged z x y xs less = by (ties lt z x) refl (ties lt z y) refl where
    by : (first : Bool) → ties lt z x ≡ first → (second : Bool) → ties lt z y ≡ second
        → cond second (y ∷ cond first (x ∷ tied lt z xs) (tied lt z xs)) (cond first (x ∷ tied lt z xs) (tied lt z xs))
        ≡ cond first (x ∷ cond second (y ∷ tied lt z xs) (tied lt z xs)) (cond second (y ∷ tied lt z xs) (tied lt z xs))
    by true is_first true is_second = absurd (true≢false (sym less ∙ order.chain y z x (back is_second) (forth is_first))) where
      both : (b c : Bool) → (not b && not c) ≡ true → (b ≡ false) × (c ≡ false)
      both true c is = absurd (true≢false (sym is))
      both false true is = absurd (true≢false (sym is))
      both false false is = (refl, refl)

      back : ties lt z y ≡ true → lt y z ≡ false
      back is = (both (lt z y) (lt y z) is).1

      forth : ties lt z x ≡ true → lt z x ≡ false
      forth is = (both (lt z x) (lt x z) is).0
    by true is_first false is_second = refl
    by false is_first true is_second = refl
    by false is_first false is_second = refl
