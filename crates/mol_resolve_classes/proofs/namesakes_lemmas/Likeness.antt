-- Which types are equal: those of namesakes are compared with the first of them alone.
use Rattle.std.proofs.Common.{◌≡◌, Bool, true, false, cond, ◌&&◌, ◌||◌, not, ℕ, ◌<◌, ltb, ltb-false, le-ltb, List, [], ◌∷◌, filter, find, Some, option_map, is_some, refl, sym, ◌∙◌, ap, subst, arith, true≢false, nat_cmp, Less}
use Rattle.std.specs.List.{list_any, AllByRecursion}
use Rattle.std.specs.List.Sorted.{IsStrictlySortedBy}
use Rattle.std.specs.Option.{option_map_or}
use Rattle.std.specs.Ordering.{on}
use Rattle.std.proofs.lemmas.Cmp.{ranked}
use Rattle.jav_names.specs.StaticTypes.{SameType, same_type}
use Rattle.jav_names.specs.Views.{ViewType}
use Rattle.jav_names.proofs.EqualTypes.{one_type, same_type-decides}
use Rattle.jav_names.proofs.UnitsOrdered.{nat_cmp-IsKeyOrder}
use Rattle.mol_resolve_rules.specs.FaultLists.{same_types}

-- A test of two things that goes both ways and from one to the next; what is the same as nothing need not be the same as itself.
pub record IsLikeness {X : Type 0} (same : X → X → Bool) : Type 0 where
  pub back : (x y : X) → same x y ≡ true → same y x ≡ true
  pub next : (x y z : X) → same x y ≡ true → same y z ≡ true → same x z ≡ true

-- ---- types

back-type : {C : Type 0} (x y : ViewType C) → SameType x y → SameType y x
back-type x y SameType.same_primitive = SameType.same_primitive
back-type x y SameType.same_void = SameType.same_void
back-type x y SameType.same_class = SameType.same_class
back-type x y SameType.same_outside = SameType.same_outside
back-type x y (SameType.same_array {first = a} {second = b} same) = SameType.same_array (back-type a b same)

pub type-likeness : IsLikeness (same_type nat_cmp)
type-likeness = record {
  back = λ x y same. (same_type-decides nat_cmp nat_cmp-IsKeyOrder y x).1
      (back-type x y ((same_type-decides nat_cmp nat_cmp-IsKeyOrder x y).0 same));
  next = λ x y z first second. subst (λ w. same_type nat_cmp w z ≡ true)
      (sym (one_type x y ((same_type-decides nat_cmp nat_cmp-IsKeyOrder x y).0 first))) second;
}

both-true : (a b : Bool) → (a && b) ≡ true → (a ≡ true) × (b ≡ true)
both-true true true is = (refl, refl)
both-true true false is = absurd (true≢false (sym is))
both-true false b is = absurd (true≢false (sym is))

back-types : (xs ys : List (ViewType ℕ)) → same_types nat_cmp xs ys ≡ true → same_types nat_cmp ys xs ≡ true
back-types [] [] is = refl
back-types [] (y ∷ ys) is = absurd (true≢false (sym is))
back-types (x ∷ xs) [] is = absurd (true≢false (sym is))
back-types (x ∷ xs) (y ∷ ys) is =
    let both = both-true (same_type nat_cmp x y) (same_types nat_cmp xs ys) is in
    (λ i. type-likeness.back x y both.0 i && back-types xs ys both.1 i)

next-types : (xs ys zs : List (ViewType ℕ)) → same_types nat_cmp xs ys ≡ true → same_types nat_cmp ys zs ≡ true
    → same_types nat_cmp xs zs ≡ true
next-types [] [] zs first second = second
next-types [] (y ∷ ys) zs first second = absurd (true≢false (sym first))
next-types (x ∷ xs) [] zs first second = absurd (true≢false (sym first))
next-types (x ∷ xs) (y ∷ ys) [] first second = absurd (true≢false (sym second))
next-types (x ∷ xs) (y ∷ ys) (z ∷ zs) first second =
    let one = both-true (same_type nat_cmp x y) (same_types nat_cmp xs ys) first in
    let two = both-true (same_type nat_cmp y z) (same_types nat_cmp ys zs) second in
    (λ i. type-likeness.next x y z one.0 two.0 i && next-types xs ys zs one.1 two.1 i)

pub types-likeness : IsLikeness (same_types nat_cmp)
types-likeness = record { back = back-types; next = next-types }

pub on-likeness : {X Y : Type 0} (f : X → Y) (same : Y → Y → Bool) → IsLikeness same → IsLikeness (on f same)
on-likeness f same likeness = record {
  back = λ x y. likeness.back (f x) (f y);
  next = λ x y z. likeness.next (f x) (f y) (f z);
}

-- ---- lists

-- a test that holds of some and a test that finds the first of those
any-found : {X : Type 0} (p : X → Bool) (xs : List X) → list_any p xs ≡ is_some (find p xs)
any-found p [] = refl
any-found {X} p (x ∷ xs) = by_test (p x) (any-found p xs) where
  by_test : (b : Bool) → list_any p xs ≡ is_some (find p xs) → (b || list_any p xs) ≡ is_some (cond b (Some x) (find p xs))
  by_test true more = refl
  by_test false more = more

pub any-same : {X : Type 0} (p q : X → Bool) → ((x : X) → p x ≡ q x) → (xs : List X) → list_any p xs ≡ list_any q xs
any-same p q same [] = refl
any-same p q same (x ∷ xs) = λ i. same x i || any-same p q same xs i

-- those that pass a first test are asked for the second
pub any-filtered : {X : Type 0} (p q : X → Bool) (xs : List X) → list_any (λ x. p x && q x) xs ≡ list_any q (filter p xs)
any-filtered p q [] = refl
any-filtered {X} p q (x ∷ xs) = by_test (p x) (any-filtered p q xs) where
  by_test : (b : Bool) → list_any (λ x. p x && q x) xs ≡ list_any q (filter p xs)
      → ((b && q x) || list_any (λ x. p x && q x) xs) ≡ list_any q (cond b (x ∷ filter p xs) (filter p xs))
  by_test true more = ap (λ b. q x || b) more
  by_test false more = more

-- ---- against the first

module _ {X : Type 0} (same : X → X → Bool) (likeness : IsLikeness same) where
  -- what is the same as the first is told from others as the first is
  as_first : (first x : X) → same first x ≡ true → (y : X) → same y x ≡ same first y
  as_first first x is y = by (same y x) refl (same first y) refl where
    by : (a : Bool) → same y x ≡ a → (b : Bool) → same first y ≡ b → same y x ≡ same first y
    by true one true two = one ∙ sym two
    by true one false two =
        absurd (true≢false (sym (likeness.next first x y is (likeness.back y x one)) ∙ two))
    by false one true two =
        absurd (true≢false (sym (likeness.next y first x (likeness.back first y two) is) ∙ one))
    by false one false two = one ∙ sym two

  -- one of these differs from x just where the first does, or one differs from the first
  pub some-differ : (first : X) (rest : List X) (x : X) → list_any (λ y. not (same y x)) (first ∷ rest)
      ≡ (not (same first x) || is_some (find (λ y. not (same first y)) (first ∷ rest)))
  some-differ first rest x = by (same first x) refl where
    by : (b : Bool) → same first x ≡ b → list_any (λ y. not (same y x)) (first ∷ rest)
        ≡ (not b || is_some (find (λ y. not (same first y)) (first ∷ rest)))
    by true is = any-same (λ y. not (same y x)) (λ y. not (same first y)) (λ y. ap not (as_first first x is y)) (first ∷ rest)
        ∙ any-found (λ y. not (same first y)) (first ∷ rest)
    by false is = ap (λ b. not b || list_any (λ y. not (same y x)) rest) is

-- ---- before a place

module _ {X : Type 0} (place : X → ℕ) (p : ℕ) where
  abbrev pub is_before : X → Bool
  is_before x = ltb (place x) p

  -- after one that does not stand before the place none does
  none-before : (x : X) (xs : List X) → IsStrictlySortedBy (on place nat_cmp) (x ∷ xs) → is_before x ≡ false → filter is_before xs ≡ []
  unfolding IsStrictlySortedBy
  none-before x xs up late = by xs up.0 where
    by : (ys : List X) → AllByRecursion (λ y. nat_cmp (place x) (place y) ≡ Less) ys → filter is_before ys ≡ []
    by [] all = refl
    by (y ∷ ys) all =
        let after : place x < place y = ranked (place x) (place y) Less (sym all.0) in
        let no : is_before y ≡ false = le-ltb (place y) p (omega (arith, after, ltb-false (place x) p late)) in
        rw no (by ys all.1)

  -- the first that passes tells whether one does that stands before the place
  any-before : (q : X → Bool) (xs : List X) → IsStrictlySortedBy (on place nat_cmp) xs
      → list_any q (filter is_before xs) ≡ option_map_or (λ n. ltb n p) (option_map place (find q xs)) false
  unfolding IsStrictlySortedBy
  any-before q [] up = refl
  any-before q (x ∷ xs) up = by (q x) refl (is_before x) refl (any-before q xs up.1) where
    by : (passes : Bool) → q x ≡ passes → (early : Bool) → is_before x ≡ early
        → list_any q (filter is_before xs) ≡ option_map_or (λ n. ltb n p) (option_map place (find q xs)) false
        → list_any q (cond early (x ∷ filter is_before xs) (filter is_before xs))
        ≡ option_map_or (λ n. ltb n p) (option_map place (cond passes (Some x) (find q xs))) false
    by true passes true early more = ap (λ b. b || list_any q (filter is_before xs)) passes ∙ sym early
    by true passes false late more = ap (list_any q) (none-before x xs up late) ∙ sym late
    by false fails true early more = ap (λ b. b || list_any q (filter is_before xs)) fails ∙ more
    by false fails false late more = more

  module _ (same : X → X → Bool) (likeness : IsLikeness same) where
    pub some-differ_before : (first : X) (rest : List X) (x : X) → IsStrictlySortedBy (on place nat_cmp) (first ∷ rest)
        → is_before first ≡ true
        → list_any (λ y. not (same y x)) (filter is_before (first ∷ rest))
        ≡ (not (same first x)
        || option_map_or (λ n. ltb n p) (option_map place (find (λ y. not (same first y)) (first ∷ rest))) false)
    some-differ_before first rest x up early = by (same first x) refl where
      by : (b : Bool) → same first x ≡ b → list_any (λ y. not (same y x)) (filter is_before (first ∷ rest))
          ≡ (not b || option_map_or (λ n. ltb n p) (option_map place (find (λ y. not (same first y)) (first ∷ rest))) false)
      by true is =
          any-same (λ y. not (same y x)) (λ y. not (same first y)) (λ y. ap not (as_first same likeness first x is y))
          (filter is_before (first ∷ rest))
          ∙ any-before (λ y. not (same first y)) (first ∷ rest) up
      by false is =
          ap (λ b. list_any (λ y. not (same y x)) (cond b (first ∷ filter is_before rest) (filter is_before rest))) early
          ∙ ap (λ b. not b || list_any (λ y. not (same y x)) (filter is_before rest)) is

  pub none-differ_before : (q : X → Bool) (first : X) (rest : List X) → IsStrictlySortedBy (on place nat_cmp) (first ∷ rest)
      → is_before first ≡ false
      → list_any q (filter is_before (first ∷ rest)) ≡ false
  none-differ_before q first rest up late =
      ap (λ b. list_any q (cond b (first ∷ filter is_before rest) (filter is_before rest))) late
      ∙ ap (list_any q) (none-before first rest up late)

-- two filters in either order
pub filters-swap : {X : Type 0} (p q : X → Bool) (xs : List X) → filter p (filter q xs) ≡ filter q (filter p xs)
filters-swap p q [] = refl
filters-swap {X} p q (x ∷ xs) = by (p x) refl (q x) refl (filters-swap p q xs) where
  by : (a : Bool) → p x ≡ a → (b : Bool) → q x ≡ b → filter p (filter q xs) ≡ filter q (filter p xs)
      → filter p (cond b (x ∷ filter q xs) (filter q xs)) ≡ filter q (cond a (x ∷ filter p xs) (filter p xs))
  by true is-p true is-q more =
      ap (λ a. cond a (x ∷ filter p (filter q xs)) (filter p (filter q xs))) is-p ∙ ap (λ ys. x ∷ ys) more
      ∙ sym (ap (λ b. cond b (x ∷ filter q (filter p xs)) (filter q (filter p xs))) is-q)
  by true is-p false not-q more =
      more ∙ sym (ap (λ b. cond b (x ∷ filter q (filter p xs)) (filter q (filter p xs))) not-q)
  by false not-p true is-q more =
      ap (λ a. cond a (x ∷ filter p (filter q xs)) (filter p (filter q xs))) not-p ∙ more
  by false not-p false not-q more = more

-- what ascends still does with some left out
pub filtered-ascends : {X : Type 0} (place : X → ℕ) (p : X → Bool) (xs : List X) → IsStrictlySortedBy (on place nat_cmp) xs
    → IsStrictlySortedBy (on place nat_cmp) (filter p xs)
unfolding IsStrictlySortedBy
filtered-ascends place p [] up = up
filtered-ascends {X} place p (x ∷ xs) up = by (p x) (filtered-ascends place p xs up.1) where
  above : (ys : List X) → AllByRecursion (λ y. nat_cmp (place x) (place y) ≡ Less) ys
      → AllByRecursion (λ y. nat_cmp (place x) (place y) ≡ Less) (filter p ys)
  above [] all = all
  above (y ∷ ys) all = by_test (p y) (above ys all.1) where
    by_test : (b : Bool) → AllByRecursion (λ y. nat_cmp (place x) (place y) ≡ Less) (filter p ys)
        → AllByRecursion (λ y. nat_cmp (place x) (place y) ≡ Less) (cond b (y ∷ filter p ys) (filter p ys))
    by_test true more = (all.0, more)
    by_test false more = more

  by : (b : Bool) → IsStrictlySortedBy (on place nat_cmp) (filter p xs)
      → IsStrictlySortedBy (on place nat_cmp) (cond b (x ∷ filter p xs) (filter p xs))
  by true more = (above xs up.0, more)
  by false more = more
