-- What stands in a list, the first that passes a test, and the one of least key in a list that ascends.
use Rattle.std.proofs.Common.{◌≡◌, ◌≢◌, ◌⊎◌, inl, inr, ℕ, zero, suc, ◌<◌, Bool, true, false, cond, ◌||◌, List, [], ◌∷◌, map, length, get_or, Option, Some, None, All, Contains, find, refl, sym, ◌∙◌, ap, subst, arith, true≢false, Ordering, Less, Equal, Greater}
use Rattle.std.specs.Bool.{Decides}
use Rattle.std.specs.List.{list_any}
use Rattle.std.specs.List.Sorted.{IsStrictlySortedBy}
use Rattle.std.specs.Ordering.{ordering_reverse, on}
use Rattle.std.proofs.lemmas.Bool.{false_from_ne_true}
use Rattle.std.proofs.lemmas.Cmp.{tied_itself}
use Rattle.std.proofs.lemmas.List.Elements.{All-nil, All-cons, All-contains, All-from_recursion}
use Rattle.jav_names.specs.Choices.{IsLeast, HoldsOfNone}
use Rattle.jav_names.specs.Views.{IsKeyOrder}

-- ---- what stands in a list

pub stands_first : {X : Type 0} (x : X) (xs : List X) → Contains (x ∷ xs) x
stands_first x xs = (zero, omega arith, refl)

pub stands_later : {X : Type 0} (x y : X) (xs : List X) → Contains xs y → Contains (x ∷ xs) y
stands_later x y xs h = (suc h.0, omega (arith, h.1), h.2)

pub stands_where : {X : Type 0} (x y : X) (xs : List X) → Contains (x ∷ xs) y → (x ≡ y) ⊎ Contains xs y
stands_where {X} x y xs h = by_place h.0 h.1 h.2 where
  by_place : (k : ℕ) → k < length (x ∷ xs) → get_or (x ∷ xs) k y ≡ y → (x ≡ y) ⊎ Contains xs y
  by_place zero below is = inl is
  by_place (suc k) below is = inr (k, omega (arith, below), is)

pub stands_nowhere : {X : Type 0} (y : X) → ¬ Contains [] y
stands_nowhere y h = omega (arith, h.1)

pub stands-mapped : {X Y : Type 0} (make : X → Y) (xs : List X) (x : X) → Contains xs x → Contains (map make xs) (make x)
stands-mapped make [] x of-x = absurd (stands_nowhere x of-x)
stands-mapped {X} {Y} make (y ∷ xs) x of-x = by_place (stands_where y x xs of-x) (stands-mapped make xs x) where
  by_place : (y ≡ x) ⊎ Contains xs x → (Contains xs x → Contains (map make xs) (make x)) → Contains (map make (y ∷ xs)) (make x)
  by_place (inl same) more = subst (λ z. Contains (make y ∷ map make xs) (make z)) same (stands_first (make y) (map make xs))
  by_place (inr later) more = stands_later (make y) (make x) (map make xs) (more later)

-- P holds of all where it holds of each that stands there
pub All-from_each : {X : Type 0} (P : X → Type 0) (xs : List X) → ((x : X) → Contains xs x → P x) → All P xs
All-from_each P [] each = All-nil P
All-from_each P (x ∷ xs) each = All-cons P x xs (each x (stands_first x xs)) (All-from_each P xs (λ y h. each y (stands_later x y xs h)))

-- ---- tests

-- a test of a fact fails where the fact does not hold, and the other way round
pub Decides-not : {b : Bool} {P : Type 0} → Decides b P → b ≡ false → ¬ P
Decides-not d is p = true≢false (sym (d.1 p) ∙ is)

pub Decides-fails : {b : Bool} {P : Type 0} → Decides b P → ¬ P → b ≡ false
Decides-fails {b} d not = false_from_ne_true b (λ is. not (d.0 is))

module _ {X : Type 0} (P : X → Type 0) (p : X → Bool) (tests : (x : X) → Decides (p x) (P x)) where
  -- some element passes exactly where the fact holds of one
  pub list_any-found : (xs : List X) → list_any p xs ≡ true → (x : X) × Contains xs x × P x
  list_any-found [] is = absurd (true≢false (sym is))
  list_any-found (x ∷ xs) is = by_test (p x) refl is (list_any-found xs) where
    by_test : (b : Bool) → p x ≡ b → (b || list_any p xs) ≡ true → (list_any p xs ≡ true → (y : X) × Contains xs y × P y)
        → (y : X) × Contains (x ∷ xs) y × P y
    by_test true passes any more = (x, stands_first x xs, (tests x).0 passes)
    by_test false fails any more = let later = more any in (later.0, stands_later x later.0 xs later.1, later.2)

  pub list_any-none : (xs : List X) → list_any p xs ≡ false → HoldsOfNone P xs
  list_any-none [] is = All-nil (λ z. ¬ P z)
  list_any-none (x ∷ xs) is = by_test (p x) refl is (list_any-none xs) where
    by_test : (b : Bool) → p x ≡ b → (b || list_any p xs) ≡ false → (list_any p xs ≡ false → HoldsOfNone P xs) → HoldsOfNone P (x ∷ xs)
    by_test true passes any more = absurd (true≢false any)
    by_test false fails any more = All-cons (λ z. ¬ P z) x xs (Decides-not (tests x) fails) (more any)

  pub list_any-decides : (xs : List X) → Decides (list_any p xs) ((x : X) × Contains xs x × P x)
  list_any-decides xs = (list_any-found xs, λ some. at (list_any p xs) refl some) where
    at : (b : Bool) → list_any p xs ≡ b → (x : X) × Contains xs x × P x → b ≡ true
    at true is some = refl
    at false is some = absurd (All-contains (λ z. ¬ P z) xs some.0 (list_any-none xs is) some.1 some.2)

  -- the first that passes
  pub find-found : (xs : List X) (x : X) → find p xs ≡ Some x → Contains xs x × P x
  find-found [] x is = absurd cc
  find-found (y ∷ xs) x is = by_test (p y) refl is (find-found xs x) where
    by_test : (b : Bool) → p y ≡ b → cond b (Some y) (find p xs) ≡ Some x → (find p xs ≡ Some x → Contains xs x × P x)
        → Contains (y ∷ xs) x × P x
    by_test true passes is more =
        let same : y ≡ x = cc in subst (λ z. Contains (y ∷ xs) z × P z) same (stands_first y xs, (tests y).0 passes)
    by_test false fails is more = let later = more is in (stands_later y x xs later.0, later.1)

  pub find-none : (xs : List X) → find p xs ≡ None → HoldsOfNone P xs
  find-none [] is = All-nil (λ z. ¬ P z)
  find-none (y ∷ xs) is = by_test (p y) refl is (find-none xs) where
    by_test : (b : Bool) → p y ≡ b → cond b (Some y) (find p xs) ≡ None → (find p xs ≡ None → HoldsOfNone P xs) → HoldsOfNone P (y ∷ xs)
    by_test true passes is more = absurd cc
    by_test false fails is more = All-cons (λ z. ¬ P z) y xs (Decides-not (tests y) fails) (more is)

  pub find-holds_of_none : (xs : List X) → HoldsOfNone P xs → find p xs ≡ None
  find-holds_of_none xs none = at (find p xs) refl where
    at : (o : Option X) → find p xs ≡ o → o ≡ None
    at None is = refl
    at (Some x) is = let found = find-found xs x is in absurd (All-contains (λ z. ¬ P z) xs x none found.0 found.1)

-- ---- keys

module _ {X K : Type 0} (cmp : K → K → Ordering) (key : X → K) (order : IsKeyOrder cmp) where
  -- what comes later in a list that ascends has a greater key
  pub less-later : (x y : X) (xs : List X) → IsStrictlySortedBy (on key cmp) (x ∷ xs) → Contains xs y → cmp (key x) (key y) ≡ Less
  unfolding IsStrictlySortedBy
  less-later x y xs up h =
      All-contains (λ z. cmp (key x) (key z) ≡ Less) xs y (All-from_recursion (λ z. cmp (key x) (key z) ≡ Less) xs up.0) h

  pub ascending-rest : (x : X) (xs : List X) → IsStrictlySortedBy (on key cmp) (x ∷ xs) → IsStrictlySortedBy (on key cmp) xs
  unfolding IsStrictlySortedBy
  ascending-rest x xs up = up.1

  not-back : (a b : K) → cmp a b ≡ Less → cmp b a ≢ Less
  not-back a b up down = absurd (less_not (cmp b a) (sym (order.total.antisymm a b) ∙ up) down) where
    less_not : (o : Ordering) → ordering_reverse o ≡ Less → o ≡ Less → ⊥
    less_not Less back is = absurd cc
    less_not Equal back is = absurd cc
    less_not Greater back is = absurd cc

  -- an element of a list that ascends is told by its key
  pub one_of_key : (xs : List X) (x y : X) → IsStrictlySortedBy (on key cmp) xs → Contains xs x → Contains xs y → key x ≡ key y → x ≡ y
  one_of_key [] x y up of-x of-y same = absurd (stands_nowhere x of-x)
  one_of_key (z ∷ xs) x y up of-x of-y same =
      by_place (stands_where z x xs of-x) (stands_where z y xs of-y)
      (λ later-x later-y. one_of_key xs x y (ascending-rest z xs up) later-x later-y same) where
        apart : (w : X) → Contains xs w → key z ≡ key w → ⊥
        apart w later same = less_equal (cmp (key z) (key w)) (less-later z w xs up later)
            (ap (cmp (key z)) (sym same) ∙ tied_itself order.total (key z)) where
              less_equal : (o : Ordering) → o ≡ Less → o ≡ Equal → ⊥
              less_equal o less equal = absurd cc

        by_place : (z ≡ x) ⊎ Contains xs x → (z ≡ y) ⊎ Contains xs y → (Contains xs x → Contains xs y → x ≡ y) → x ≡ y
        by_place (inl is-x) (inl is-y) more = sym is-x ∙ is-y
        by_place (inl is-x) (inr later) more = absurd (apart y later (ap key is-x ∙ same))
        by_place (inr later) (inl is-y) more = absurd (apart x later (ap key is-y ∙ sym same))
        by_place (inr later-x) (inr later-y) more = more later-x later-y

  -- two keys that are not less than each other are one
  pub neither_less : (a b : K) → cmp a b ≢ Less → cmp b a ≢ Less → a ≡ b
  neither_less a b up down = by_order (cmp a b) refl where
    by_order : (o : Ordering) → cmp a b ≡ o → a ≡ b
    by_order Less is = absurd (up is)
    by_order Equal is = order.same a b is
    by_order Greater is = absurd (down (order.total.antisymm b a ∙ ap ordering_reverse is))

  module _ (P : X → Type 0) where
    -- there is at most one of least key
    pub least-one : (xs : List X) (x y : X) → IsStrictlySortedBy (on key cmp) xs → IsLeast cmp key P xs x → IsLeast cmp key P xs y → x ≡ y
    least-one xs x y up least-x least-y = one_of_key xs x y up least-x.here least-y.here
        (neither_less (key x) (key y)
        (All-contains (λ z. P z → cmp (key z) (key y) ≢ Less) xs x least-y.none_less least-x.here least-x.holds)
        (All-contains (λ z. P z → cmp (key z) (key x) ≢ Less) xs y least-x.none_less least-y.here least-y.holds))

    module _ (p : X → Bool) (tests : (x : X) → Decides (p x) (P x)) where
      -- nothing that passes comes before the first that passes
      first-least : (xs : List X) (x y : X) → IsStrictlySortedBy (on key cmp) xs → find p xs ≡ Some x → Contains xs y → P y
          → cmp (key y) (key x) ≢ Less
      first-least [] x y up is of-y holds = absurd (stands_nowhere y of-y)
      first-least (z ∷ xs) x y up is of-y holds =
          by_test (p z) refl is (stands_where z y xs of-y) (first-least xs x y (ascending-rest z xs up)) where
            at_head : z ≡ x → (z ≡ y) ⊎ Contains xs y → cmp (key y) (key x) ≢ Less
            at_head same (inl is-y) =
                λ less. less_equal (cmp (key y) (key x)) less
                (ap (λ w. cmp (key y) (key w)) (sym same ∙ is-y) ∙ tied_itself order.total (key y)) where
                  less_equal : (o : Ordering) → o ≡ Less → o ≡ Equal → ⊥
                  less_equal o less equal = absurd cc
            at_head same (inr later) = subst (λ w. cmp (key y) (key w) ≢ Less) same (not-back (key z) (key y) (less-later z y xs up later))

            by_test : (b : Bool) → p z ≡ b → cond b (Some z) (find p xs) ≡ Some x → (z ≡ y) ⊎ Contains xs y
                → (find p xs ≡ Some x → Contains xs y → P y → cmp (key y) (key x) ≢ Less) → cmp (key y) (key x) ≢ Less
            by_test true passes is where-y more = at_head (let same : z ≡ x = cc in same) where-y
            by_test false fails is (inl is-y) more = absurd (Decides-not (tests z) fails (subst P (sym is-y) holds))
            by_test false fails is (inr later) more = more is later holds

      -- the first that passes has the least key of those that do
      pub find-least : (xs : List X) (x : X) → IsStrictlySortedBy (on key cmp) xs → find p xs ≡ Some x → IsLeast cmp key P xs x
      find-least xs x up is = record {
        here = (find-found P p tests xs x is).0;
        holds = (find-found P p tests xs x is).1;
        none_less = All-from_each (λ y. P y → cmp (key y) (key x) ≢ Less) xs (λ y of-y holds. first-least xs x y up is of-y holds);
      }

      -- and the one of least key is found
      pub least-find : (xs : List X) (x : X) → IsStrictlySortedBy (on key cmp) xs → IsLeast cmp key P xs x → find p xs ≡ Some x
      least-find xs x up least = at (find p xs) refl where
        at : (o : Option X) → find p xs ≡ o → o ≡ Some x
        at None is = absurd (All-contains (λ z. ¬ P z) xs x (find-none P p tests xs is) least.here least.holds)
        at (Some y) is = ap (λ z. Some z) (least-one xs y x up (find-least xs y up is) least)
