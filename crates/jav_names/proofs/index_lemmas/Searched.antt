-- What a search finds in a list that is sorted, and in one before and after a stable sort.
use Rattle.std.proofs.Common.{◌≡◌, ◌⊎◌, inl, inr, ℕ, zero, suc, ◌<◌, ◌≤◌, Bool, true, false, cond, not, ◌&&◌, ◌||◌, List, [], ◌∷◌, length, drop, get_or, filter, ltb, ltb-true, ltb-false, Option, Some, None, find, refl, sym, ◌∙◌, ap, subst, arith, true≢false, Ordering, Less, Equal, Greater, slice_get}
use denote.Param.Members.{Mut}
use denote.Ref.{Bor}
use Rattle.std.specs.Cmp.{IsTotalOrder}
use Rattle.std.specs.List.{All, AllWithin, list_any}
use Rattle.std.specs.Fn.{Called, ComparesAs}
use Rattle.std.specs.List.Sorted.{IsSortedBy, IsStableBy, IsSortedByClosure, IsStableByClosure, IsPartitionedBy, IsPartitionPoint, ties}
use Rattle.std.specs.Ordering.{is_lt, is_eq, ordering_index, ordering_reverse}
use Rattle.std.proofs.lemmas.Fn.{always_returns_same}
use Rattle.std.proofs.lemmas.List.Sorted.{ranks_by, searchable_from_sorted, sorted_far}

pub find-none : {X : Type 0} (p : X → Bool) (xs : List X)
    → ((k : ℕ) (d : X) → k < length xs → p (get_or xs k d) ≡ false) → find p xs ≡ None
find-none p [] none = refl
find-none p (x ∷ xs) none = rw (none 0 x (omega arith)) (find-none p xs (λ k d within. none (suc k) d (omega (arith, within))))

find-filter : {X : Type 0} (p : X → Bool) (xs : List X) → find p xs ≡ slice_get (filter p xs) 0
find-filter p [] = refl
find-filter {X} p (x ∷ xs) = by_test (p x) (find-filter p xs) where
  by_test : (b : Bool) → find p xs ≡ slice_get (filter p xs) 0
      → cond b (Some x) (find p xs) ≡ slice_get (cond b (x ∷ filter p xs) (filter p xs)) 0
  by_test true more = refl
  by_test false more = more

pub find-same : {X : Type 0} (p q : X → Bool) → ((x : X) → p x ≡ q x) → (xs : List X) → find p xs ≡ find q xs
find-same p q same [] = refl
find-same p q same (x ∷ xs) = rw (same x, find-same p q same xs) refl

pub get-within : {X : Type 0} (xs : List X) (i : ℕ) (x d : X) → slice_get xs i ≡ Some x → (i < length xs) × (get_or xs i d ≡ x)
get-within [] i x d is = absurd cc
get-within (y ∷ xs) zero x d is = (omega arith, let same : y ≡ x = cc in same)
get-within (y ∷ xs) (suc i) x d is = let more = get-within xs i x d is in (omega (arith, more.0), more.1)

pub get-past : {X : Type 0} (xs : List X) (i : ℕ) → slice_get xs i ≡ None → length xs ≤ i
get-past [] i is = omega arith
get-past (y ∷ xs) zero is = absurd cc
get-past (y ∷ xs) (suc i) is = omega (arith, get-past xs i is)

-- ---- whether something in a list passes a test

pub any-at : {X : Type 0} (p : X → Bool) (xs : List X) (i : ℕ) (x : X) → slice_get xs i ≡ Some x → p x ≡ true → list_any p xs ≡ true
any-at p [] i x is passes = absurd cc
any-at p (y ∷ xs) zero x is passes = let same : y ≡ x = cc in ap (λ b. b || list_any p xs) (ap p same ∙ passes)
any-at p (y ∷ xs) (suc i) x is passes = ap (λ b. p y || b) (any-at p xs i x is passes) ∙ either (p y) where
  either : (b : Bool) → (b || true) ≡ true
  either true = refl
  either false = refl

pub any-none : {X : Type 0} (p : X → Bool) (xs : List X) → ((k : ℕ) (d : X) → k < length xs → p (get_or xs k d) ≡ false)
    → list_any p xs ≡ false
any-none p [] none = refl
any-none p (x ∷ xs) none =
    (λ i. none 0 x (omega arith) i || any-none p xs (λ k d within. none (suc k) d (omega (arith, within))) i)

pub below-or_from : (j i : ℕ) → (j < i) ⊎ (i ≤ j)
below-or_from j i = by_test (ltb j i) refl where
  by_test : (b : Bool) → ltb j i ≡ b → (j < i) ⊎ (i ≤ j)
  by_test true is = inl (ltb-true j i is)
  by_test false is = inr (ltb-false j i is)

less-not_equal : (o : Ordering) → is_lt o ≡ true → is_eq o ≡ false
less-not_equal Less is = refl
less-not_equal Equal is = absurd (true≢false (sym is))
less-not_equal Greater is = refl

pub equal-is : (o : Ordering) → is_eq o ≡ true → o ≡ Equal
equal-is Less is = absurd (true≢false (sym is))
equal-is Equal is = refl
equal-is Greater is = absurd (true≢false (sym is))

neither-greater : (o : Ordering) → is_lt o ≡ false → is_eq o ≡ false → o ≡ Greater
neither-greater Less less equal = absurd (true≢false less)
neither-greater Equal less equal = absurd (true≢false equal)
neither-greater Greater less equal = refl

module _ {X K : Type 0} (cmp : K → K → Ordering) (total : IsTotalOrder cmp) (key : X → K) where
  -- what a sort by a closure ensures, where that compares keys
  module _ {F : Type 0} {g : Mut F (Bor X × (Bor X × Unit {0})) Ordering} {f : F}
      (compares : (a : Bor X × (Bor X × Unit {0})) (r : Ordering) (f' : F) → Called g f a r f'
      → (r ≡ cmp (key a.0.now) (key a.1.0.now)) × (f' ≡ f)) where
    compares-as : ComparesAs g (λ x y. is_lt (cmp (key x) (key y))) f
    compares-as = always_returns_same g (λ a r. is_lt r ≡ is_lt (cmp (key a.0.now) (key a.1.0.now))) f
        (λ a r f' k. (ap is_lt (compares a r f' k).0, (compares a r f' k).1))

    pub sorted-by_closure : (xs : List X) → IsSortedByClosure g f xs → IsSortedBy (λ x y. is_lt (cmp (key x) (key y))) xs
    sorted-by_closure xs up = up (λ x y. is_lt (cmp (key x) (key y))) (ranks_by total key) compares-as

    pub stable-by_closure : (xs ys : List X) → IsStableByClosure g f xs ys → IsStableBy (λ x y. is_lt (cmp (key x) (key y))) xs ys
    stable-by_closure xs ys stable = stable (λ x y. is_lt (cmp (key x) (key y))) (ranks_by total key) compares-as

module _ {X K : Type 0} (cmp : K → K → Ordering) (total : IsTotalOrder cmp) (key : X → K) (k : K) where
  abbrev pub is_here : X → Bool
  is_here x = is_eq (cmp (key x) k)

  abbrev pub is_before : X → Bool
  is_before x = is_lt (cmp (key x) k)

  abbrev pub lesser : X → X → Bool
  lesser x y = is_lt (cmp (key x) (key y))

  less-index : (o : Ordering) → is_lt o ≡ true → ordering_index o ≡ 0
  less-index Less is = refl
  less-index Equal is = absurd (true≢false (sym is))
  less-index Greater is = absurd (true≢false (sym is))

  index-less : (o : Ordering) → ordering_index o ≤ 0 → is_lt o ≡ true
  index-less Less low = refl
  index-less Equal low = absurd (omega (arith, low))
  index-less Greater low = absurd (omega (arith, low))

  -- in a sorted list those that come before what is looked for stand first
  pub parted : (xs : List X) → IsSortedBy lesser xs → IsPartitionedBy is_before xs
  parted xs up i j d from within less =
      let rises = searchable_from_sorted total key xs k up i j d from within in
      index-less (cmp (key (get_or xs i d)) k) (omega (arith, rises, less-index (cmp (key (get_or xs j d)) k) less))

  -- nothing before the place counts
  find-from : (xs : List X) (i : ℕ) (x : X) → ((j : ℕ) (d : X) → j < i → is_before (get_or xs j d) ≡ true) → slice_get xs i ≡ Some x
      → is_here x ≡ true → find is_here xs ≡ Some x
  find-from [] i x before is here = absurd cc
  find-from (y ∷ xs) zero x before is here = let same : y ≡ x = cc in rw (ap is_here same ∙ here) is
  find-from (y ∷ xs) (suc i) x before is here =
      rw (less-not_equal (cmp (key y) k) (before 0 y (omega arith)))
      (find-from xs i x (λ j d within. before (suc j) d (omega (arith, within))) is here)

  module _ (xs : List X) (i : ℕ) (place : IsPartitionPoint (λ x. is_before x ≡ true) (λ x. is_before x ≡ false) xs i) where
    pub found-there : (x : X) → slice_get xs i ≡ Some x → is_here x ≡ true → find is_here xs ≡ Some x
    found-there x is here = find-from xs i x (λ j d within. place.0 j d (omega arith) within) is here

    pub found-past : slice_get xs i ≡ None → find is_here xs ≡ None
    found-past is = find-none is_here xs
        (λ j d within. less-not_equal (cmp (key (get_or xs j d)) k) (place.0 j d (omega arith) (omega (arith, within, get-past xs i is))))

    -- what comes after one that is greater is greater
    pub found-nowhere : (x : X) → slice_get xs i ≡ Some x → is_here x ≡ false → IsSortedBy lesser xs → find is_here xs ≡ None
    found-nowhere x is differs up = find-none is_here xs (λ j d within. by_side j d within (side j)) where
      side : (j : ℕ) → (j < i) ⊎ (i ≤ j)
      side j = below-or_from j i

      at : (d : X) → (i < length xs) × (get_or xs i d ≡ x)
      at d = get-within xs i x d is

      greater : cmp (key x) k ≡ Greater
      greater = neither-greater (cmp (key x) k) (ap is_before (sym (at x).1) ∙ place.1 i x (omega arith) (at x).0) differs

      less : cmp k (key x) ≡ Less
      less = total.antisymm k (key x) ∙ ap ordering_reverse greater

      later : (j : ℕ) (d : X) → i ≤ j → j < length xs → (b : Bool) → is_here (get_or xs j d) ≡ b → b ≡ false
      later j d from within false here = refl
      later j d from within true here =
          let y : X = get_or xs j d in
          let tied : cmp (key y) k ≡ Equal = equal-is (cmp (key y) k) here in
          let same : cmp (key y) (key x) ≡ cmp k (key x) = total.congr (key y) k (key x) tied in
          let not_less : lesser y x ≡ false =
          ap (lesser y) (sym (at d).1) ∙ sorted_far lesser (ranks_by total key) xs up i j d from within in
          absurd (true≢false (sym (ap is_lt (same ∙ less)) ∙ not_less))

      by_side : (j : ℕ) (d : X) → j < length xs → (j < i) ⊎ (i ≤ j) → is_here (get_or xs j d) ≡ false
      by_side j d within (inl below) = less-not_equal (cmp (key (get_or xs j d)) k) (place.0 j d (omega arith) below)
      by_side j d within (inr from) = later j d from within (is_here (get_or xs j d)) refl

  -- ties with an element of this key are what is looked for
  ties-here : (x : X) → key x ≡ k → (y : X) → ties lesser x y ≡ is_here y
  ties-here x is y = ap (λ o. not (is_lt o) && not (lesser y x)) (total.antisymm (key x) (key y))
      ∙ ap (λ z. not (is_lt (ordering_reverse (cmp (key y) z))) && not (is_lt (cmp (key y) z))) is ∙ by_order (cmp (key y) k) where
        by_order : (o : Ordering) → (not (is_lt (ordering_reverse o)) && not (is_lt o)) ≡ is_eq o
        by_order Less = refl
        by_order Equal = refl
        by_order Greater = refl

  -- a stable sort keeps which is the first
  pub first-kept : (x : X) → key x ≡ k → (xs ys : List X) → IsStableBy lesser xs ys → find is_here ys ≡ find is_here xs
  first-kept x is xs ys stable =
      find-same is_here (ties lesser x) (λ y. sym (ties-here x is y)) ys ∙ find-filter (ties lesser x) ys
      ∙ ap (λ zs. slice_get zs 0) (stable x)
      ∙ sym (find-filter (ties lesser x) xs) ∙ find-same (ties lesser x) is_here (ties-here x is) xs
