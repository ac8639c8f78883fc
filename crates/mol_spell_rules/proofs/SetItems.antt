-- The items of a list as a set: they ascend, and are those of the list.
use Rattle.std.proofs.Common.{◌≡◌, ◌≢◌, ◌⊎◌, inl, inr, Bool, true, false, List, [], ◌∷◌, map, Contains, refl, sym, ◌∙◌, ap, subst, Ordering, Less, Equal, Greater}
use Rattle.std.specs.Prelude.{T, ◌&&◌, ◌↔◌, is_some}
use Rattle.std.specs.Bool.{Decides}
use Rattle.std.specs.FinMap.{FinMap, entries, entries_sorted, from_entries, get-from_entries, contains_key-keys, get, is_sorted, keys}
use Rattle.std.specs.FinMap.Entries.{below_all, is_some-find}
use Rattle.std.specs.List.{AllByRecursion, list_any}
use Rattle.std.specs.List.Sorted.{IsStrictlySortedBy}
use Rattle.std.specs.Ordering.{on, is_lt, is_eq, eq_by_cmp, ordering_reverse}
use Rattle.std.proofs.lemmas.Cmp.{tied_itself}
use Rattle.jav_names.proofs.Lists.{list_any-decides, stands_first, stands_later, stands_where, stands_nowhere, less-later, ascending-rest}
use Rattle.jav_names.specs.Views.{IsKeyOrder}
use Rattle.mol_spell_rules.specs.Sets.{as_set}

pub split : (a b : Bool) → T (a && b) → T a × T b
split true b h = (tt, h)
split false b h = absurd h

is-less : (o : Ordering) → T (is_lt o) → o ≡ Less
is-less Less h = refl
is-less Equal h = absurd h
is-less Greater h = absurd h

is-equal : (o : Ordering) → is_eq o ≡ true → o ≡ Equal
is-equal Less h = absurd cc
is-equal Equal h = refl
is-equal Greater h = absurd cc

module _ {K V : Type 0} (cmp : K → K → Ordering) where
  all-above : (k : K) (es : List (K × V)) → T (below_all cmp k es) → AllByRecursion (λ x. cmp k x ≡ Less) (map (λ e. e.0) es)
  all-above k [] h = tt
  all-above k (e ∷ es) h =
      let parts = split (is_lt (cmp k e.0)) (below_all cmp k es) h in (is-less (cmp k e.0) parts.0, all-above k es parts.1)

  pub keys-ascend : (es : List (K × V)) → T (is_sorted cmp es) → IsStrictlySortedBy cmp (map (λ e. e.0) es)
  unfolding IsStrictlySortedBy
  keys-ascend [] h = tt
  keys-ascend (e ∷ es) h =
      let parts = split (below_all cmp e.0 es) (is_sorted cmp es) h in (all-above e.0 es parts.0, keys-ascend es parts.1)

module _ {K : Type 0} (cmp : K → K → Ordering) (order : IsKeyOrder cmp) where
  pub set-ascends : (items : List K) → IsStrictlySortedBy cmp (as_set cmp items)
  set-ascends items =
      let set : FinMap cmp (Unit {0}) = from_entries {R = cmp} (map (λ item. (item, tt {0})) items) in
      keys-ascend cmp (entries set) (entries_sorted set)

  pub tied-decides : (k x : K) → Decides (eq_by_cmp cmp k x) (x ≡ k)
  tied-decides k x = (
    λ ties. sym (order.same k x (is-equal (cmp k x) ties)),
    λ same. subst (λ z. eq_by_cmp cmp k z ≡ true) (sym same) (ap is_eq (tied_itself order.total k)),
  )

  firsts : (items : List K) → map (λ (e : K × Unit {0}). e.0) (map (λ item. (item, tt {0})) items) ≡ items
  firsts [] = refl
  firsts (item ∷ items) = ap (λ rest. item ∷ rest) (firsts items)

  same-tests : (items : List K) (k : K) → list_any (eq_by_cmp cmp k) (as_set cmp items) ≡ list_any (eq_by_cmp cmp k) items
  same-tests items k =
      let es : List (K × Unit {0}) = map (λ item. (item, tt {0})) items in
      sym (contains_key-keys (from_entries {R = cmp} es) k) ∙ ap is_some (get-from_entries order.total es k)
      ∙ is_some-find cmp k es ∙ ap (list_any (eq_by_cmp cmp k)) (firsts items)

  pub set-has : (items : List K) (k : K) → Contains (as_set cmp items) k ↔ Contains items k
  set-has items k =
      let in_set = list_any-decides (λ x. x ≡ k) (eq_by_cmp cmp k) (tied-decides k) (as_set cmp items) in
      let in_list = list_any-decides (λ x. x ≡ k) (eq_by_cmp cmp k) (tied-decides k) items in (
        λ stands. let found = in_list.0 (sym (same-tests items k) ∙ in_set.1 (k, stands, refl)) in subst (Contains items) found.2 found.1,
        λ stands. let found = in_set.0 (same-tests items k ∙ in_list.1 (k, stands, refl)) in
            subst (Contains (as_set cmp items)) found.2 found.1,
      )

  -- what a map has is among its keys
  pub key-stands : {V : Type 0} (map : FinMap cmp V) (k : K) → is_some (get map k) ≡ true → Contains (keys map) k
  key-stands map k has =
      let found = (list_any-decides (λ x. x ≡ k) (eq_by_cmp cmp k) (tied-decides k) (keys map)).0 (sym (contains_key-keys map k) ∙ has) in
      subst (Contains (keys map)) found.2 found.1

-- ---- lists with the same members

module _ {X K : Type 0} (cmp : K → K → Ordering) (key : X → K) (order : IsKeyOrder cmp) where
  not-back : (a b : K) → cmp a b ≡ Less → cmp b a ≢ Less
  not-back a b up down = absurd (less_not (cmp b a) (sym (order.total.antisymm a b) ∙ up) down) where
    less_not : (o : Ordering) → ordering_reverse o ≡ Less → o ≡ Less → ⊥
    less_not Less back is = absurd cc
    less_not Equal back is = absurd cc
    less_not Greater back is = absurd cc

  -- the first of two such lists is one
  first-same : (x y : X) (xs ys : List X) → IsStrictlySortedBy (on key cmp) (x ∷ xs) → IsStrictlySortedBy (on key cmp) (y ∷ ys)
      → Contains (y ∷ ys) x → Contains (x ∷ xs) y → x ≡ y
  first-same x y xs ys up down of-x of-y = by (stands_where y x ys of-x) (stands_where x y xs of-y) where
    by : (y ≡ x) ⊎ Contains ys x → (x ≡ y) ⊎ Contains xs y → x ≡ y
    by (inl same) other = sym same
    by (inr later) (inl same) = same
    by (inr later) (inr there) = absurd (not-back (key y) (key x) (less-later cmp key order y x ys down later)
        (less-later cmp key order x y xs up there))

  -- so are the rests
  rest-of : (x z : X) (xs ys : List X) → IsStrictlySortedBy (on key cmp) (x ∷ xs) → Contains xs z → Contains (x ∷ ys) z → Contains ys z
  rest-of x z xs ys up of-xs of-ys = by (stands_where x z ys of-ys) where
    by : (x ≡ z) ⊎ Contains ys z → Contains ys z
    by (inr later) = later
    by (inl same) =
        let less = less-later cmp key order x z xs up of-xs in
        absurd (not-back (key x) (key z) less (subst (λ w. cmp (key w) (key x) ≡ Less) same
        (subst (λ w. cmp (key x) (key w) ≡ Less) (sym same) less)))

  pub same-members : (xs ys : List X) → IsStrictlySortedBy (on key cmp) xs → IsStrictlySortedBy (on key cmp) ys
      → ((z : X) → Contains xs z ↔ Contains ys z) → xs ≡ ys
  same-members [] [] up down alike = refl
  same-members [] (y ∷ ys) up down alike = absurd (stands_nowhere y ((alike y).1 (stands_first y ys)))
  same-members (x ∷ xs) [] up down alike = absurd (stands_nowhere x ((alike x).0 (stands_first x xs)))
  same-members (x ∷ xs) (y ∷ ys) up down alike =
      let same = first-same x y xs ys up down ((alike x).0 (stands_first x xs)) ((alike y).1 (stands_first y ys)) in
      let lists : xs ≡ ys = same-members xs ys (ascending-rest cmp key order x xs up) (ascending-rest cmp key order y ys down)
      (λ z. (
        λ h. rest-of x z xs ys up h (subst (λ w. Contains (w ∷ ys) z) (sym same) ((alike z).0 (stands_later x z xs h))),
        λ h. rest-of y z ys xs down h (subst (λ w. Contains (w ∷ xs) z) same ((alike z).1 (stands_later y z ys h))),
      )) in
      λ i. same i ∷ lists i

module _ {K : Type 0} (cmp : K → K → Ordering) (order : IsKeyOrder cmp) where
  -- a list in order is the set of what it has
  pub set-is : (items ordered : List K) → IsStrictlySortedBy cmp ordered → ((x : K) → Contains items x ↔ Contains ordered x)
      → as_set cmp items ≡ ordered
  set-is items ordered up alike = same-members cmp (λ x. x) order (as_set cmp items) ordered (set-ascends cmp order items) up
      (λ x. (
        λ h. (alike x).0 ((set-has cmp order items x).0 h),
        λ h. (set-has cmp order items x).1 ((alike x).1 h),
      ))
