-- Rows that ascend by their keys: those of one key stand at the front of the rows that are no less.
use Rattle.std.proofs.Common.{◌≡◌, ◌≢◌, ◌⊎◌, inl, inr, ℕ, suc, ◌+◌, ◌<◌, Bool, true, false, cond, List, [], ◌∷◌, ◌++◌, length, get_or, drop, append_assoc, filter_map, Option, None, Some, Contains, refl, sym, ◌∙◌, ap, subst, arith, true≢false, take_while, Ordering, Less}
use Rattle.std.specs.List.{cons_option}
use Rattle.std.specs.List.Sorted.{IsSortedBy}
use Rattle.std.specs.Option.{option_to_list}
use Rattle.std.specs.Ordering.{is_lt, is_eq}
use Rattle.std.proofs.lemmas.Cmp.{tied_itself}
use Rattle.std.proofs.lemmas.List.{drop_more}
use Rattle.std.proofs.lemmas.List.Sorted.{ranks_by, sorted_far}
use Rattle.std.proofs.lemmas.List.Sums.{take_while-cons}
use Rattle.jav_names.proofs.index_lemmas.Searched.{equal-is}
use Rattle.jav_names.proofs.Lists.{stands_first, stands_later, stands_where, stands_nowhere, neither_less}
use Rattle.jav_names.specs.Views.{IsKeyOrder}

not-less : (order : Ordering) → is_lt order ≡ false → order ≢ Less
not-less order fails is = true≢false (sym (ap is_lt is) ∙ fails)

module _ {R K : Type 0} (cmp : K → K → Ordering) (key : R → K) (order : IsKeyOrder cmp) where
  abbrev pub lesser : R → R → Bool
  lesser x y = is_lt (cmp (key x) (key y))

  -- none is less than the first, and so on
  abbrev pub Ascend : List R → Type 0
  Ascend [] = Unit {0}
  Ascend (row ∷ later) = ((next : R) → Contains later next → lesser next row ≡ false) × Ascend later

  sorted-later : (row : R) (later : List R) → IsSortedBy lesser (row ∷ later) → IsSortedBy lesser later
  sorted-later row later up k d low within =
      let e : suc k + 1 ≡ suc (k + 1) = omega arith in
      subst (λ n. lesser (get_or (row ∷ later) n d) (get_or later k d) ≡ false) e (up (suc k) d (omega arith) (omega (arith, within)))

  pub ascend : (rows : List R) → IsSortedBy lesser rows → Ascend rows
  ascend [] up = tt
  ascend (row ∷ later) up = (
    λ next stands. ap (λ z. lesser z row) (sym stands.2)
        ∙ sorted_far lesser (ranks_by order.total key) (row ∷ later) up 0 (suc stands.0) next (omega arith) (omega (arith, stands.1)),
    ascend later (sorted-later row later up),
  )

  -- ---- those of one key

  abbrev pub has_key : K → R → Bool
  has_key k row = is_eq (cmp k (key row))

  pub tied : (k : K) (row : R) → k ≡ key row → has_key k row ≡ true
  tied k row same = ap is_eq (ap (cmp k) (sym same) ∙ tied_itself order.total k)

  pub from-front : (k : K) (later : List R) (next : R) → Contains (take_while (has_key k) later) next → Contains later next × (k ≡ key next)
  from-front k [] next stands = absurd (stands_nowhere next stands)
  from-front k (first ∷ later) next stands =
      by (has_key k first) refl (subst (λ rows. Contains rows next) (take_while-cons (has_key k) first later) stands)
      (from-front k later next) where
        either : has_key k first ≡ true → (first ≡ next) ⊎ Contains (take_while (has_key k) later) next
            → (Contains (take_while (has_key k) later) next → Contains later next × (k ≡ key next))
            → Contains (first ∷ later) next × (k ≡ key next)
        either is (inl same) more = (
          subst (Contains (first ∷ later)) same (stands_first first later),
          order.same k (key first) (equal-is (cmp k (key first)) is) ∙ ap key same,
        )
        either is (inr there) more = let found = more there in (stands_later first next later found.0, found.1)

        by : (b : Bool) → has_key k first ≡ b → Contains (cond b (first ∷ take_while (has_key k) later) []) next
            → (Contains (take_while (has_key k) later) next → Contains later next × (k ≡ key next))
            → Contains (first ∷ later) next × (k ≡ key next)
        by true is here more = either is (stands_where first next (take_while (has_key k) later) here) more
        by false is here more = absurd (stands_nowhere next here)

  -- what stands between no less than the key and a row of the key has it
  pub between : (k : K) (middle next : R) → is_lt (cmp (key middle) k) ≡ false → lesser next middle ≡ false → k ≡ key next → k ≡ key middle
  between k middle next above below same = neither_less cmp key order k (key middle)
      (λ less. not-less (cmp (key next) (key middle)) below (ap (λ z. cmp z (key middle)) (sym same) ∙ less))
      (not-less (cmp (key middle) k) above)

  pub in-front : (k : K) (later : List R) → ((next : R) → Contains later next → is_lt (cmp (key next) k) ≡ false) → Ascend later
      → (next : R) → Contains later next → k ≡ key next → Contains (take_while (has_key k) later) next
  in-front k [] above up next stands same = absurd (stands_nowhere next stands)
  in-front k (first ∷ later) above up next stands same =
      by (stands_where first next later stands)
      (λ there. in-front k later (λ z of-z. above z (stands_later first z later of-z)) up.1 next there same) where
        listed : has_key k first ≡ true → Contains (first ∷ take_while (has_key k) later) next
            → Contains (take_while (has_key k) (first ∷ later)) next
        listed is here = subst (λ rows. Contains rows next)
            (sym (take_while-cons (has_key k) first later ∙ ap (λ b. cond b (first ∷ take_while (has_key k) later) []) is)) here

        by : (first ≡ next) ⊎ Contains later next → (Contains later next → Contains (take_while (has_key k) later) next)
            → Contains (take_while (has_key k) (first ∷ later)) next
        by (inl is) more = listed (tied k first (same ∙ ap key (sym is)))
            (subst (Contains (first ∷ take_while (has_key k) later)) is (stands_first first (take_while (has_key k) later)))
        by (inr there) more =
            listed (tied k first (between k first next (above first (stands_first first later)) (up.0 next there) same))
            (stands_later first next (take_while (has_key k) later) (more there))

-- ---- one row after another

module _ {R P : Type 0} (p : R → Bool) (made : R → Option P) (later : List R) (i : ℕ) (next : R) (within : i < length later)
    (is : next ≡ get_or later i next) (before now : List P)
    (so_far : now ++ filter_map made (take_while p (drop i later)) ≡ before ++ filter_map made (take_while p later)) where
  front : take_while p (drop i later) ≡ cond (p next) (next ∷ take_while p (drop (i + 1) later)) []
  front = ap (take_while p) (drop_more later i next within ∙ ap (λ row. row ∷ drop (i + 1) later) (sym is))
      ∙ take_while-cons p next (drop (i + 1) later)

  -- what is made of the next row of the front goes to the end
  pub taken-more : p next ≡ true → (after : List P) → after ≡ now ++ option_to_list (made next)
      → after ++ filter_map made (take_while p (drop (i + 1) later)) ≡ before ++ filter_map made (take_while p later)
  taken-more passes after grown =
      let rest : List P = filter_map made (take_while p (drop (i + 1) later)) in
      let here : filter_map made (take_while p (drop i later)) ≡ cons_option (made next) rest =
      ap (filter_map made) (front ∙ ap (λ b. cond b (next ∷ take_while p (drop (i + 1) later)) []) passes) in
      ap (λ ps. ps ++ rest) grown ∙ append_assoc now (option_to_list (made next)) rest
      ∙ ap (λ ps. now ++ ps) (joined (made next) rest ∙ sym here) ∙ so_far where
        joined : (o : Option P) (rest : List P) → option_to_list o ++ rest ≡ cons_option o rest
        joined None rest = refl
        joined (Some x) rest = refl
