-- What passes a test, sorted, and its places.
use Rattle.std.specs.Prelude.{◌≡◌, ℕ, ◌+◌, ◌<◌, Bool, true, false, cond, ◌&&◌, ◌||◌, List, [], ◌∷◌, map, length}
use Rattle.std.proofs.Common.{suc, zero, refl, sym, ap, subst, ◌∙◌, arith, get_or, true≢false}
use Rattle.std.proofs.lemmas.List.{length-map, get_or-map}
use Rattle.std.proofs.lemmas.List.Sorted.{length_permutation, sum_by-IsPermutation, list_any-IsPermutation}
use Rattle.std.proofs.lemmas.List.Sums.{sum_by-cons}
use Rattle.std.proofs.lemmas.Map.Keys.{apart_from_distinct, IsDistinct-IsPermutation, IsDistinct-cons, IsDistinct-head, IsDistinct-tail}
use Rattle.std.specs.Cmp.{IsTotalOrder, eq_by_cmp_equiv}
use Rattle.std.specs.FinMap.{IsAntisymmetric}
use Rattle.std.specs.List.{AllByRecursion, IsDistinct, filter, list_any, sum_by}
use Rattle.std.specs.List.Sorted.{IsPermutation, IsSorted}
use Rattle.std.specs.Ordering.{eq_by_cmp, is_eq, is_lt, ordering_reverse}
use Rattle.std.specs.declared.cmp.Ordering.{Ordering}
use Rattle.std.specs.declared.cmp.Ordering.TheVariants.{Less, Equal, Greater}
use Rattle.mol_base.specs.declared.ident.Id.{Id}
use Rattle.mol_table_rules.specs.Counting.{one_if, passing}
use Rattle.mol_table_rules.specs.Program.{same_id}
use Rattle.mol_table_numbers.specs.Numbering.{IsInOrder}
use Rattle.mol_table_rules.proofs.Counts.{tied}
use Rattle.mol_table_rules.proofs.Living.{id_tied, same_id-own}

-- ---- counts of lists

passing-sum : {X : Type 0} (p : X → Bool) (xs : List X) → passing p xs ≡ sum_by (λ x. one_if (p x)) xs
passing-sum p [] = refl
passing-sum p (x ∷ xs) = ap (λ n. one_if (p x) + n) (passing-sum p xs) ∙ sym (sum_by-cons (λ x. one_if (p x)) x xs)

passing-permuted : {X : Type 0} (p : X → Bool) (xs ys : List X) → IsPermutation xs ys → passing p ys ≡ passing p xs
passing-permuted p xs ys permuted = passing-sum p ys ∙ sum_by-IsPermutation (λ x. one_if (p x)) xs ys permuted ∙ sym (passing-sum p xs)

pub passing-filter : {A X : Type 0} (p : X → Bool) (key : A → X) (test : A → Bool) (xs : List A) → passing p (map key (filter test xs)) ≡ passing (λ a. test a && p (key a)) xs
passing-filter p key test [] = refl
passing-filter p key test (x ∷ xs) = at (test x) (passing-filter p key test xs) where
  at : (b : Bool) → passing p (map key (filter test xs)) ≡ passing (λ a. test a && p (key a)) xs
      → passing p (map key (cond b (x ∷ filter test xs) (filter test xs))) ≡ (one_if (b && p (key x)) + passing (λ a. test a && p (key a)) xs)
  at true rest = ap (λ n. one_if (p (key x)) + n) rest
  at false rest = omega (arith, rest)

pub length-filter : {A : Type 0} (test : A → Bool) (xs : List A) → length (filter test xs) ≡ passing test xs
length-filter test [] = refl
length-filter test (x ∷ xs) = at (test x) (length-filter test xs) where
  at : (b : Bool) → length (filter test xs) ≡ passing test xs → length (cond b (x ∷ filter test xs) (filter test xs)) ≡ (one_if b + passing test xs)
  at true rest = omega (arith, rest)
  at false rest = omega (arith, rest)

any-map : {A X : Type 0} (p : X → Bool) (f : A → X) (xs : List A) → list_any p (map f xs) ≡ list_any (λ a. p (f a)) xs
any-map p f [] = refl
any-map p f (x ∷ xs) = ap (λ b. p (f x) || b) (any-map p f xs)

pub any-filter : (test : Id → Bool) (id : Id) (xs : List Id) → list_any (same_id id) (filter test xs) ≡ (test id && list_any (same_id id) xs)
any-filter test id [] = nothing (test id) where
  nothing : (b : Bool) → false ≡ (b && false)
  nothing true = refl
  nothing false = refl
any-filter test id (x ∷ xs) = at (test x) (same_id id x) refl refl (any-filter test id xs) where
  and-true : (b : Bool) → b ≡ (b && true)
  and-true true = refl
  and-true false = refl

  at : (b s : Bool) → test x ≡ b → same_id id x ≡ s → list_any (same_id id) (filter test xs) ≡ (test id && list_any (same_id id) xs)
      → list_any (same_id id) (cond b (x ∷ filter test xs) (filter test xs)) ≡ (test id && (s || list_any (same_id id) xs))
  at true true t e rest = ap (λ s. s || list_any (same_id id) (filter test xs)) e ∙ sym (ap (λ b. b && true) (ap test (id_tied id x e) ∙ t))
  at true false t e rest = ap (λ s. s || list_any (same_id id) (filter test xs)) e ∙ rest
  at false true t e rest =
      rest ∙ ap (λ b. b && list_any (same_id id) xs) (ap test (id_tied id x e) ∙ t) ∙ sym (ap (λ b. b && true) (ap test (id_tied id x e) ∙ t))
  at false false t e rest = rest

-- ---- lists in order

module _ {X : Type 0} (R : X → X → Ordering) (total : IsTotalOrder R) where
  abbrev pub Adjacent : List X → Type 0
  Adjacent ys = (k : ℕ) (d : X) → suc k < length ys → R (get_or ys k d) (get_or ys (suc k) d) ≡ Less

  pub adjacent : (ys : List X) → IsSorted R ys → IsDistinct (eq_by_cmp R) ys → Adjacent ys
  adjacent ys sorted distinct k d within =
      by _ _ refl refl
      (subst (λ j. is_lt (R (get_or ys j d) (get_or ys k d)) ≡ false) (omega arith) (sorted k d (omega arith) (omega arith)))
      (apart_from_distinct (eq_by_cmp R) ys k (suc k) d distinct (omega arith) within)
    where
      by : (o r : Ordering) → R (get_or ys k d) (get_or ys (suc k) d) ≡ o → R (get_or ys (suc k) d) (get_or ys k d) ≡ r
          → is_lt (R (get_or ys (suc k) d) (get_or ys k d)) ≡ false → is_eq (R (get_or ys k d) (get_or ys (suc k) d)) ≡ false → R (get_or ys k d) (get_or ys (suc k) d) ≡ Less
      by Less r is back after apart = is
      by Equal r is back after apart = absurd (true≢false (ap is_eq (sym is) ∙ apart))
      by Greater r is back after apart = absurd (true≢false (sym (ap is_lt (total.antisymm (get_or ys (suc k) d) (get_or ys k d) ∙ ap ordering_reverse is)) ∙ after))

  pub below : (y : X) (ys : List X) → Adjacent (y ∷ ys) → (j : ℕ) (d : X) → j < length ys → R y (get_or ys j d) ≡ Less
  below y [] up j d within = absurd (omega arith)
  below y (z ∷ zs) up zero d within = up 0 d (omega arith)
  below y (z ∷ zs) up (suc j) d within = total.trans y z (get_or zs j d) (up 0 d (omega arith)) (below z zs (λ k e w. up (suc k) e (omega arith)) j d (omega arith))

  none-before : (y : X) (ys : List X) → ((j : ℕ) (d : X) → j < length ys → R y (get_or ys j d) ≡ Less) → passing (λ x. is_lt (R x y)) ys ≡ 0
  none-before y [] after = refl
  none-before y (z ∷ zs) after =
      let first : one_if (is_lt (R z y)) ≡ 0 = ap (λ o. one_if (is_lt o)) (total.antisymm z y ∙ ap ordering_reverse (after 0 y (omega arith))) in
      let rest = none-before y zs (λ j d within. after (suc j) d (omega arith)) in
      omega (arith, first, rest)

  own-not : (y : X) → is_lt (R y y) ≡ false
  own-not y = by (R y y) ((eq_by_cmp_equiv total).refl y) where
    by : (o : Ordering) → is_eq o ≡ true → is_lt o ≡ false
    by Less e = absurd cc
    by Equal e = refl
    by Greater e = absurd cc

  -- as many come before an item as its place says
  count-at : (ys : List X) → Adjacent ys → (k : ℕ) (d : X) → k < length ys → passing (λ x. is_lt (R x (get_or ys k d))) ys ≡ k
  count-at [] up k d within = absurd (omega arith)
  count-at (y ∷ ys) up zero d within =
      let first : one_if (is_lt (R y y)) ≡ 0 = ap one_if (own-not y) in
      let rest = none-before y ys (below y ys up) in
      omega (arith, first, rest)
  count-at (y ∷ ys) up (suc k) d within =
      let first : one_if (is_lt (R y (get_or ys k d))) ≡ 1 = ap (λ o. one_if (is_lt o)) (below y ys up k d (omega arith)) in
      let rest = count-at ys (λ j e w. up (suc j) e (omega arith)) k d (omega arith) in
      omega (arith, first, rest)

  module _ (same : IsAntisymmetric R) (test : Id → Bool) (key : Id → X) (own : X → Id) (owns : (id : Id) → own (key id) ≡ id) where
    apart-more : (x : Id) (xs : List Id) → AllByRecursion (λ y. same_id x y ≡ false) xs → AllByRecursion (λ y. eq_by_cmp R (key x) y ≡ false) (map key (filter test xs))
    apart-more x [] all = tt {0}
    apart-more x (y ∷ ys) all = at (test y) (apart-more x ys all.1) where
      differ : (b : Bool) → eq_by_cmp R (key x) (key y) ≡ b → eq_by_cmp R (key x) (key y) ≡ false
      differ true e = absurd (true≢false (sym (same_id-own y) ∙ ap (λ z. same_id z y) (sym (owns y) ∙ ap own (sym (same (key x) (key y) (tied _ e))) ∙ owns x) ∙ all.0))
      differ false e = e

      at : (b : Bool) → AllByRecursion (λ y. eq_by_cmp R (key x) y ≡ false) (map key (filter test ys))
          → AllByRecursion (λ y. eq_by_cmp R (key x) y ≡ false) (map key (cond b (y ∷ filter test ys) (filter test ys)))
      at true rest = (differ _ refl, rest)
      at false rest = rest

    keys-apart : (xs : List Id) → IsDistinct same_id xs → IsDistinct (eq_by_cmp R) (map key (filter test xs))
    unfolding IsDistinct
    keys-apart [] distinct = tt
    keys-apart (x ∷ xs) distinct = at (test x) (keys-apart xs (IsDistinct-tail same_id x xs distinct)) where
      at : (b : Bool) → IsDistinct (eq_by_cmp R) (map key (filter test xs)) → IsDistinct (eq_by_cmp R) (map key (cond b (x ∷ filter test xs) (filter test xs)))
      at true rest = IsDistinct-cons (eq_by_cmp R) (key x) (map key (filter test xs)) (apart-more x xs (IsDistinct-head same_id x xs distinct)) rest
      at false rest = rest

    abbrev Keyed : List X → Type 0
    Keyed ys = (y : X) → list_any (λ x. eq_by_cmp R y x) ys ≡ true → key (own y) ≡ y

    keyed-list : (xs : List Id) → Keyed (map key xs)
    keyed-list [] y h = absurd (true≢false (sym h))
    keyed-list (x ∷ xs) y h = at (eq_by_cmp R y (key x)) refl h (keyed-list xs y) where
      at : (b : Bool) → eq_by_cmp R y (key x) ≡ b → (b || list_any (λ x. eq_by_cmp R y x) (map key xs)) ≡ true
          → (list_any (λ x. eq_by_cmp R y x) (map key xs) ≡ true → key (own y) ≡ y) → key (own y) ≡ y
      at true e h rest = let is = same y (key x) (tied _ e) in ap (λ z. key (own z)) is ∙ ap key (owns x) ∙ sym is
      at false e h rest = rest h

    any-at : (ys : List X) (k : ℕ) (d : X) → k < length ys → list_any (λ x. eq_by_cmp R (get_or ys k d) x) ys ≡ true
    any-at [] k d within = absurd (omega arith)
    any-at (y ∷ ys) zero d within = ap (λ b. b || list_any (λ x. eq_by_cmp R y x) ys) ((eq_by_cmp_equiv total).refl y)
    any-at (y ∷ ys) (suc k) d within = or-right (eq_by_cmp R (get_or ys k d) y) _ (any-at ys k d (omega arith)) where
      or-right : (a b : Bool) → b ≡ true → (a || b) ≡ true
      or-right true b e = refl
      or-right false b e = e

    -- what passes, sorted, stands at the number that it has by what passes and comes before
    pub in-order : (ids : List Id) → IsDistinct same_id ids → ((id : Id) → test id ≡ true → list_any (same_id id) ids ≡ true)
        → (ys : List X) → IsPermutation (map key (filter test ids)) ys → IsSorted R ys
        → IsInOrder test (λ id. suc (passing (λ before. test before && is_lt (R (key before) (key id))) ids)) (passing test ids) (map own ys)
    in-order ids distinct known ys permuted sorted =
        let xs = map key (filter test ids) in
        let apart : IsDistinct (eq_by_cmp R) ys = IsDistinct-IsPermutation (eq_by_cmp R) (eq_by_cmp_equiv total).symm xs ys permuted (keys-apart ids distinct) in
        record {
          has = λ id.
              any-map (same_id id) own ys ∙ sym (list_any-IsPermutation (λ y. same_id id (own y)) xs ys permuted)
              ∙ any-map (λ y. same_id id (own y)) key (filter test ids) ∙ own-ids id (filter test ids)
              ∙ any-filter test id ids ∙ passes id (test id) refl;
          numbers = λ k d within.
              let long : k < length ys = subst (λ n. k < n) (length-map ys own) within in
              let y : X = get_or ys k (key d) in
              let keyed : key (own y) ≡ y = keyed-list (filter test ids) y (list_any-IsPermutation (λ x. eq_by_cmp R y x) xs ys permuted ∙ any-at ys k (key d) long) in
              ap (λ id. suc (passing (λ before. test before && is_lt (R (key before) (key id))) ids)) (get_or-map own ys k (key d) d long)
              ∙ ap (λ z. suc (passing (λ before. test before && is_lt (R (key before) z)) ids)) keyed
              ∙ ap suc (sym (passing-filter (λ x. is_lt (R x y)) key test ids) ∙ sym (passing-permuted (λ x. is_lt (R x y)) xs ys permuted) ∙ count-at ys (adjacent ys sorted apart) k (key d) long);
          long = length-map ys own ∙ length_permutation xs ys permuted ∙ length-map (filter test ids) key ∙ length-filter test ids;
        }
      where
        own-ids : (id : Id) (xs : List Id) → list_any (λ a. same_id id (own (key a))) xs ≡ list_any (same_id id) xs
        own-ids id [] = refl
        own-ids id (x ∷ xs) = λ i. same_id id (owns x i) || own-ids id xs i

        passes : (id : Id) (b : Bool) → test id ≡ b → (test id && list_any (same_id id) ids) ≡ test id
        passes id true e = ap (λ b. b && list_any (same_id id) ids) e ∙ known id e ∙ sym e
        passes id false e = ap (λ b. b && list_any (same_id id) ids) e ∙ sym e
