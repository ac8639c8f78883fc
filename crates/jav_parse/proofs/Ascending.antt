-- Each list of names has one order that ascends by bytes.
use Rattle.std.proofs.Common.{◌≡◌, ℕ, zero, suc, ◌+◌, ◌<◌, not, ◌&&◌, Bool, true, false, if◌then◌else◌, List, [], ◌∷◌, get_or, Ordering, refl, sym, ap, ◌∙◌, subst, arith}
use Rattle.std.proofs.lemmas.Cmp.{nat_list_cmp_total}
use Rattle.std.proofs.lemmas.List.Sorted.{IsPermutation-refl, IsPermutation-trans, IsPermutation-cons, IsPermutation-middle, sum_by-IsPermutation, ranks_by}
use Rattle.std.proofs.lemmas.List.Sums.{sum_by-cons}
use Rattle.std.specs.Cmp.{IsStrictWeakOrder}
use Rattle.std.specs.Cmp.Lexicographic.{slice_cmp}
use Rattle.std.specs.FinMap.{nat_cmp-IsAntisymmetric, slice_cmp-IsAntisymmetric}
use Rattle.std.specs.List.{sum_by}
use Rattle.std.specs.List.Sorted.{IsSortedBy, IsPermutation}
use Rattle.std.specs.Ordering.{is_lt, nat_cmp, ordering_reverse}
use Rattle.std.specs.declared.cmp.Ordering.TheVariants.{Less, Equal, Greater}
use Rattle.jav_tree.specs.Units.{AscendingOf}

abbrev pub Name : Type 0
Name = List ℕ

abbrev lt : Name → Name → Bool
lt x y = is_lt (slice_cmp nat_cmp x y)

order : IsStrictWeakOrder lt
order = ranks_by nat_list_cmp_total (λ x. x)

not_below : (x : Name) (b : Bool) → lt x x ≡ b → lt x x ≡ false
not_below x true h = order.one_way x x h
not_below x false h = h

equal_by : (x y : Name) (o : Ordering) → slice_cmp nat_cmp x y ≡ o → is_lt o ≡ false → lt y x ≡ false → x ≡ y
equal_by x y Less h p q = absurd (cc)
equal_by x y Equal h p q = slice_cmp-IsAntisymmetric nat_cmp-IsAntisymmetric x y h
equal_by x y Greater h p q = absurd (let k = ap is_lt (nat_list_cmp_total.antisymm y x ∙ ap ordering_reverse h) in cc)

-- two names of which neither is below the other
equal : (x y : Name) → lt x y ≡ false → lt y x ≡ false → x ≡ y
equal x y p q = equal_by x y (slice_cmp nat_cmp x y) refl p q

-- no name of ys is below x
Above : Name → List Name → Type 0
Above x [] = Unit {0}
Above x (y ∷ ys) = (lt y x ≡ false) × Above x ys

Rising : List Name → Type 0
Rising [] = Unit {0}
Rising (x ∷ xs) = Above x xs × Rising xs

above_chain : (x y : Name) (ys : List Name) → lt y x ≡ false → Above y ys → Above x ys
unfolding Above
above_chain x y [] h a = tt
above_chain x y (z ∷ zs) h a = (order.chain z y x a.0 h, above_chain x y zs h a.1)

-- ---- there is one

put : Name → List Name → List Name
put x [] = x ∷ []
put x (y ∷ ys) = if lt x y then x ∷ y ∷ ys else y ∷ put x ys

-- the names in their order
pub ordered : List Name → List Name
ordered [] = []
ordered (x ∷ xs) = put x (ordered xs)

put_above_by : (b : Bool) (z x y : Name) (ys : List Name) → Above z (put x ys) → lt x z ≡ false → Above z (y ∷ ys) → Above z (if b then x ∷ y ∷ ys else y ∷ put x ys)
unfolding Above
put_above_by true z x y ys k h a = (h, a)
put_above_by false z x y ys k h a = (a.0, k)

put_above : (z x : Name) (ys : List Name) → lt x z ≡ false → Above z ys → Above z (put x ys)
unfolding Above put
put_above z x [] h a = (h, tt)
put_above z x (y ∷ ys) h a = put_above_by (lt x y) z x y ys (put_above z x ys h a.1) h a

put_rising_by : (b : Bool) (x y : Name) (ys : List Name) → lt x y ≡ b → Rising (put x ys) → Rising (y ∷ ys) → Rising (if b then x ∷ y ∷ ys else y ∷ put x ys)
unfolding Above Rising
put_rising_by true x y ys h k r = ((order.one_way x y h, above_chain x y ys (order.one_way x y h) r.0), r)
put_rising_by false x y ys h k r = (put_above y x ys h r.0, k)

put_rising : (x : Name) (ys : List Name) → Rising ys → Rising (put x ys)
unfolding Above Rising put
put_rising x [] r = (tt, tt)
put_rising x (y ∷ ys) r = put_rising_by (lt x y) x y ys refl (put_rising x ys r.1) r

put_moves_by : (b : Bool) (x y : Name) (ys : List Name) → IsPermutation (x ∷ ys) (put x ys) → IsPermutation (x ∷ y ∷ ys) (if b then x ∷ y ∷ ys else y ∷ put x ys)
put_moves_by true x y ys k = IsPermutation-refl (x ∷ y ∷ ys)
put_moves_by false x y ys k = IsPermutation-trans (x ∷ y ∷ ys) (y ∷ x ∷ ys) (y ∷ put x ys) (IsPermutation-middle (x ∷ []) y ys) (IsPermutation-cons y (x ∷ ys) (put x ys) k)

put_moves : (x : Name) (ys : List Name) → IsPermutation (x ∷ ys) (put x ys)
unfolding put
put_moves x [] = IsPermutation-refl (x ∷ [])
put_moves x (y ∷ ys) = put_moves_by (lt x y) x y ys (put_moves x ys)

ordered_rising : (xs : List Name) → Rising (ordered xs)
unfolding Rising ordered
ordered_rising [] = tt
ordered_rising (x ∷ xs) = put_rising x (ordered xs) (ordered_rising xs)

ordered_moves : (xs : List Name) → IsPermutation xs (ordered xs)
unfolding ordered
ordered_moves [] = IsPermutation-refl []
ordered_moves (x ∷ xs) = IsPermutation-trans (x ∷ xs) (x ∷ ordered xs) (put x (ordered xs)) (IsPermutation-cons x xs (ordered xs) (ordered_moves xs)) (put_moves x (ordered xs))

sorted : (xs : List Name) → Rising xs → IsSortedBy lt xs
unfolding Above Rising
sorted [] r = λ k d a b. absurd (omega arith)
sorted (x ∷ []) r = λ k d a b. absurd (omega arith)
sorted (x ∷ y ∷ ys) r = let rest = sorted (y ∷ ys) r.1 in elim [
  | zero ↦ λ d a b. r.0.0
  | suc k ↦ λ d a b. let e : suc (k + 1) ≡ suc k + 1 = omega arith in subst (λ n. lt (get_or (x ∷ y ∷ ys) n d) (get_or (y ∷ ys) k d) ≡ false) e (rest k d (omega arith) (omega arith))
]

pub ascending : (names : List Name) → AscendingOf names (ordered names)
ascending names = record { same_names = ordered_moves names; ascending = sorted (ordered names) (ordered_rising names) }

-- ---- there is no other

rising : (xs : List Name) → IsSortedBy lt xs → Rising xs
unfolding Above Rising
rising [] h = tt
rising (x ∷ []) h = (tt, tt)
rising (x ∷ y ∷ ys) h =
    let first : lt y x ≡ false = h 0 x (omega arith) (omega arith) in
    let rest = rising (y ∷ ys) (λ k d a b.
    let e : suc k + 1 ≡ suc (k + 1) = omega arith in
    subst (λ n. lt (get_or (x ∷ y ∷ ys) n d) (get_or (y ∷ ys) k d) ≡ false) e (h (suc k) d (omega arith) (omega arith))) in
    ((first, above_chain x y ys first rest.0), rest)

-- whether two names are the same
ties : Name → Name → Bool
ties z x = not (lt z x) && not (lt x z)

one_if : Bool → ℕ
one_if true = 1
one_if false = 0

-- how often a name is there
count : Name → List Name → ℕ
count z = sum_by (λ x. one_if (ties z x))

count_more : (z x : Name) (xs : List Name) → count z (x ∷ xs) ≡ one_if (ties z x) + count z xs
unfolding count
count_more z x xs = sum_by-cons (λ x. one_if (ties z x)) x xs

count_none : (z : Name) → count z [] ≡ 0
unfolding count
count_none z = refl

ties_self : (x : Name) → ties x x ≡ true
unfolding ties
ties_self x = rw (not_below x (lt x x) refl) refl

tied_by : (z y : Name) (b c : Bool) → lt z y ≡ b → lt y z ≡ c → (not b && not c) ≡ true → z ≡ y
tied_by z y true c p q h = absurd (cc)
tied_by z y false true p q h = absurd (cc)
tied_by z y false false p q h = equal z y p q

tied : (z y : Name) → ties z y ≡ true → z ≡ y
unfolding ties
tied z y h = tied_by z y (lt z y) (lt y z) refl refl h

there_by : (b : Bool) (z x y : Name) (ys : List Name) → ties z y ≡ b → lt y x ≡ false → (0 < count z ys → lt z x ≡ false) → 0 < one_if b + count z ys → lt z x ≡ false
unfolding one_if
there_by true z x y ys e low rest some = subst (λ n. lt n x ≡ false) (sym (tied z y e)) low
there_by false z x y ys e low rest some = rest (omega arith)

-- a name that is there is not below one that none of them is below
there : (z x : Name) (ys : List Name) → Above x ys → 0 < count z ys → lt z x ≡ false
unfolding Above
there z x [] a some = absurd (let e = count_none z in omega arith)
there z x (y ∷ ys) a some = there_by (ties z y) z x y ys refl a.0 (λ q. there z x ys a.1 q) (let e = count_more z y ys in omega arith)

first_there : (x : Name) (xs : List Name) → 0 < count x (x ∷ xs)
unfolding one_if
first_there x xs = let e = count_more x x xs ∙ ap (λ b. one_if b + count x xs) (ties_self x) in omega arith

none_there : (x : Name) (xs : List Name) → count x [] ≡ count x (x ∷ xs) → ⊥
none_there x xs h = let a = first_there x xs in let b = count_none x in absurd (omega arith)

alone : (xs ys : List Name) → Rising xs → Rising ys → ((z : Name) → count z xs ≡ count z ys) → xs ≡ ys
unfolding Above Rising
alone [] [] r s h = refl
alone [] (y ∷ ys) r s h = absurd (none_there y ys (h y))
alone (x ∷ xs) [] r s h = absurd (none_there x xs (sym (h x)))
alone (x ∷ xs) (y ∷ ys) r s h =
    let p = there x y (y ∷ ys) (not_below y (lt y y) refl, s.0) (let a = first_there x xs in let b = h x in omega arith) in
    let q = there y x (x ∷ xs) (not_below x (lt x x) refl, r.0) (let a = first_there y ys in let b = h y in omega arith) in
    let same = equal x y p q in
    let rest = alone xs ys r.1 s.1 (λ z.
    let a = count_more z x xs in
    let b = count_more z y ys in
    let c = ap (λ n. one_if (ties z n)) same in
    let d = h z in
    omega arith) in
    ap (λ n. n ∷ xs) same ∙ ap (λ ns. y ∷ ns) rest

pub ascending_alone : (names xs ys : List Name) → AscendingOf names xs → AscendingOf names ys → xs ≡ ys
unfolding count
ascending_alone names xs ys a b = alone xs ys (rising xs a.ascending) (rising ys b.ascending)
    (λ z. sum_by-IsPermutation (λ x. one_if (ties z x)) names xs a.same_names ∙ sym (sum_by-IsPermutation (λ x. one_if (ties z x)) names ys b.same_names))
