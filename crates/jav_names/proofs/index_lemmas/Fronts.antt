-- How a text compares with one that begins with a front and a dot.
use Rattle.std.proofs.Common.{◌≡◌, ◌≢◌, ℕ, zero, suc, ◌-◌, ◌<◌, ◌≤◌, List, [], ◌∷◌, ◌++◌, length, take, drop, get_or, ◌==◌, ne_eqb, true, false, true≢false, refl, sym, ◌∙◌, ap, arith, Ordering, Less, Equal, Greater}
use Rattle.std.specs.Cmp.Lexicographic.{slice_cmp}
use Rattle.std.specs.FinMap.{nat_cmp-IsAntisymmetric, slice_cmp-IsAntisymmetric}
use Rattle.std.specs.Ordering.{nat_cmp, ordering_then}
use Rattle.std.proofs.lemmas.Cmp.{tied_itself, nat_list_cmp_total}
use Rattle.std.proofs.lemmas.List.{take_all}
use Rattle.jav_names.specs.DottedNames.{Name, Names, dot, joined}
use Rattle.jav_names.specs.index.Spelled.{joined_names}

then-assoc : (a b c : Ordering) → ordering_then a (ordering_then b c) ≡ ordering_then (ordering_then a b) c
then-assoc Less b c = refl
then-assoc Equal b c = refl
then-assoc Greater b c = refl

then-both : (a b : Ordering) → ordering_then a b ≡ Equal → (a ≡ Equal) × (b ≡ Equal)
then-both Less b is = absurd cc
then-both Equal b is = (refl, is)
then-both Greater b is = absurd cc

then-stops : (a b c : Ordering) → ordering_then a b ≢ Equal → ordering_then a (ordering_then b c) ≡ ordering_then a b
then-stops Less b c differs = refl
then-stops Greater b c differs = refl
then-stops Equal Less c differs = refl
then-stops Equal Equal c differs = absurd (differs refl)
then-stops Equal Greater c differs = refl

-- a text that is no longer than the front
pub short-before : (text front back : List ℕ) → length text ≤ length front
    → slice_cmp nat_cmp text (front ++ dot ∷ back) ≡ ordering_then (slice_cmp nat_cmp text front) Less
short-before [] [] back short = refl
short-before [] (y ∷ ys) back short = refl
short-before (x ∷ xs) [] back short = absurd (omega (arith, short))
short-before (x ∷ xs) (y ∷ ys) back short =
    ap (ordering_then (nat_cmp x y)) (short-before xs ys back (omega (arith, short)))
    ∙ then-assoc (nat_cmp x y) (slice_cmp nat_cmp xs ys) Less

-- texts whose fronts are as long
along-fronts : (start front rest back : List ℕ) → length start ≡ length front
    → slice_cmp nat_cmp (start ++ rest) (front ++ back) ≡ ordering_then (slice_cmp nat_cmp start front) (slice_cmp nat_cmp rest back)
along-fronts [] [] rest back same = refl
along-fronts [] (y ∷ ys) rest back same = absurd (omega (arith, same))
along-fronts (x ∷ xs) [] rest back same = absurd (omega (arith, same))
along-fronts (x ∷ xs) (y ∷ ys) rest back same =
    ap (ordering_then (nat_cmp x y)) (along-fronts xs ys rest back (omega (arith, same)))
    ∙ then-assoc (nat_cmp x y) (slice_cmp nat_cmp xs ys) (slice_cmp nat_cmp rest back)

take-drop : (n : ℕ) (xs : List ℕ) → take n xs ++ drop n xs ≡ xs
take-drop zero xs = refl
take-drop (suc n) [] = refl
take-drop (suc n) (x ∷ xs) = ap (λ ys. x ∷ ys) (take-drop n xs)

module _ (text front start rest : List ℕ) (starts : start ≡ take (length front) text) (rests : rest ≡ drop (length front) text)
    (long : length start ≡ length front) where
  parts : text ≡ start ++ rest
  parts = sym (ap (λ s. s ++ rest) starts ∙ ap (λ r. take (length front) text ++ r) rests ∙ take-drop (length front) text)

  -- the front and a dot begin the text
  pub begins-so : 0 < length rest → ordering_then (slice_cmp nat_cmp start front) (nat_cmp (get_or rest 0 0) dot) ≡ Equal
      → text ≡ front ++ dot ∷ take (length rest - 1) (drop 1 rest)
  begins-so some tied =
      let both = then-both (slice_cmp nat_cmp start front) (nat_cmp (get_or rest 0 0) dot) tied in
      let same : start ≡ front = slice_cmp-IsAntisymmetric nat_cmp-IsAntisymmetric start front both.0 in
      parts ∙ ap (λ s. s ++ rest) same
      ∙ ap (λ r. front ++ r) (by_rest rest some (nat_cmp-IsAntisymmetric (get_or rest 0 0) dot both.1)) where
        by_rest : (r : List ℕ) → 0 < length r → get_or r 0 0 ≡ dot → r ≡ dot ∷ take (length r - 1) (drop 1 r)
        by_rest [] some is = absurd (omega (arith, some))
        by_rest (b ∷ bs) some is = ap (λ c. c ∷ bs) is ∙ ap (λ t. dot ∷ t) (sym (all bs)) where
          all : (bs : List ℕ) → take (length (b ∷ bs) - 1) bs ≡ bs
          all bs = take_all (length (b ∷ bs) - 1) bs (omega arith)

  -- they do not, and what comes after them does not count
  pub differs-before : (back : List ℕ) → 0 < length rest
      → ordering_then (slice_cmp nat_cmp start front) (nat_cmp (get_or rest 0 0) dot) ≢ Equal
      → slice_cmp nat_cmp text (front ++ dot ∷ back) ≡ ordering_then (slice_cmp nat_cmp start front) (nat_cmp (get_or rest 0 0) dot)
  differs-before back some differs =
      ap (λ t. slice_cmp nat_cmp t (front ++ dot ∷ back)) parts ∙ along-fronts start front rest (dot ∷ back) long
      ∙ by_rest rest some differs where
        by_rest : (r : List ℕ) → 0 < length r → ordering_then (slice_cmp nat_cmp start front) (nat_cmp (get_or r 0 0) dot) ≢ Equal
            → ordering_then (slice_cmp nat_cmp start front) (slice_cmp nat_cmp r (dot ∷ back))
            ≡ ordering_then (slice_cmp nat_cmp start front) (nat_cmp (get_or r 0 0) dot)
        by_rest [] some differs = absurd (omega (arith, some))
        by_rest (b ∷ bs) some differs = then-stops (slice_cmp nat_cmp start front) (nat_cmp b dot) (slice_cmp nat_cmp bs back) differs

-- what follows the front and the dot decides
pub after-front : (front rest back : List ℕ)
    → slice_cmp nat_cmp (front ++ dot ∷ rest) (front ++ dot ∷ back) ≡ slice_cmp nat_cmp rest back
after-front front rest back = along-fronts front front (dot ∷ rest) (dot ∷ back) refl
    ∙ ap (λ o. ordering_then o (slice_cmp nat_cmp rest back)) (tied front) where
      tied : (xs : List ℕ) → slice_cmp nat_cmp xs xs ≡ Equal
      tied xs = tied_itself nat_list_cmp_total xs

-- the names after the first
abbrev pub rest_of : Names → Names
rest_of names = take (length names - 1) (drop 1 names)

more-not_none : (n : ℕ) → (suc n == 0) ≡ false
more-not_none n = ne_eqb (suc n) 0 (λ is. omega (arith, is))

-- names of which there are more than one are the first, a dot and the rest
pub joined-more : (names : Names) (first : Name) → 1 ≤ length names → first ≡ get_or names 0 first
    → (length (rest_of names) == 0) ≡ false → joined_names names ≡ first ++ dot ∷ joined_names (rest_of names)
joined-more [] first some is more = absurd (omega (arith, some))
joined-more (name ∷ []) first some is more = absurd (true≢false more)
joined-more (name ∷ next ∷ rest) first some is more =
    ap (λ (start : Name). start ++ dot ∷ joined next rest) (sym is)
    ∙ ap (λ names. first ++ dot ∷ joined_names names)
    (sym (take_all (length (name ∷ next ∷ rest) - 1) (next ∷ rest) (omega arith)))

pub joined-only : (names : Names) (first : Name) → 1 ≤ length names → first ≡ get_or names 0 first
    → (length (rest_of names) == 0) ≡ true → joined_names names ≡ first
joined-only [] first some is only = absurd (omega (arith, some))
joined-only (name ∷ []) first some is only = sym is
joined-only (name ∷ next ∷ rest) first some is only =
    absurd (true≢false (sym only
    ∙ ap (λ (names : Names). length names == 0) (take_all (length (name ∷ next ∷ rest) - 1) (next ∷ rest) (omega arith))
    ∙ more-not_none (length rest)))
