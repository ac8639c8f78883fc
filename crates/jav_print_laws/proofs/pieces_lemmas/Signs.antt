-- Symbols, and which bytes go on with nothing.
use Rattle.std.proofs.Common.{◌≡◌, ◌⊎◌, inl, inr, ℕ, ◌<◌, ◌≤◌, Bool, true, false, ◌&&◌, ◌||◌, List, [], ◌∷◌, ◌++◌, length, get_or, refl, arith, cond, nat_eq, codes}
use Rattle.std.specs.Prelude.{not, nat_lt}
use Rattle.std.specs.List.{list_any, list_all}
use Rattle.std.proofs.lemmas.Bool.{and_parts, or_cases, cases_Bool, cond_both, ltb-true, eqb-true, not-true}
use Rattle.std.proofs.lemmas.Bool.Decides.{nat_tests}
use Rattle.mol_base.specs.Lexical.Characters.{first, second, third, is_digit}
use Rattle.mol_base.specs.Lexical.Symbols.{symbol, is_symbol_1, is_symbol_2, is_symbol_3, is_symbol_4, takes_equals, comes_twice}
use Rattle.mol_base.specs.declared.token_kind.TokenKind.{TokenKind}
use Rattle.mol_base.specs.declared.token_kind.TokenKind.TheVariants.{Symbol}
use Rattle.mol_base.specs.declared.lexical.front.Front.{Front}
use Rattle.mol_base.specs.declared.lexical.front.Front.TheVariants.{Taken, Wrong}
use Rattle.mol_base.specs.declared.lexical.front.Flaw.TheVariants.{BadChar}
use Rattle.mol_base.proofs.FirstChar.{false_unless}
use Rattle.jav_print_laws.specs.pieces.Pieces.{ends_symbol}

abbrev chosen : Bool → Bool → Bool → Bool → Front
chosen t4 t3 t2 t1 = cond t4 (Taken Symbol 4) (cond t3 (Taken Symbol 3) (cond t2 (Taken Symbol 2) (cond t1 (Taken Symbol 1) (Wrong BadChar 0))))

lens : (m n : ℕ) (kind : TokenKind) → Taken Symbol m ≡ Taken kind n → m ≡ n
lens m n kind is = cc

-- how long the symbol is says which test holds
only_one : (t4 t3 t2 t1 : Bool) (kind : TokenKind) → chosen t4 t3 t2 t1 ≡ Taken kind 1 → (t1 ≡ true) × (Symbol ≡ kind)
only_one true t3 t2 t1 kind is = absurd (omega (arith, lens 4 1 kind is))
only_one false true t2 t1 kind is = absurd (omega (arith, lens 3 1 kind is))
only_one false false true t1 kind is = absurd (omega (arith, lens 2 1 kind is))
only_one false false false true kind is = (refl, cc)
only_one false false false false kind is = absurd cc

only_two : (t4 t3 t2 t1 : Bool) (kind : TokenKind) → chosen t4 t3 t2 t1 ≡ Taken kind 2 → (t2 ≡ true) × (Symbol ≡ kind)
only_two true t3 t2 t1 kind is = absurd (omega (arith, lens 4 2 kind is))
only_two false true t2 t1 kind is = absurd (omega (arith, lens 3 2 kind is))
only_two false false true t1 kind is = (refl, cc)
only_two false false false true kind is = absurd (omega (arith, lens 1 2 kind is))
only_two false false false false kind is = absurd cc

only_three : (t4 t3 t2 t1 : Bool) (kind : TokenKind) → chosen t4 t3 t2 t1 ≡ Taken kind 3 → (t3 ≡ true) × (Symbol ≡ kind)
only_three true t3 t2 t1 kind is = absurd (omega (arith, lens 4 3 kind is))
only_three false true t2 t1 kind is = (refl, cc)
only_three false false true t1 kind is = absurd (omega (arith, lens 2 3 kind is))
only_three false false false true kind is = absurd (omega (arith, lens 1 3 kind is))
only_three false false false false kind is = absurd cc

at_most_four : (t4 t3 t2 t1 : Bool) (kind : TokenKind) (n : ℕ) → chosen t4 t3 t2 t1 ≡ Taken kind n → n ≤ 4
at_most_four true t3 t2 t1 kind n is = omega (arith, lens 4 n kind is)
at_most_four false true t2 t1 kind n is = omega (arith, lens 3 n kind is)
at_most_four false false true t1 kind n is = omega (arith, lens 2 n kind is)
at_most_four false false false true kind n is = omega (arith, lens 1 n kind is)
at_most_four false false false false kind n is = absurd cc

only_four : (t4 t3 t2 t1 : Bool) (kind : TokenKind) → chosen t4 t3 t2 t1 ≡ Taken kind 4 → (t4 ≡ true) × (Symbol ≡ kind)
only_four true t3 t2 t1 kind is = (refl, cc)
only_four false true t2 t1 kind is = absurd (omega (arith, lens 3 4 kind is))
only_four false false true t1 kind is = absurd (omega (arith, lens 2 4 kind is))
only_four false false false true kind is = absurd (omega (arith, lens 1 4 kind is))
only_four false false false false kind is = absurd cc

kind_chosen : (t4 t3 t2 t1 : Bool) (kind : TokenKind) (n : ℕ) → chosen t4 t3 t2 t1 ≡ Taken kind n → Symbol ≡ kind
kind_chosen true t3 t2 t1 kind n is = cc
kind_chosen false true t2 t1 kind n is = cc
kind_chosen false false true t1 kind n is = cc
kind_chosen false false false true kind n is = cc
kind_chosen false false false false kind n is = absurd cc

pub symbol-kind : (t : List ℕ) (kind : TokenKind) (n : ℕ) → symbol t ≡ Taken kind n → Symbol ≡ kind
unfolding symbol
symbol-kind t kind n is = kind_chosen _ _ _ _ kind n is

-- a longer symbol begins with a shorter one, but for dots
signs_of_four : (a b c d : ℕ) → is_symbol_4 a b c d ≡ true → (a ≡ 62) × (b ≡ 62) × (c ≡ 62)
signs_of_four a b c d h = (grind (arith, nat_tests, h), grind (arith, nat_tests, h), grind (arith, nat_tests, h))

four_is_three : (a b c d : ℕ) → is_symbol_3 a b c ≡ false → is_symbol_4 a b c d ≡ false
four_is_three a b c d fails = false_unless _ (λ is. let h = signs_of_four a b c d is in let yes : is_symbol_3 a b c ≡ true = rw (h.0, h.1, h.2) refl in absurd cc)

four_is_two : (a b c d : ℕ) → is_symbol_2 a b ≡ false → is_symbol_4 a b c d ≡ false
four_is_two a b c d fails = false_unless _ (λ is. let h = signs_of_four a b c d is in let yes : is_symbol_2 a b ≡ true = rw (h.0, h.1) refl in absurd cc)

sign_of_three : (a b c : ℕ) → is_symbol_3 a b c ≡ true → (a ≡ b) × ((a ≡ 46) ⊎ ((a ≡ 62) ⊎ (a ≡ 60)))
sign_of_three a b c h = let parts = and_parts (nat_eq a b) _ h in (eqb-true a b parts.0, by_sign (cases_Bool (nat_eq a 46)) (cases_Bool (nat_eq a 62))) where
  by_sign : ((nat_eq a 46 ≡ true) ⊎ (nat_eq a 46 ≡ false)) → ((nat_eq a 62 ≡ true) ⊎ (nat_eq a 62 ≡ false)) → (a ≡ 46) ⊎ ((a ≡ 62) ⊎ (a ≡ 60))
  by_sign (inl x) y = inl (eqb-true a 46 x)
  by_sign (inr x) (inl y) = inr (inl (eqb-true a 62 y))
  by_sign (inr x) (inr y) = inr (inr (grind (arith, nat_tests, h, x, y)))

three_is_two : (a b c : ℕ) → is_symbol_2 a b ≡ false → (nat_eq a 46 && nat_eq b 46) ≡ false → is_symbol_3 a b c ≡ false
three_is_two a b c fails dots = false_unless _ (λ is. let h = sign_of_three a b c is in by_sign h.0 h.1) where
  by_sign : a ≡ b → (a ≡ 46) ⊎ ((a ≡ 62) ⊎ (a ≡ 60)) → ⊥
  by_sign same (inl x) = let y : b ≡ 46 = omega arith in let yes : (nat_eq a 46 && nat_eq b 46) ≡ true = rw (x, y) refl in cc
  by_sign same (inr (inl x)) = let y : b ≡ 62 = omega arith in let yes : is_symbol_2 a b ≡ true = rw (x, y) refl in cc
  by_sign same (inr (inr x)) = let y : b ≡ 60 = omega arith in let yes : is_symbol_2 a b ≡ true = rw (x, y) refl in cc

-- what the test on one sign says
pub one_sign : (a b : ℕ) → ends_symbol (a ∷ []) b ≡ true → (is_symbol_2 a b ≡ false) × ((nat_eq a 46 && (nat_eq b 46 || is_digit b)) ≡ false) × ((nat_eq a 47 && (nat_eq b 47 || nat_eq b 42)) ≡ false)
one_sign a b h = parts (is_symbol_2 a b) _ _ h where
  parts : (x y z : Bool) → (not x && not y && not z) ≡ true → (x ≡ false) × (y ≡ false) × (z ≡ false)
  parts false false false h = (refl, refl, refl)
  parts true y z h = absurd cc
  parts false true z h = absurd cc
  parts false false true h = absurd cc

left_false : (x y z : Bool) → (x && (y || z)) ≡ false → (x && y) ≡ false
left_false true true z h = h
left_false true false z h = refl
left_false false y z h = refl

pub symbol-followed : (t r : List ℕ) (kind : TokenKind) → symbol t ≡ Taken kind (length t) → ends_symbol t (first r) ≡ true → symbol (t ++ r) ≡ Taken kind (length t)
unfolding symbol
symbol-followed [] r kind is ends = absurd cc
symbol-followed (a ∷ []) r kind is ends =
    let here = only_one _ _ _ _ kind is in
    let fails = one_sign a (first r) ends in
    let dots = left_false (nat_eq a 46) (nat_eq (first r) 46) _ fails.1 in
    rw (four_is_two a (first r) (second r) (third r) fails.0, three_is_two a (first r) (second r) fails.0 dots, fails.0, here.0, here.1) refl
symbol-followed (a ∷ c ∷ []) r kind is ends =
    let here = only_two _ _ _ _ kind is in
    let fails : is_symbol_3 a c (first r) ≡ false = not-true _ ends in
    rw (four_is_three a c (first r) (second r) fails, fails, here.0, here.1) refl
symbol-followed (a ∷ c ∷ d ∷ []) r kind is ends =
    let here = only_three _ _ _ _ kind is in
    let fails : is_symbol_4 a c d (first r) ≡ false = not-true _ ends in
    rw (fails, here.0, here.1) refl
symbol-followed (a ∷ c ∷ d ∷ e ∷ []) r kind is ends =
    let here = only_four _ _ _ _ kind is in rw (here.0, here.1) refl
symbol-followed (a ∷ c ∷ d ∷ e ∷ f ∷ t) r kind is ends =
    let long = at_most_four _ _ _ _ kind (length (a ∷ c ∷ d ∷ e ∷ f ∷ t)) is in absurd (omega arith)

-- a symbol begins with an ASCII sign
below : (a n : ℕ) (xs : List ℕ) → list_all (λ x. nat_lt x n) xs ≡ true → list_any (λ x. nat_eq x a) xs ≡ true → a < n
below a n [] low here = absurd cc
below a n (x ∷ xs) low here =
    let parts = and_parts (nat_lt x n) (list_all (λ y. nat_lt y n) xs) low in
    elim (or_cases (nat_eq x a) (list_any (λ y. nat_eq y a) xs) here) [ inl is ↦ omega (arith, ltb-true x n parts.0, eqb-true x a is) | inr more ↦ below a n xs parts.1 more ]

two_low : (a b : ℕ) → is_symbol_2 a b ≡ true → a < 128
two_low a b h =
    elim (or_cases ((nat_eq b 61 && takes_equals a) || (nat_eq a b && comes_twice a)) (nat_eq a 45 && nat_eq b 62) h) [
      | inl either ↦ elim (or_cases (nat_eq b 61 && takes_equals a) (nat_eq a b && comes_twice a) either) [
        | inl equals ↦ below a 128 (codes "=><!+-*/&|^%") refl (and_parts (nat_eq b 61) (takes_equals a) equals).1
        | inr twice' ↦ below a 128 (codes ":&|+-<>") refl (and_parts (nat_eq a b) (comes_twice a) twice').1
      ]
      | inr arrow ↦ grind (arith, nat_tests, (and_parts (nat_eq a 45) (nat_eq b 62) arrow).0)
    ]

pub symbol-low : (t : List ℕ) (kind : TokenKind) (n : ℕ) → symbol t ≡ Taken kind n → first t < 128
unfolding symbol
symbol-low t kind n is =
    let a = first t in let b = second t in let c = third t in let d = get_or t 3 0 in
    cond_both (is_symbol_4 a b c d) (Taken Symbol 4) _ (λ x. x ≡ Taken kind n → a < 128) (λ is4 _. omega (arith, (signs_of_four a b c d is4).0))
    (λ _. cond_both (is_symbol_3 a b c) (Taken Symbol 3) _ (λ x. x ≡ Taken kind n → a < 128) (λ is3 _. elim (sign_of_three a b c is3).1 [ inl x ↦ omega arith | inr y ↦ elim y [ inl x ↦ omega arith | inr x ↦ omega arith ] ])
    (λ _. cond_both (is_symbol_2 a b) (Taken Symbol 2) _ (λ x. x ≡ Taken kind n → a < 128) (λ is2 _. two_low a b is2)
    (λ _. cond_both (is_symbol_1 a) (Taken Symbol 1) (Wrong BadChar 0) (λ x. x ≡ Taken kind n → a < 128) (λ is1 _. below a 128 (codes "(){}[];,.@=><!~?:+-*/&|^%") refl is1) (λ _ wrong. absurd cc)))) is
