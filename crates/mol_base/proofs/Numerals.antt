-- Numbers by their form, and the run of letters and digits that is taken as one.
use Rattle.std.proofs.Common.{◌≡◌, ◌≢◌, ◌⊎◌, inl, inr, ℕ, suc, ◌+◌, ◌-◌, Bool, true, false, ◌&&◌, ◌||◌, List, [], ◌∷◌, ◌++◌, take, drop, length, get_or, replicate, refl, sym, ◌∙◌, ap, subst, arith, cond, nat_eq, append_assoc, length-append}
use Rattle.std.specs.Prelude.{All, IsTrue}
use Rattle.std.specs.Int.{is_in_range}
use Rattle.std.specs.List.{list_any, list_all}
use Rattle.std.proofs.lemmas.Bool.{and_parts, and_from, and_right, or_cases, or_from, or_left, or_right, cond_both, cond-true, eqb-true, eqb-false, eq-eqb, cases_Bool}
use Rattle.std.proofs.lemmas.Bool.Decides.{nat_tests}
use Rattle.std.proofs.lemmas.List.{append-nil}
use Rattle.std.proofs.lemmas.List.Folds.{list_all-append}
use Rattle.std.proofs.lemmas.List.Elements.{All-nil, All-cons, All-head, All-tail, All-append, All-replicate}
use Rattle.mol_base.specs.Lexical.Characters.{is_digit, first, second}
use Rattle.mol_base.specs.Lexical.Numbers.{is_digit_of, may_be_inside, all_inside, is_digits, is_integer, is_float, is_run_byte, run_len, begins_hexadecimal, begins_binary, is_float_letter, is_exponent_letter, is_long, without_suffix, number}
use Rattle.mol_base.specs.Lexical.Forms.Number.{IsDigits, single, several, IsNumeral, zero as nought, decimal, octal, hexadecimal, binary, IsNumber, plain, long}
use Rattle.mol_base.specs.Lexical.Front.{IsWhole}
use Rattle.mol_base.specs.declared.token_kind.TokenKind.{TokenKind}
use Rattle.mol_base.specs.declared.token_kind.TokenKind.TheVariants.{Literal}
use Rattle.mol_base.specs.declared.lexical.front.Front.TheVariants.{Taken, Wrong}
use Rattle.mol_base.specs.declared.lexical.front.Flaw.TheVariants.{FloatLiteral, BadNumber}
use Rattle.mol_base.specs.declared.lexical.numbers.Radix.{Radix}
use Rattle.mol_base.specs.declared.lexical.numbers.Radix.TheVariants.{Binary, Octal, Decimal, Hexadecimal}
use Rattle.std.proofs.Math.Seq.{take-append_seam}
use Rattle.mol_base.proofs.Fronts.{front-number}

-- a byte that a test lets pass
all_weaker : (p q : ℕ → Bool) → ((x : ℕ) → p x ≡ true → q x ≡ true) → (xs : List ℕ) → list_all p xs ≡ true → list_all q xs ≡ true
all_weaker p q imp [] h = refl
all_weaker p q imp (x ∷ xs) h = let both = and_parts (p x) (list_all p xs) h in and_from (q x) (list_all q xs) (imp x both.0) (all_weaker p q imp xs both.1)

none_of : (p q : ℕ → Bool) → ((x : ℕ) → p x ≡ true → q x ≡ false) → (xs : List ℕ) → list_all p xs ≡ true → list_any q xs ≡ false
none_of p q never [] h = refl
none_of p q never (x ∷ xs) h = let both = and_parts (p x) (list_all p xs) h in or_from (q x) (list_any q xs) (never x both.0) (none_of p q never xs both.1)

list_all-All : (radix : Radix) (xs : List ℕ) → All (λ byte. IsTrue (is_digit_of radix byte) ⊎ (byte ≡ 95)) xs → all_inside radix xs ≡ true
list_all-All radix [] all = refl
list_all-All radix (x ∷ xs) all =
    let P : ℕ → Type 0 = λ byte. IsTrue (is_digit_of radix byte) ⊎ (byte ≡ 95) in
    and_from (may_be_inside radix x) (all_inside radix xs)
    (elim (All-head P x xs all) [ inl digit ↦ or_left (is_digit_of radix x) (nat_eq x 95) digit | inr line ↦ or_right (is_digit_of radix x) (nat_eq x 95) (eq-eqb x 95 line) ])
    (list_all-All radix xs (All-tail P x xs all))

All-list_all : (radix : Radix) (xs : List ℕ) → all_inside radix xs ≡ true → All (λ byte. IsTrue (is_digit_of radix byte) ⊎ (byte ≡ 95)) xs
All-list_all radix [] all = All-nil (λ byte. IsTrue (is_digit_of radix byte) ⊎ (byte ≡ 95))
All-list_all radix (x ∷ xs) all =
    let P : ℕ → Type 0 = λ byte. IsTrue (is_digit_of radix byte) ⊎ (byte ≡ 95) in
    let both = and_parts (may_be_inside radix x) (all_inside radix xs) all in
    All-cons P x xs (elim (or_cases (is_digit_of radix x) (nat_eq x 95) both.0) [ inl digit ↦ inl digit | inr line ↦ inr (eqb-true x 95 line) ]) (All-list_all radix xs both.1)

-- the last byte of a list
last_of : (xs : List ℕ) (x : ℕ) → get_or (xs ++ x ∷ []) (length (xs ++ x ∷ []) - 1) 0 ≡ x
last_of [] x = refl
last_of (y ∷ ys) x =
    let len : length (ys ++ x ∷ []) ≡ length ys + 1 = length-append ys (x ∷ []) in
    let same : suc (length (ys ++ x ∷ [])) - 1 ≡ suc (length (ys ++ x ∷ []) - 1) = omega arith in
    rw same (last_of ys x)

split_last : (x : ℕ) (xs : List ℕ) → (init : List ℕ) × (x ∷ xs ≡ init ++ get_or (x ∷ xs) (length xs) 0 ∷ [])
split_last x [] = ([], refl)
split_last x (y ∷ ys) = let rest = split_last y ys in (x ∷ rest.0, ap (λ (zs : List ℕ). x ∷ zs) rest.1)

-- digits with underscores between them
is_digits-IsDigits : (radix : Radix) (bytes : List ℕ) → IsDigits radix bytes → is_digits radix bytes ≡ true
unfolding is_digits
is_digits-IsDigits radix bytes (single digit e is) = let P : List ℕ → Type 0 = λ xs. is_digits radix xs ≡ true in subst P (sym e) (rw is refl)
is_digits-IsDigits radix bytes (several f middle l e first-is last-is inside) =
    let P : List ℕ → Type 0 = λ xs. is_digits radix xs ≡ true in
    let last : get_or (f ∷ (middle ++ l ∷ [])) (length (f ∷ (middle ++ l ∷ [])) - 1) 0 ≡ l = last_of (f ∷ middle) l in
    let all : list_all (may_be_inside radix) (middle ++ l ∷ []) ≡ true =
    list_all-append (may_be_inside radix) middle (l ∷ []) ∙ and_from (all_inside radix middle) (all_inside radix (l ∷ [])) (list_all-All radix middle inside) (rw last-is refl) in
    subst P (sym e) (rw (last, first-is, last-is, all) refl)

no_digit_0 : (radix : Radix) → is_digit_of radix 0 ≡ false
no_digit_0 Binary = refl
no_digit_0 Octal = refl
no_digit_0 Decimal = refl
no_digit_0 Hexadecimal = refl

IsDigits-is_digits : (radix : Radix) (bytes : List ℕ) → is_digits radix bytes ≡ true → IsDigits radix bytes
unfolding is_digits
IsDigits-is_digits radix [] h = let none = no_digit_0 radix in absurd cc
IsDigits-is_digits radix (x ∷ []) h =
    let parts = and_parts (is_digit_of radix x && is_digit_of radix x) (all_inside radix (x ∷ [])) h in
    single x refl (and_parts (is_digit_of radix x) (is_digit_of radix x) parts.0).0
IsDigits-is_digits radix (x ∷ y ∷ ys) h =
    let parts = and_parts (is_digit_of radix x && is_digit_of radix (get_or (x ∷ y ∷ ys) (suc (suc (length ys)) - 1) 0)) (all_inside radix (x ∷ y ∷ ys)) h in
    let ends = and_parts (is_digit_of radix x) (is_digit_of radix (get_or (x ∷ y ∷ ys) (suc (suc (length ys)) - 1) 0)) parts.0 in
    let at : suc (suc (length ys)) - 1 ≡ suc (length ys) = omega arith in
    let last : is_digit_of radix (get_or (y ∷ ys) (length ys) 0) ≡ true = rw at at ends.1 in
    let rest = split_last y ys in
    let inside = and_parts (may_be_inside radix x) (all_inside radix (y ∷ ys)) parts.1 in
    let l = get_or (y ∷ ys) (length ys) 0 in
    let all : list_all (may_be_inside radix) (rest.0 ++ l ∷ []) ≡ true = rw (sym rest.1) inside.1 in
    let middle = and_parts (all_inside radix rest.0) (all_inside radix (l ∷ [])) (sym (list_all-append (may_be_inside radix) rest.0 (l ∷ [])) ∙ all) in
    several x rest.0 l (ap (λ (zs : List ℕ). x ∷ zs) rest.1) ends.0 last (All-list_all radix rest.0 middle.0)

-- by what a number without suffix begins with
by_form : (m : List ℕ) (P : List ℕ → Type 0) → is_integer m ≡ true → ((x : ℕ) (digits : List ℕ) → (x ≡ 120) ⊎ (x ≡ 88) → is_digits Hexadecimal digits ≡ true → P (48 ∷ x ∷ digits))
    → ((x : ℕ) (digits : List ℕ) → (x ≡ 98) ⊎ (x ≡ 66) → is_digits Binary digits ≡ true → P (48 ∷ x ∷ digits))
    → (begins_hexadecimal m ≡ false → first m ≡ 48 → is_digits Octal m ≡ true → P m)
    → (begins_hexadecimal m ≡ false → first m ≢ 48 → is_digits Decimal m ≡ true → P m) → P m
unfolding is_integer
by_form m P is hexadecimal' binary' octal' decimal' =
    cond_both (begins_hexadecimal m) (is_digits Hexadecimal (drop 2 m)) _ (λ t. t ≡ true → P m)
    (λ begins digits. let parts = and_parts (nat_eq (first m) 48) (nat_eq (second m) 120 || nat_eq (second m) 88) begins in
    two m (eqb-true _ _ parts.0) (or_cases (nat_eq (second m) 120) (nat_eq (second m) 88) parts.1) digits)
    (λ no_hexadecimal. cond_both (begins_binary m) (is_digits Binary (drop 2 m)) _ (λ t. t ≡ true → P m)
    (λ begins digits. let parts = and_parts (nat_eq (first m) 48) (nat_eq (second m) 98 || nat_eq (second m) 66) begins in
    two_binary m (eqb-true _ _ parts.0) (or_cases (nat_eq (second m) 98) (nat_eq (second m) 66) parts.1) digits)
    (λ _. cond_both (nat_eq (first m) 48) (is_digits Octal m) (is_digits Decimal m) (λ t. t ≡ true → P m)
    (λ nought' digits. octal' no_hexadecimal (eqb-true _ _ nought') digits) (λ other digits. decimal' no_hexadecimal (eqb-false _ _ other) digits))) is
  where
    two : (r : List ℕ) → first r ≡ 48 → ((nat_eq (second r) 120 ≡ true) ⊎ (nat_eq (second r) 88 ≡ true)) → is_digits Hexadecimal (drop 2 r) ≡ true → P r
    two [] zero' either digits = absurd (omega arith)
    two (a ∷ []) zero' either digits = absurd (elim either [ inl is ↦ cc | inr is ↦ cc ])
    two (a ∷ b ∷ digits') zero' either digits =
        let letter : (b ≡ 120) ⊎ (b ≡ 88) = elim either [ inl is ↦ inl (eqb-true b 120 is) | inr is ↦ inr (eqb-true b 88 is) ] in
        let Q : ℕ → Type 0 = λ x. P (x ∷ b ∷ digits') in
        subst Q (sym zero') (hexadecimal' b digits' letter digits)

    two_binary : (r : List ℕ) → first r ≡ 48 → ((nat_eq (second r) 98 ≡ true) ⊎ (nat_eq (second r) 66 ≡ true)) → is_digits Binary (drop 2 r) ≡ true → P r
    two_binary [] zero' either digits = absurd (omega arith)
    two_binary (a ∷ []) zero' either digits = absurd (elim either [ inl is ↦ cc | inr is ↦ cc ])
    two_binary (a ∷ b ∷ digits') zero' either digits =
        let letter : (b ≡ 98) ⊎ (b ≡ 66) = elim either [ inl is ↦ inl (eqb-true b 98 is) | inr is ↦ inr (eqb-true b 66 is) ] in
        let Q : ℕ → Type 0 = λ x. P (x ∷ b ∷ digits') in
        subst Q (sym zero') (binary' b digits' letter digits)

-- after the first `0`: underscores and then octal digits
octal_rest : (middle : List ℕ) (last : ℕ) → All (λ byte. IsTrue (is_digit_of Octal byte) ⊎ (byte ≡ 95)) middle → is_digit_of Octal last ≡ true
    → (n : ℕ) × (digits : List ℕ) × (middle ++ last ∷ [] ≡ replicate n 95 ++ digits) × IsDigits Octal digits
octal_rest [] last all is = (0, last ∷ [], refl, single last refl is)
octal_rest (x ∷ xs) last all is =
    let P : ℕ → Type 0 = λ byte. IsTrue (is_digit_of Octal byte) ⊎ (byte ≡ 95) in
    elim (All-head P x xs all) [
      | inl digit ↦ (0, x ∷ (xs ++ last ∷ []), refl, several x xs last refl digit is (All-tail P x xs all))
      | inr line ↦ let rest = octal_rest xs last (All-tail P x xs all) is in let spelled = rest.2 in (suc rest.0, rest.1, cc, rest.3)
    ]

octal_numeral : (m : List ℕ) → first m ≡ 48 → IsDigits Octal m → IsNumeral m
octal_numeral m zero' (single d e is) = nought (e ∙ ap (λ (x : ℕ). x ∷ []) (ap first (sym e) ∙ zero'))
octal_numeral m zero' (several f middle l e first-is last-is inside) =
    let rest = octal_rest middle l inside last-is in
    let is : f ≡ 48 = ap first (sym e) ∙ zero' in
    let spelled : middle ++ l ∷ [] ≡ replicate rest.0 95 ++ rest.1 = rest.2 in
    octal rest.0 rest.1 (e ∙ cc) rest.3

decimal_numeral : (m : List ℕ) → first m ≢ 48 → IsDigits Decimal m → is_digits Decimal m ≡ true → IsNumeral m
unfolding is_digits
decimal_numeral [] other is digits = let none = no_digit_0 Decimal in absurd cc
decimal_numeral (x ∷ xs) other is digits =
    let parts = and_parts (is_digit_of Decimal x && is_digit_of Decimal (get_or (x ∷ xs) (length (x ∷ xs) - 1) 0)) (all_inside Decimal (x ∷ xs)) digits in
    let ends = and_parts (is_digit_of Decimal x) (is_digit_of Decimal (get_or (x ∷ xs) (length (x ∷ xs) - 1) 0)) parts.0 in
    decimal x xs refl (positive x other ends.0) is
  where
    positive : (d : ℕ) → d ≢ 48 → is_digit d ≡ true → is_in_range 49 57 d ≡ true
    positive d other is = grind (arith, nat_tests, is, other)

spelled_with : (x a b : ℕ) (digits : List ℕ) → (x ≡ a) ⊎ (x ≡ b) → (48 ∷ x ∷ digits ≡ 48 ∷ a ∷ digits) ⊎ (48 ∷ x ∷ digits ≡ 48 ∷ b ∷ digits)
spelled_with x a b digits (inl is) = inl (ap (λ (c : ℕ). 48 ∷ c ∷ digits) is)
spelled_with x a b digits (inr is) = inr (ap (λ (c : ℕ). 48 ∷ c ∷ digits) is)

pub IsNumeral-is_integer : (m : List ℕ) → is_integer m ≡ true → IsNumeral m
IsNumeral-is_integer m is =
    by_form m IsNumeral is (λ x digits letter all. hexadecimal digits (spelled_with x 120 88 digits letter) (IsDigits-is_digits Hexadecimal digits all))
    (λ x digits letter all. binary digits (spelled_with x 98 66 digits letter) (IsDigits-is_digits Binary digits all))
    (λ _ zero' all. octal_numeral m zero' (IsDigits-is_digits Octal m all)) (λ _ other all. decimal_numeral m other (IsDigits-is_digits Decimal m all) all)

octal_more : (n : ℕ) (digits : List ℕ) → IsDigits Octal digits → IsDigits Octal (48 ∷ (replicate n 95 ++ digits))
octal_more n digits (single d e is) =
    several 48 (replicate n 95) d (ap (λ (xs : List ℕ). 48 ∷ (replicate n 95 ++ xs)) e) refl is (All-replicate (λ byte. IsTrue (is_digit_of Octal byte) ⊎ (byte ≡ 95)) n 95 (inr refl))
octal_more n digits (several f middle l e first-is last-is inside) =
    let P : ℕ → Type 0 = λ byte. IsTrue (is_digit_of Octal byte) ⊎ (byte ≡ 95) in
    several 48 (replicate n 95 ++ f ∷ middle) l (ap (λ (xs : List ℕ). 48 ∷ (replicate n 95 ++ xs)) e ∙ ap (λ (xs : List ℕ). 48 ∷ xs) (sym (append_assoc (replicate n 95) (f ∷ middle) (l ∷ [])))) refl last-is
    (All-append P (replicate n 95) (f ∷ middle) (All-replicate P n 95 (inr refl)) (All-cons P f middle (inl first-is) inside))

-- the second byte of an octal number is no letter
octal_second : (b : ℕ) → may_be_inside Octal b ≡ true → (begins_hexadecimal (48 ∷ b ∷ []) ≡ false) × (begins_binary (48 ∷ b ∷ []) ≡ false)
octal_second b h = (grind (arith, nat_tests, h), grind (arith, nat_tests, h))

octal_integer : (m : List ℕ) → first m ≡ 48 → is_digits Octal m ≡ true → is_integer m ≡ true
unfolding is_integer is_digits
octal_integer [] zero' digits = absurd (omega arith)
octal_integer (a ∷ []) zero' digits = rw zero' refl
octal_integer (a ∷ b ∷ bs) zero' digits =
    let parts = and_parts (is_digit_of Octal a && is_digit_of Octal (get_or (a ∷ b ∷ bs) (length (a ∷ b ∷ bs) - 1) 0)) (all_inside Octal (a ∷ b ∷ bs)) digits in
    let inside = and_parts (may_be_inside Octal a) (all_inside Octal (b ∷ bs)) parts.1 in
    let second-inside = and_parts (may_be_inside Octal b) (all_inside Octal bs) inside.1 in
    let letters = octal_second b second-inside.0 in
    let P : ℕ → Type 0 = λ x. is_digits Octal (x ∷ b ∷ bs) ≡ true → is_integer (x ∷ b ∷ bs) ≡ true in
    subst P (sym zero') (λ all. rw (letters.0, letters.1) all) digits

decimal_integer : (f : ℕ) (others : List ℕ) → is_in_range 49 57 f ≡ true → is_digits Decimal (f ∷ others) ≡ true → is_integer (f ∷ others) ≡ true
unfolding is_integer
decimal_integer f others high digits = let no : nat_eq f 48 ≡ false = grind (arith, nat_tests, high) in rw no digits

pub is_integer-IsNumeral : (m : List ℕ) → IsNumeral m → is_integer m ≡ true
unfolding is_integer
is_integer-IsNumeral m (nought e) = let P : List ℕ → Type 0 = λ xs. is_integer xs ≡ true in subst P (sym e) (octal_integer (48 ∷ []) refl (is_digits-IsDigits Octal (48 ∷ []) (single 48 refl refl)))
is_integer-IsNumeral m (decimal f others e high digits) =
    let P : List ℕ → Type 0 = λ xs. IsDigits Decimal xs → is_integer xs ≡ true in
    subst P (sym e) (λ all. decimal_integer f others high (is_digits-IsDigits Decimal (f ∷ others) all)) digits
is_integer-IsNumeral m (octal n digits e all) =
    let P : List ℕ → Type 0 = λ xs. is_integer xs ≡ true in
    subst P (sym e) (octal_integer (48 ∷ (replicate n 95 ++ digits)) refl (is_digits-IsDigits Octal _ (octal_more n digits all)))
is_integer-IsNumeral m (hexadecimal digits (inl e) all) = let P : List ℕ → Type 0 = λ xs. is_integer xs ≡ true in subst P (sym e) (is_digits-IsDigits Hexadecimal digits all)
is_integer-IsNumeral m (hexadecimal digits (inr e) all) = let P : List ℕ → Type 0 = λ xs. is_integer xs ≡ true in subst P (sym e) (is_digits-IsDigits Hexadecimal digits all)
is_integer-IsNumeral m (binary digits (inl e) all) = let P : List ℕ → Type 0 = λ xs. is_integer xs ≡ true in subst P (sym e) (is_digits-IsDigits Binary digits all)
is_integer-IsNumeral m (binary digits (inr e) all) = let P : List ℕ → Type 0 = λ xs. is_integer xs ≡ true in subst P (sym e) (is_digits-IsDigits Binary digits all)

-- the bytes of a number that is not hexadecimal, and of one that is
abbrev may_be_plain : ℕ → Bool
may_be_plain b = is_digit b || nat_eq b 95 || nat_eq b 108 || nat_eq b 76 || nat_eq b 98 || nat_eq b 66

abbrev may_be_hexadecimal : ℕ → Bool
may_be_hexadecimal b = may_be_inside Hexadecimal b || nat_eq b 108 || nat_eq b 76 || nat_eq b 120 || nat_eq b 88

plain-binary : (b : ℕ) → may_be_inside Binary b ≡ true → may_be_plain b ≡ true
plain-binary b h = grind (arith, nat_tests, h)

plain-octal : (b : ℕ) → may_be_inside Octal b ≡ true → may_be_plain b ≡ true
plain-octal b h = grind (arith, nat_tests, h)

plain-decimal : (b : ℕ) → may_be_inside Decimal b ≡ true → may_be_plain b ≡ true
plain-decimal b h = grind (arith, nat_tests, h)

hexadecimal-inside : (b : ℕ) → may_be_inside Hexadecimal b ≡ true → may_be_hexadecimal b ≡ true
hexadecimal-inside b h = rw h refl

plain-exponent : (b : ℕ) → may_be_plain b ≡ true → is_exponent_letter b ≡ false
plain-exponent b h = grind (arith, nat_tests, h)

plain-float : (b : ℕ) → may_be_plain b ≡ true → is_float_letter b ≡ false
plain-float b h = grind (arith, nat_tests, h)

plain-run : (b : ℕ) → may_be_plain b ≡ true → is_run_byte b ≡ true
plain-run b h = grind (arith, nat_tests, h)

hexadecimal-exponent : (b : ℕ) → may_be_hexadecimal b ≡ true → is_exponent_letter b ≡ false
hexadecimal-exponent b h = grind (arith, nat_tests, h)

hexadecimal-run : (b : ℕ) → may_be_hexadecimal b ≡ true → is_run_byte b ≡ true
hexadecimal-run b h = grind (arith, nat_tests, h)

digits_inside : (radix : Radix) (ds : List ℕ) → is_digits radix ds ≡ true → all_inside radix ds ≡ true
unfolding is_digits
digits_inside radix ds h = (and_parts (is_digit_of radix (first ds) && is_digit_of radix (get_or ds (length ds - 1) 0)) (all_inside radix ds) h).1

-- the bytes of a number without suffix
abbrev Bytes : List ℕ → Type 0
Bytes m = (list_all may_be_plain m ≡ true) ⊎ ((list_all may_be_hexadecimal m ≡ true) × ((suffix : List ℕ) → begins_hexadecimal (m ++ suffix) ≡ true))

begins-letter : (x : ℕ) (digits : List ℕ) → (x ≡ 120) ⊎ (x ≡ 88) → begins_hexadecimal (48 ∷ x ∷ digits) ≡ true
begins-letter x digits (inl is) = rw is refl
begins-letter x digits (inr is) = rw is refl

hexadecimal-letter : (x : ℕ) → (x ≡ 120) ⊎ (x ≡ 88) → may_be_hexadecimal x ≡ true
hexadecimal-letter x (inl is) = rw is refl
hexadecimal-letter x (inr is) = rw is refl

plain-letter : (x : ℕ) → (x ≡ 98) ⊎ (x ≡ 66) → may_be_plain x ≡ true
plain-letter x (inl is) = rw is refl
plain-letter x (inr is) = rw is refl

numeral-bytes : (m : List ℕ) → is_integer m ≡ true → Bytes m
numeral-bytes m is =
    by_form m Bytes is
    (λ x digits letter all. inr (
      and_from (may_be_hexadecimal x) (list_all may_be_hexadecimal digits) (hexadecimal-letter x letter)
          (all_weaker (may_be_inside Hexadecimal) may_be_hexadecimal hexadecimal-inside digits (digits_inside Hexadecimal digits all)),
      λ suffix. begins-letter x (digits ++ suffix) letter,
    ))
    (λ x digits letter all. inl (and_from (may_be_plain x) (list_all may_be_plain digits) (plain-letter x letter)
    (all_weaker (may_be_inside Binary) may_be_plain plain-binary digits (digits_inside Binary digits all))))
    (λ _ _ all. inl (all_weaker (may_be_inside Octal) may_be_plain plain-octal m (digits_inside Octal m all)))
    (λ _ _ all. inl (all_weaker (may_be_inside Decimal) may_be_plain plain-decimal m (digits_inside Decimal m all)))

-- with a suffix or without it is a run, and no floating-point literal
abbrev IsSuffix : List ℕ → Type 0
IsSuffix suffix = list_all (λ b. nat_eq b 108 || nat_eq b 76) suffix ≡ true

plain-suffix : (b : ℕ) → (nat_eq b 108 || nat_eq b 76) ≡ true → may_be_plain b ≡ true
plain-suffix b h = grind (arith, nat_tests, h)

hexadecimal-suffix : (b : ℕ) → (nat_eq b 108 || nat_eq b 76) ≡ true → may_be_hexadecimal b ≡ true
hexadecimal-suffix b h = grind (arith, nat_tests, h)

all_both : (p : ℕ → Bool) (m suffix : List ℕ) → list_all p m ≡ true → list_all p suffix ≡ true → list_all p (m ++ suffix) ≡ true
all_both p m suffix one two = list_all-append p m suffix ∙ and_from (list_all p m) (list_all p suffix) one two

run-suffix : (m suffix : List ℕ) → Bytes m → IsSuffix suffix → list_all is_run_byte (m ++ suffix) ≡ true
run-suffix m suffix (inl bytes) is =
    all_weaker may_be_plain is_run_byte plain-run (m ++ suffix) (all_both may_be_plain m suffix bytes (all_weaker (λ b. nat_eq b 108 || nat_eq b 76) may_be_plain plain-suffix suffix is))
run-suffix m suffix (inr bytes) is =
    all_weaker may_be_hexadecimal is_run_byte hexadecimal-run (m ++ suffix)
    (all_both may_be_hexadecimal m suffix bytes.0 (all_weaker (λ b. nat_eq b 108 || nat_eq b 76) may_be_hexadecimal hexadecimal-suffix suffix is))

no_float-suffix : (m suffix : List ℕ) → Bytes m → IsSuffix suffix → is_float (m ++ suffix) ≡ false
unfolding is_float
no_float-suffix m suffix (inl bytes) is =
    let all = all_both may_be_plain m suffix bytes (all_weaker (λ b. nat_eq b 108 || nat_eq b 76) may_be_plain plain-suffix suffix is) in
    cond_both (begins_hexadecimal (m ++ suffix)) _ _ (λ t. t ≡ false) (λ _. none_of may_be_plain is_exponent_letter plain-exponent (m ++ suffix) all)
    (λ _. and_right _ _ (none_of may_be_plain is_float_letter plain-float (m ++ suffix) all))
no_float-suffix m suffix (inr bytes) is =
    let all = all_both may_be_hexadecimal m suffix bytes.0 (all_weaker (λ b. nat_eq b 108 || nat_eq b 76) may_be_hexadecimal hexadecimal-suffix suffix is) in
    rw (bytes.1 suffix) (none_of may_be_hexadecimal is_exponent_letter hexadecimal-exponent (m ++ suffix) all)

-- a number without suffix begins and ends with a digit
decimal-first : (r : List ℕ) → is_digits Decimal r ≡ true → is_digit (first r) ≡ true
unfolding is_digits
decimal-first r all =
    (and_parts (is_digit (first r)) (is_digit_of Decimal (get_or r (length r - 1) 0))
    (and_parts (is_digit_of Decimal (first r) && is_digit_of Decimal (get_or r (length r - 1) 0)) (all_inside Decimal r) all).0).0

numeral-first : (m : List ℕ) → is_integer m ≡ true → is_digit (first m) ≡ true
numeral-first m is = by_form m (λ xs. is_digit (first xs) ≡ true) is (λ x digits letter all. refl) (λ x digits letter all. refl) (λ _ zero' _. rw zero' refl) (λ _ _ all. decimal-first m all)

digits-last : (radix : Radix) (xs ds : List ℕ) → IsDigits radix ds → is_digit_of radix (get_or (xs ++ ds) (length (xs ++ ds) - 1) 0) ≡ true
digits-last radix xs ds (single d e is) =
    let P : List ℕ → Type 0 = λ ys. is_digit_of radix (get_or (xs ++ ys) (length (xs ++ ys) - 1) 0) ≡ true in subst P (sym e) (rw (last_of xs d) is)
digits-last radix xs ds (several f middle l e first-is last-is inside) =
    let Q : List ℕ → Type 0 = λ ys. is_digit_of radix (get_or ys (length ys - 1) 0) ≡ true in
    subst Q (append_assoc xs (f ∷ middle) (l ∷ []) ∙ ap (λ (ys : List ℕ). xs ++ ys) (sym e)) (rw (last_of (xs ++ f ∷ middle) l) last-is)

no_suffix : (radix : Radix) (b : ℕ) → is_digit_of radix b ≡ true → (nat_eq b 108 || nat_eq b 76) ≡ false
no_suffix Binary b h = grind (arith, nat_tests, h)
no_suffix Octal b h = grind (arith, nat_tests, h)
no_suffix Decimal b h = grind (arith, nat_tests, h)
no_suffix Hexadecimal b h = grind (arith, nat_tests, h)

digits-no_suffix : (radix : Radix) (xs ds : List ℕ) → is_digits radix ds ≡ true → is_long (xs ++ ds) ≡ false
digits-no_suffix radix xs ds all = no_suffix radix (get_or (xs ++ ds) (length (xs ++ ds) - 1) 0) (digits-last radix xs ds (IsDigits-is_digits radix ds all))

numeral-last : (m : List ℕ) → is_integer m ≡ true → is_long m ≡ false
numeral-last m is =
    by_form m (λ xs. is_long xs ≡ false) is (λ x digits letter all. digits-no_suffix Hexadecimal (48 ∷ x ∷ []) digits all) (λ x digits letter all. digits-no_suffix Binary (48 ∷ x ∷ []) digits all)
    (λ _ _ all. digits-no_suffix Octal [] m all) (λ _ _ all. digits-no_suffix Decimal [] m all)

run_len-all : (r : List ℕ) → list_all is_run_byte r ≡ true → run_len r ≡ length r
run_len-all [] h = refl
run_len-all (b ∷ bs) h = let both = and_parts (is_run_byte b) (list_all is_run_byte bs) h in rw both.0 (omega (arith, run_len-all bs both.1))

pub take_all : (r : List ℕ) → take (length r) r ≡ r
take_all [] = refl
take_all (b ∷ bs) = ap (λ (xs : List ℕ). b ∷ xs) (take_all bs)

pub get_or-length : (r : List ℕ) → get_or r (length r) 0 ≡ 0
get_or-length [] = refl
get_or-length (b ∷ bs) = get_or-length bs

number-whole : (r : List ℕ) → list_all is_run_byte r ≡ true → is_float r ≡ false → is_integer (without_suffix r) ≡ true → number r ≡ Taken Literal (length r)
unfolding number
number-whole r run no_float is =
    let len : run_len r ≡ length r = run_len-all r run in
    rw (len, take_all r, get_or-length r, no_float, is) refl

without_suffix-none : (m : List ℕ) → is_long m ≡ false → without_suffix m ≡ m
without_suffix-none m short = rw short refl

without_suffix-one : (m : List ℕ) (x : ℕ) → (nat_eq x 108 || nat_eq x 76) ≡ true → without_suffix (m ++ x ∷ []) ≡ m
without_suffix-one m x is =
    let last : get_or (m ++ x ∷ []) (length (m ++ x ∷ []) - 1) 0 ≡ x = last_of m x in
    let len : length (m ++ x ∷ []) - 1 ≡ length m = omega (arith, length-append m (x ∷ [])) in
    let long' : is_long (m ++ x ∷ []) ≡ true = rw last is in
    cond-true (is_long (m ++ x ∷ [])) _ _ long' ∙ ap (λ (n : ℕ). take n (m ++ x ∷ [])) len ∙ take-append_seam m (x ∷ [])

append-first : (m : List ℕ) (x : ℕ) → is_digit (first m) ≡ true → first (m ++ x ∷ []) ≡ first m
append-first [] x digit = absurd cc
append-first (b ∷ bs) x digit = refl

-- a number is the whole of what is taken
long-whole : (m bytes : List ℕ) (x : ℕ) → (nat_eq x 108 || nat_eq x 76) ≡ true → IsNumeral m → bytes ≡ m ++ x ∷ [] → IsWhole Literal bytes
long-whole m bytes x suffix is e =
    let integer = is_integer-IsNumeral m is in
    let P : List ℕ → Type 0 = IsWhole Literal in
    let here : first (m ++ x ∷ []) ≡ first m = append-first m x (numeral-first m integer) in
    let list : IsSuffix (x ∷ []) = rw suffix refl in
    let bytes' = numeral-bytes m integer in
    let without : without_suffix (m ++ x ∷ []) ≡ m = without_suffix-one m x suffix in
    subst P (sym e) (front-number (m ++ x ∷ []) (ap is_digit here ∙ numeral-first m integer)
    ∙ number-whole (m ++ x ∷ []) (run-suffix m (x ∷ []) bytes' list) (no_float-suffix m (x ∷ []) bytes' list) (ap is_integer without ∙ integer))

pub IsWhole-number : (bytes : List ℕ) → IsNumber bytes → IsWhole Literal bytes
IsWhole-number bytes (plain is) =
    let integer = is_integer-IsNumeral bytes is in
    let bytes' = numeral-bytes bytes integer in
    let P : List ℕ → Type 0 = λ xs. (list_all is_run_byte xs ≡ true) × (is_float xs ≡ false) in
    let both = subst P (append-nil bytes) (run-suffix bytes [] bytes' refl, no_float-suffix bytes [] bytes' refl) in
    front-number bytes (numeral-first bytes integer) ∙ number-whole bytes both.0 both.1 (ap is_integer (without_suffix-none bytes (numeral-last bytes integer)) ∙ integer)
IsWhole-number bytes (long m is (inl e)) = long-whole m bytes 108 refl is e
IsWhole-number bytes (long m is (inr e)) = long-whole m bytes 76 refl is e

-- and what is taken as one, as a whole, is one
number_taken : (t u : Bool) (k n : ℕ) (kind : TokenKind) → cond t (Wrong FloatLiteral 0) (cond u (Taken Literal k) (Wrong BadNumber 0)) ≡ Taken kind n → (kind ≡ Literal) × (k ≡ n) × (u ≡ true)
number_taken true u k n kind is = absurd cc
number_taken false true k n kind is = (cc, cc, refl)
number_taken false false k n kind is = absurd cc

pub IsNumber-integer : (r : List ℕ) → is_integer (without_suffix r) ≡ true → IsNumber r
IsNumber-integer [] is = plain (IsNumeral-is_integer [] is)
IsNumber-integer (x ∷ xs) is = by_suffix (cases_Bool (is_long (x ∷ xs))) where
  by_suffix : ((is_long (x ∷ xs) ≡ true) ⊎ (is_long (x ∷ xs) ≡ false)) → IsNumber (x ∷ xs)
  by_suffix (inr short) = plain (IsNumeral-is_integer (x ∷ xs) (ap is_integer (sym (without_suffix-none (x ∷ xs) short)) ∙ is))
  by_suffix (inl ends) =
      let parts = split_last x xs in
      let l : ℕ = get_or (x ∷ xs) (length xs) 0 in
      let at : length (x ∷ xs) - 1 ≡ length xs = omega arith in
      let suffix : (nat_eq l 108 || nat_eq l 76) ≡ true = rw at at ends in
      let whole : x ∷ xs ≡ parts.0 ++ l ∷ [] = parts.1 in
      let without : without_suffix (x ∷ xs) ≡ parts.0 = ap without_suffix whole ∙ without_suffix-one parts.0 l suffix in
      long parts.0 (IsNumeral-is_integer parts.0 (ap is_integer (sym without) ∙ is))
      (elim (or_cases (nat_eq l 108) (nat_eq l 76) suffix) [
        | inl same ↦ inl (whole ∙ ap (λ (b : ℕ). parts.0 ++ b ∷ []) (eqb-true l 108 same))
        | inr same ↦ inr (whole ∙ ap (λ (b : ℕ). parts.0 ++ b ∷ []) (eqb-true l 76 same))
      ])

pub IsNumber-number : (r : List ℕ) (kind : TokenKind) → number r ≡ Taken kind (length r) → (kind ≡ Literal) × IsNumber r
unfolding number
IsNumber-number r kind taken =
    let is = number_taken (nat_eq (get_or r (run_len r) 0) 46 || is_float (take (run_len r) r)) (is_integer (without_suffix (take (run_len r) r))) (run_len r) (length r) kind taken in
    let all : take (run_len r) r ≡ r = ap (λ (n : ℕ). take n r) is.1 ∙ take_all r in
    (is.0, IsNumber-integer r (ap (λ (xs : List ℕ). is_integer (without_suffix xs)) (sym all) ∙ is.2))
