-- Numbers in decimal, read and written.
use Rattle.std.proofs.Common.{◌≡◌, ℕ, zero, suc, ◌<◌, ◌≤◌, List, [], ◌∷◌, length, get_or, Bool, true, false, sym, ◌∙◌, ap, refl, subst, arith}
use Rattle.std.specs.Prelude.{Ok, Result, ◌&&◌, nat_le, ◌==◌}
use Rattle.std.specs.Fmt.{decimal}
use Rattle.std.specs.Str.Parse.{ParsesUnsigned, IsNumeral, AllDigits, digits_value, without_leading_plus}
use Rattle.std.specs.Str.{IsUtf8}
use Rattle.std.proofs.lemmas.Str.{IsUtf8-from_ascii}
use Rattle.std.proofs.lemmas.Fmt.{IsAscii-decimal, parse-decimal, decimal-digits_value, decimal_digit, decimal_is_IsNumeral, first_decimal}
use Rattle.std.proofs.lemmas.Str.Parse.{IsNumeralModel, digit_from_value}
use Rattle.std.proofs.lemmas.Bool.Decides.{nat_tests}
use Rattle.mol_base.specs.Number.{IsNumber, starts_from_one}

-- std's own words for digits and their value
plain : IsNumeralModel (AllDigits 10) (digits_value 10)
plain = record { to = λ ds p. p; from = λ ds p. p; same = λ ds p. refl }

both : (a b : Bool) → a ≡ true → b ≡ true → (a && b) ≡ true
both a b p q = rw (p, q) refl

-- what `decimal` writes of a number from 1 on begins with a digit other than 0
pub starts-decimal : (n : ℕ) → IsNumber n → starts_from_one (decimal n) ≡ true
starts-decimal n is = starting (decimal n) (first_decimal n (omega (arith, is.0)) (omega (arith, is.1))) (decimal_is_IsNumeral n (omega (arith, is.1))).0 where
  starting : (ds : List ℕ) → 48 < get_or ds 0 0 → IsNumeral 10 ds → starts_from_one ds ≡ true
  starting [] low digits = absurd (omega (arith, digits.0))
  starting (d ∷ ds) low digits = let range = digit_from_value d digits.1.0 in both (nat_le 49 d) (nat_le d 57) (grind (arith, nat_tests)) (grind (arith, nat_tests, range))

-- bytes that begin so have no plus in front
no_plus : (bytes : List ℕ) → starts_from_one bytes ≡ true → without_leading_plus bytes ≡ bytes
no_plus [] starts = absurd cc
no_plus (d ∷ ds) starts =
    let other : (d == 43) ≡ false = grind (arith, nat_tests, starts) in
    rw other refl

no_zero : (bytes : List ℕ) → starts_from_one bytes ≡ true → get_or bytes 0 0 ≡ 48 → length bytes ≡ 1
no_zero [] starts is_zero = absurd cc
no_zero (d ∷ ds) starts is_zero = absurd (grind (arith, nat_tests, starts, is_zero))

-- zero is written 0
no_zeros : (n : ℕ) → starts_from_one (decimal n) ≡ true → 1 ≤ n
no_zeros zero starts = absurd (none (ap starts_from_one (sym (decimal_digit 0 (omega arith))) ∙ starts)) where
  none : starts_from_one (48 ∷ []) ≡ true → ⊥
  none h = cc
no_zeros (suc n) starts = omega arith

-- a number that was parsed is written as it was read
pub parsed_spells : {E : Type 0} (bytes : List ℕ) (n : ℕ) (r : Result ℕ E) → r ≡ Ok n → starts_from_one bytes ≡ true → ParsesUnsigned 32 10 bytes r → IsNumber n × (decimal n ≡ bytes)
parsed_spells bytes n r ok starts parsed =
    let h = rw (ok, no_plus bytes starts) at parsed in
    let spelled : decimal n ≡ bytes = ap decimal h.1 ∙ decimal-digits_value plain bytes h.0.0.1 h.0.0.0 (no_zero bytes starts) (omega (arith, h.0.1)) in
    ((no_zeros n (ap starts_from_one spelled ∙ starts), rw h.1 h.0.1), spelled)

-- what is written is read as the number
pub parsed_only : {E : Type 0} (bytes : List ℕ) (n : ℕ) (r : Result ℕ E) → IsNumber n → decimal n ≡ bytes → ParsesUnsigned 32 10 bytes r → r ≡ Ok n
parsed_only bytes n r is spelled parsed = parse-decimal 32 n bytes r is.1 (omega (arith, is.1)) (sym spelled) parsed

-- it is ASCII, so it is UTF-8
pub IsUtf8-spelled : (bytes : List ℕ) (n : ℕ) → IsNumber n → decimal n ≡ bytes → IsUtf8 bytes
IsUtf8-spelled bytes n is spelled = subst IsUtf8 spelled (IsUtf8-from_ascii (decimal n) (IsAscii-decimal n (omega (arith, is.1))))
