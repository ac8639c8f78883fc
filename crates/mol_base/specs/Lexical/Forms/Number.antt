-- Whole numbers (JLS 3.10.1).
use Rattle.std.specs.Prelude.{◌≡◌, ◌⊎◌, ℕ, List, [], ◌∷◌, ◌++◌, replicate, All, IsTrue, codes}
use Rattle.std.specs.Int.{is_in_range}
use Rattle.mol_base.specs.Lexical.Numbers.{is_digit_of}
use Rattle.mol_base.specs.declared.lexical.numbers.Radix.{Radix}
use Rattle.mol_base.specs.declared.lexical.numbers.Radix.TheVariants.{Binary, Octal, Decimal, Hexadecimal}

-- a digit; or a digit, then digits and underscores, and a digit at the end
pub data IsDigits (radix : Radix) (bytes : List ℕ) : Type 0 where
  single : (digit : ℕ) → bytes ≡ digit ∷ [] → IsTrue (is_digit_of radix digit) → IsDigits radix bytes
  several : (first : ℕ) (middle : List ℕ) (last : ℕ) → bytes ≡ first ∷ (middle ++ last ∷ [])
      → IsTrue (is_digit_of radix first) → IsTrue (is_digit_of radix last)
      → All (λ byte. IsTrue (is_digit_of radix byte) ⊎ (byte ≡ 95)) middle → IsDigits radix bytes

-- A number without suffix (JLS 3.10.1): `0`; digits of which the first is 1 to 9; `0`, any number of
-- underscores, and octal digits; hexadecimal digits after `0x` or `0X`; binary digits after `0b` or `0B`.
pub data IsNumeral (bytes : List ℕ) : Type 0 where
  zero : bytes ≡ codes "0" → IsNumeral bytes
  decimal : (first : ℕ) (others : List ℕ) → bytes ≡ first ∷ others → IsTrue (is_in_range 49 57 first) → IsDigits Decimal bytes → IsNumeral bytes
  octal : (underscores : ℕ) (digits : List ℕ) → bytes ≡ codes "0" ++ replicate underscores 95 ++ digits → IsDigits Octal digits → IsNumeral bytes
  hexadecimal : (digits : List ℕ) → (bytes ≡ codes "0x" ++ digits) ⊎ (bytes ≡ codes "0X" ++ digits) → IsDigits Hexadecimal digits → IsNumeral bytes
  binary : (digits : List ℕ) → (bytes ≡ codes "0b" ++ digits) ⊎ (bytes ≡ codes "0B" ++ digits) → IsDigits Binary digits → IsNumeral bytes

-- a number, with the suffix `l` or `L` or without
pub data IsNumber (bytes : List ℕ) : Type 0 where
  plain : IsNumeral bytes → IsNumber bytes
  long : (numeral : List ℕ) → IsNumeral numeral → (bytes ≡ numeral ++ codes "l") ⊎ (bytes ≡ numeral ++ codes "L") → IsNumber bytes
