-- Counts as std's `parse` reads them.
use Rattle.std.proofs.Common.{◌≡◌, ℕ, ◌<◌, ◌≤◌, ◌^◌, ◌-◌, ◌⊎◌, inl, inr, min, [], ◌∷◌, Bool, true, false, length, Result, Ok, Err, refl}
use Rattle.std.proofs.Common.{◌&&◌, nat_le, arith, rules}
use Rattle.std.specs.Char.{is_ascii_digit}
use Rattle.std.specs.Result.{OkIff, result_unwrap_or}
use Rattle.std.specs.Str.{IsUtf8}
use Rattle.std.specs.Str.Parse.{ParsesUnsigned}
use Rattle.std.proofs.lemmas.Bool.{cases_lt}
use Rattle.std.proofs.lemmas.Bool.Decides.{nat_tests}
use Rattle.std.proofs.lemmas.Fmt.{IsAscii-from_digits}
use Rattle.std.proofs.lemmas.Str.{IsUtf8-from_ascii}
use Rattle.std.proofs.lemmas.Str.Parse.{IsNumeralModel, numerals_by_fold, parse_digits}
use Rattle.mol_log_words.specs.Words.{Word, all_digits, is_count, value_from}

own : IsNumeralModel (λ ds. all_digits ds ≡ true) (value_from 0)
own = numerals_by_fold _ (search rules) value_from (search rules)

all_count : (w : Word) → is_count w ≡ true → all_digits w ≡ true
all_count [] h = absurd cc
all_count (b ∷ []) h = rw h refl
all_count (b ∷ c ∷ bs) h =
    let first : is_ascii_digit b ≡ true = grind (arith, nat_tests) in
    let rest : all_digits (c ∷ bs) ≡ true = grind (arith, nat_tests) in
    rw (first, rest) refl

some_count : (w : Word) → is_count w ≡ true → 0 < length w
some_count [] h = absurd cc
some_count (b ∷ bs) h = omega arith

pub utf8_count : (w : Word) → is_count w ≡ true → IsUtf8 w
utf8_count w h = IsUtf8-from_ascii w (IsAscii-from_digits w (own.to w (all_count w h)))

-- what is too great to be parsed is the greatest u64
pub parsed : {E : Type 0} (w : Word) (r : Result ℕ E) → is_count w ≡ true → ParsesUnsigned 64 10 w r
    → result_unwrap_or r (2 ^ 64 - 1) ≡ min (value_from 0 w) (2 ^ 64 - 1)
parsed {E} w r h p = by_result r (parse_digits own 64 w r p (all_count w h)) where
  too_great : (((0 < length w) × (value_from 0 w < 2 ^ 64)) → ⊥) → (value_from 0 w < 2 ^ 64) ⊎ (2 ^ 64 ≤ value_from 0 w)
      → 2 ^ 64 - 1 ≡ min (value_from 0 w) (2 ^ 64 - 1)
  too_great not (inl low) = absurd (not (some_count w h, low))
  too_great not (inr high) = omega arith

  by_result : (r : Result ℕ E) → OkIff r ((0 < length w) × (value_from 0 w < 2 ^ 64)) (value_from 0 w)
      → result_unwrap_or r (2 ^ 64 - 1) ≡ min (value_from 0 w) (2 ^ 64 - 1)
  by_result (Ok n) q = omega (arith, q.0.1, q.1)
  by_result (Err e) q = too_great q (cases_lt (value_from 0 w) (2 ^ 64))
