-- The decimal words of numbers: each spells its number.
use Rattle.std.proofs.Common.{◌≡◌, ℕ, zero, suc, ◌+◌, ◌<◌, ◌≤◌, ◌^◌, ◌*◌, ◌-◌, ◌/◌, ◌%◌, Bool, true, false, [], ◌∷◌, ◌++◌}
use Rattle.std.proofs.Common.{Some, refl, sym, ap, ◌∙◌, arith, length, get_or, ◌≢◌, nat_lt, if◌then◌else◌, ◌&&◌}
use Rattle.std.proofs.lemmas.Bool.Decides.{nat_tests}
use Rattle.std.proofs.lemmas.List.{length-append}
use Rattle.std.specs.Char.{is_ascii_digit}
use Rattle.std.specs.Fmt.{decimal}
use Rattle.std.proofs.lemmas.Fmt.{decimal_from_appends, length-decimal-le_succ}
use Rattle.mol_log_words.specs.Words.{Word, counts, all_digits, is_count, value_from, digits_of, numeral}

pub and_left : (a b : Bool) → (a && b) ≡ true → a ≡ true
and_left true b h = refl
and_left false b h = absurd cc

pub and_right : (a b : Bool) → (a && b) ≡ true → b ≡ true
and_right true b h = h
and_right false b h = absurd cc

count_from : (ds : Word) → all_digits ds ≡ true → 0 < length ds → (get_or ds 0 0 ≡ 48 → length ds ≡ 1) → is_count ds ≡ true
count_from [] h some zero' = absurd (omega arith)
count_from (b ∷ []) h some zero' = and_left (is_ascii_digit b) true h
count_from (b ∷ c ∷ ds) h some zero' =
    let first : is_ascii_digit b ≡ true = and_left (is_ascii_digit b) (all_digits (c ∷ ds)) h in
    let other : b ≢ 48 = λ e. absurd (omega (arith, zero' e)) in
    rw (and_right (is_ascii_digit b) (all_digits (c ∷ ds)) h) (grind (arith, nat_tests))

-- the digits of a number from 1 on
record Numeral (n : ℕ) (w : Word) : Type 0 where
  digits' : all_digits w ≡ true
  value : value_from 0 w ≡ n
  some : 0 < length w
  first : get_or w 0 0 ≢ 48

digits_more : (w : Word) (c : ℕ) → all_digits w ≡ true → is_ascii_digit c ≡ true → all_digits (w ++ c ∷ []) ≡ true
digits_more [] c h k = rw k refl
digits_more (b ∷ w) c h k =
    rw (and_left (is_ascii_digit b) (all_digits w) h) (digits_more w c (and_right (is_ascii_digit b) (all_digits w) h) k)

value_more : (w : Word) (c n : ℕ) → value_from n (w ++ c ∷ []) ≡ value_from n w * 10 + (c - 48)
value_more [] c n = refl
value_more (b ∷ w) c n = value_more w c (n * 10 + (b - 48))

first_more : (w : Word) (c : ℕ) → 0 < length w → get_or (w ++ c ∷ []) 0 0 ≡ get_or w 0 0
first_more [] c h = absurd (omega arith)
first_more (b ∷ w) c h = refl

numeral_by : (n fuel : ℕ) → 1 ≤ n → (b : Bool) → nat_lt n 10 ≡ b → (1 ≤ n / 10 → Numeral (n / 10) (digits_of fuel (n / 10)))
    → Numeral n (if b then (48 + n) ∷ [] else digits_of fuel (n / 10) ++ (48 + n % 10) ∷ [])
numeral_by n fuel low true e next =
    let small : n < 10 = grind (arith, nat_tests) in
    let digit : is_ascii_digit (48 + n) ≡ true = grind (arith, nat_tests) in
    record { digits' = rw digit refl; value = omega arith; some = omega arith; first = λ k. absurd (omega arith) }
numeral_by n fuel low false e next =
    let large : 10 ≤ n = grind (arith, nat_tests) in
    let h = next (omega arith) in
    let w : Word = digits_of fuel (n / 10) in
    let below : n % 10 < 10 = omega arith in
    let digit : is_ascii_digit (48 + n % 10) ≡ true = grind (arith, nat_tests) in
    let same = first_more w (48 + n % 10) h.some in
    let v : value_from 0 w ≡ n / 10 = h.value in record {
      digits' = digits_more w (48 + n % 10) h.digits' digit;
      value = value_more w (48 + n % 10) 0 ∙ omega arith;
      some = omega (arith, length-append w ((48 + n % 10) ∷ []), h.some);
      first = λ k. h.first (sym same ∙ k);
    }

numeral_is : (fuel n : ℕ) → 1 ≤ n → n < fuel → Numeral n (digits_of fuel n)
numeral_is zero n low high = absurd (omega arith)
numeral_is (suc fuel) n low high = numeral_by n fuel low (nat_lt n 10) refl (λ some. numeral_is fuel (n / 10) some (omega arith))

-- a number's word spells it
pub counts_numeral : (n : ℕ) → counts (numeral n) ≡ Some n
unfolding counts numeral
counts_numeral zero = refl
counts_numeral (suc n) =
    let h = numeral_is (suc n + 1) (suc n) (omega arith) (omega arith) in
    let is : is_count (digits_of (suc n + 1) (suc n)) ≡ true = count_from (digits_of (suc n + 1) (suc n)) h.digits' h.some
    (λ e. absurd (h.first e)) in
    rw is (ap Some h.value)

-- it is what is printed of a machine's number
pub decimal_numeral : (n : ℕ) → n < 2 ^ 64 → decimal n ≡ numeral n
unfolding numeral
decimal_numeral n small =
    sym (decimal_from_appends digits_of (record { one = one; more = more }) (n + 1) n small (length-decimal-le_succ n small)) where
      one : (k m : ℕ) → m < 10 → digits_of (suc k) m ≡ (48 + m) ∷ []
      one k m low = let q : nat_lt m 10 ≡ true = grind (arith, nat_tests) in rw q refl

      more : (k m : ℕ) → 10 ≤ m → digits_of (suc k) m ≡ digits_of k (m / 10) ++ ((48 + m % 10) ∷ [])
      more k m high = let q : nat_lt m 10 ≡ false = grind (arith, nat_tests) in rw q refl
