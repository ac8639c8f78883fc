-- Numbers that are cut off at the greatest one of their type.
use Rattle.std.proofs.Common.{◌≡◌, ℕ, ◌+◌, ◌-◌, ◌*◌, ◌^◌, ◌<◌, ◌≤◌, ◌⊎◌, inl, inr, min, [], ◌∷◌, Bool, true, false, Option, Some, None}
use Rattle.std.proofs.Common.{refl, sym, ap, ◌∙◌, arith, option_map, if◌then◌else◌, nat_le, nat_lt, ◌==◌, ◌&&◌, ◌||◌}
use Rattle.std.proofs.lemmas.Bool.{cases_lt}
use Rattle.std.proofs.lemmas.Bool.Decides.{nat_tests}
use Rattle.mol_log_words.specs.Words.{kept, count_fits, pairs_fit}
use Rattle.mol_log_words.specs.declared.bounds.Bounds.{Bounds}
use Rattle.mol_log_words.specs.declared.bounds.Bounds.TheVariants.{Few, Sizes, Positive, Any}

-- the greatest u64 for all that is greater
abbrev pub cut : ℕ → ℕ
cut n = min n (2 ^ 64 - 1)

large_fits : (bounds : Bounds) (deeper : Bool) (n : ℕ) → 2 ^ 64 ≤ n → count_fits bounds deeper (2 ^ 64 - 1) ≡ count_fits bounds deeper n
large_fits Few deeper n h = let few : nat_le n 255 ≡ false = grind (arith, nat_tests) in rw few refl
large_fits Sizes deeper n h =
    let some : nat_lt 0 n ≡ true = grind (arith, nat_tests) in
    let few : nat_le n 255 ≡ false = grind (arith, nat_tests) in
    rw (some, few) refl
large_fits Positive deeper n h =
    let some : nat_lt 0 n ≡ true = grind (arith, nat_tests) in
    let none : (n == 0) ≡ false = grind (arith, nat_tests) in
    rw (some, none) refl
large_fits Any deeper n h = let none : (n == 0) ≡ false = grind (arith, nat_tests) in rw none refl

-- a count fits where the count that is cut off does
pub cut_fits : (bounds : Bounds) (deeper : Bool) (n : ℕ) → count_fits bounds deeper (cut n) ≡ count_fits bounds deeper n
cut_fits bounds deeper n = by_size (cases_lt n (2 ^ 64)) where
  by_size : (n < 2 ^ 64) ⊎ (2 ^ 64 ≤ n) → count_fits bounds deeper (cut n) ≡ count_fits bounds deeper n
  by_size (inl low) = let same : cut n ≡ n = omega arith in ap (count_fits bounds deeper) same
  by_size (inr high) =
      let top : cut n ≡ 2 ^ 64 - 1 = omega arith in
      ap (count_fits bounds deeper) top ∙ large_fits bounds deeper n high

pub cut_pairs : (sizes n : ℕ) → pairs_fit sizes (cut n) ≡ pairs_fit sizes n
cut_pairs sizes n = by_size (cases_lt n (2 ^ 64)) where
  by_size : (n < 2 ^ 64) ⊎ (2 ^ 64 ≤ n) → pairs_fit sizes (cut n) ≡ pairs_fit sizes n
  by_size (inl low) = let same : cut n ≡ n = omega arith in ap (pairs_fit sizes) same
  by_size (inr high) =
      let many : nat_le (sizes + cut n) 255 ≡ false = grind (arith, nat_tests) in
      let more : nat_le (sizes + n) 255 ≡ false = grind (arith, nat_tests) in
      many ∙ sym more

pub cut_few : (n : ℕ) → nat_le (cut n) 255 ≡ nat_le n 255
cut_few n = by_size (cases_lt n (2 ^ 64)) where
  by_size : (n < 2 ^ 64) ⊎ (2 ^ 64 ≤ n) → nat_le (cut n) 255 ≡ nat_le n 255
  by_size (inl low) = let same : cut n ≡ n = omega arith in ap (λ m. nat_le m 255) same
  by_size (inr high) =
      let many : nat_le (cut n) 255 ≡ false = grind (arith, nat_tests) in
      let more : nat_le n 255 ≡ false = grind (arith, nat_tests) in
      many ∙ sym more

pub few_small : (deeper : Bool) (n : ℕ) → count_fits Few deeper n ≡ true → n ≤ 255
few_small deeper n h = by_test (nat_le n 255) refl h where
  by_test : (b : Bool) → nat_le n 255 ≡ b → (b && (n == 0 || deeper)) ≡ true → n ≤ 255
  by_test true e k = grind (arith, nat_tests)
  by_test false e k = absurd cc

pub pairs_small : (sizes n : ℕ) → pairs_fit sizes n ≡ true → n ≤ 255
pairs_small sizes n h = grind (arith, nat_tests)

-- where the number that is cut off passes the test, the number does
pub cut_kept : (test : ℕ → Bool) → ((n : ℕ) → test (cut n) ≡ test n) → (o : Option ℕ) (c : ℕ) (b : Bool) → Some c ≡ option_map cut o
    → test c ≡ b
    → (if b then Some c else None) ≡ option_map cut (kept test o)
cut_kept test same None c b e t = absurd cc
cut_kept test same (Some n) c b e t =
    let q : c ≡ cut n = cc in
    let k : test n ≡ b = sym (same n) ∙ ap test (sym q) ∙ t in
    rw k (by_test b q) where
      by_test : (b : Bool) → c ≡ cut n → (if b then Some c else None) ≡ option_map cut (if b then Some n else None)
      by_test true q = ap Some q
      by_test false q = refl

pub cut_none : (test : ℕ → Bool) (o : Option ℕ) → None ≡ option_map cut o → None ≡ option_map cut (kept test o)
cut_none test None e = refl
cut_none test (Some n) e = absurd cc

-- a number that is small is not cut off
pub uncut : (test : ℕ → Bool) → ((n : ℕ) → test n ≡ true → n ≤ 255) → (o : Option ℕ) (c : ℕ) → Some c ≡ option_map cut (kept test o)
    → (Some c ≡ kept test o) × (c ≤ 255)
uncut test small None c e = absurd cc
uncut test small (Some n) c e = by_test (test n) refl e where
  by_test : (b : Bool) → test n ≡ b → Some c ≡ option_map cut (if b then Some n else None)
      → (Some c ≡ (if b then Some n else None)) × (c ≤ 255)
  by_test true h e =
      let low = small n h in
      let q : c ≡ cut n = cc in
      let same : c ≡ n = omega (arith, q, low) in
      (ap Some same, omega (arith, same, low))
  by_test false h e = absurd cc

pub uncut_none : (o : Option ℕ) → None ≡ option_map cut o → None ≡ o
uncut_none None e = refl
uncut_none (Some n) e = absurd cc
