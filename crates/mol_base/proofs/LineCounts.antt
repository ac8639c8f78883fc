-- Lines and columns from one place to the next.
use Rattle.std.proofs.Common.{◌≡◌, ℕ, zero, suc, ◌+◌, ◌-◌, ◌<◌, ◌≤◌, Bool, true, false, ◌&&◌, List, [], ◌∷◌, ◌++◌, refl, ◌∙◌, ap, arith, cond, nat_eq}
use Rattle.std.specs.List.{sum_by, range_with_len}
use Rattle.std.proofs.lemmas.Bool.{eq-eqb, ne_eqb}
use Rattle.std.proofs.lemmas.List.Sums.{sum_by-append}
use Rattle.mol_base.specs.Lines.{ends_line, begins_character, count_below, line, column}

range-next : (from n : ℕ) → range_with_len from (suc n) ≡ range_with_len from n ++ (from + n) ∷ []
range-next from zero = let same : from + 0 ≡ from = omega arith in rw same refl
range-next from (suc n) = let same : from + 1 + n ≡ from + suc n = omega arith in ap (λ (xs : List ℕ). from ∷ xs) (range-next (from + 1) n ∙ ap (λ (k : ℕ). range_with_len (from + 1) n ++ k ∷ []) same)

-- one place more
pub count_below-next : (n : ℕ) (test : ℕ → Bool) → count_below (n + 1) test ≡ count_below n test + cond (test n) 1 0
count_below-next n test =
    let next : n + 1 ≡ suc n = omega arith in
    let here : 0 + n ≡ n = omega arith in
    let pass : ℕ → ℕ = λ (k : ℕ). cond (test k) 1 0 in
    let parts : sum_by pass (range_with_len 0 n ++ n ∷ []) ≡ sum_by pass (range_with_len 0 n) + sum_by pass (n ∷ []) = sum_by-append pass (range_with_len 0 n) (n ∷ []) in
    let more : count_below (n + 1) test ≡ sum_by pass (range_with_len 0 n ++ n ∷ []) =
    ap (λ (k : ℕ). count_below k test) next ∙ ap (sum_by pass) (range-next 0 n) ∙ ap (λ (k : ℕ). sum_by pass (range_with_len 0 n ++ k ∷ [])) here in
    omega (arith, more, parts)

-- none, where no place passes
count_below-none : (n : ℕ) (test : ℕ → Bool) → ((k : ℕ) → k < n → test k ≡ false) → count_below n test ≡ 0
count_below-none zero test fails = refl
count_below-none (suc n) test fails =
    let next : suc n ≡ n + 1 = omega arith in
    let here : test n ≡ false = fails n (omega arith) in
    let before = count_below-none n test (λ k low. fails k (omega arith)) in
    ap (λ (k : ℕ). count_below k test) next ∙ count_below-next n test ∙ (rw (here, before) refl)

pub line-first : (bytes : List ℕ) → line bytes 0 ≡ 1
unfolding line
line-first bytes = refl

pub column-first : (bytes : List ℕ) → column bytes 0 ≡ 1
unfolding column
column-first bytes = refl

pub line-ends : (bytes : List ℕ) (i : ℕ) → ends_line bytes i ≡ true → line bytes (i + 1) ≡ line bytes i + 1
unfolding line
line-ends bytes i ends = let step = rw ends at (count_below-next i (ends_line bytes)) in omega (arith, step)

pub line-same : (bytes : List ℕ) (i : ℕ) → ends_line bytes i ≡ false → line bytes (i + 1) ≡ line bytes i
unfolding line
line-same bytes i ends = let step = rw ends at (count_below-next i (ends_line bytes)) in omega (arith, step)

line-more : (bytes : List ℕ) (i n : ℕ) → line bytes i ≤ line bytes (i + n)
line-more bytes i zero = let same : i + 0 ≡ i = omega arith in rw same (omega arith)
line-more bytes i (suc n) = let next : i + suc n ≡ i + n + 1 = omega arith in rw next (by_end (ends_line bytes (i + n)) refl (line-more bytes i n)) where
  by_end : (t : Bool) → ends_line bytes (i + n) ≡ t → line bytes i ≤ line bytes (i + n) → line bytes i ≤ line bytes (i + n + 1)
  by_end true is before = omega (arith, line-ends bytes (i + n) is)
  by_end false is before = omega (arith, line-same bytes (i + n) is)

-- after a line end the column is the first
pub column-ends : (bytes : List ℕ) (i : ℕ) → ends_line bytes i ≡ true → column bytes (i + 1) ≡ 1
unfolding column
column-ends bytes i ends =
    let none = count_below-none (i + 1) (λ k. nat_eq (line bytes k) (line bytes (i + 1)) && begins_character bytes k)
    (λ k low.
    let sum : k + (i - k) ≡ i = omega arith in
    let before : line bytes k ≤ line bytes i = rw sum at (line-more bytes k (i - k)) in
    let other : nat_eq (line bytes k) (line bytes (i + 1)) ≡ false = ne_eqb _ _ (λ same. omega (arith, same, before, line-ends bytes i ends)) in
    rw other refl) in
    omega (arith, none)

-- otherwise it counts the character that begins there
column-step : (bytes : List ℕ) (i : ℕ) → ends_line bytes i ≡ false → column bytes (i + 1) ≡ column bytes i + cond (begins_character bytes i) 1 0
unfolding column
column-step bytes i ends =
    let same : line bytes (i + 1) ≡ line bytes i = line-same bytes i ends in
    let here : nat_eq (line bytes i) (line bytes i) ≡ true = eq-eqb _ _ refl in
    let test : ℕ → Bool = λ k. nat_eq (line bytes k) (line bytes i) && begins_character bytes k in
    let step : count_below (i + 1) test ≡ count_below i test + cond (begins_character bytes i) 1 0 = rw here at (count_below-next i test) in
    rw same (omega (arith, step))

pub column-begins : (bytes : List ℕ) (i : ℕ) → ends_line bytes i ≡ false → begins_character bytes i ≡ true → column bytes (i + 1) ≡ column bytes i + 1
column-begins bytes i ends begins = rw begins at (column-step bytes i ends)

pub column-same : (bytes : List ℕ) (i : ℕ) → ends_line bytes i ≡ false → begins_character bytes i ≡ false → column bytes (i + 1) ≡ column bytes i
column-same bytes i ends goes_on = let step = rw goes_on at (column-step bytes i ends) in omega (arith, step)
