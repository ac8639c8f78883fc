-- Floating-point literals and runs that are no number, as the scan finds them.
use Rattle.std.proofs.Common.{◌≡◌, ◌⊎◌, inl, inr, ℕ, Bool, true, false, ◌||◌, List, [], ◌∷◌, ◌++◌, take, drop, length, get_or, refl, sym, ◌∙◌, ap, subst, arith, cond, nat_eq, add-zero}
use Rattle.std.proofs.lemmas.Bool.{or_cases, or_left, or_right, or_parts, eqb-true, eq-eqb, false_from_ne_true}
use Rattle.std.proofs.lemmas.Bool.Decides.{nat_tests}
use Rattle.std.proofs.lemmas.List.{get_or-drop}
use Rattle.std.proofs.Math.Seq.{take-append_seam}
use Rattle.mol_base.specs.Lexical.Characters.{is_digit, first, second}
use Rattle.mol_base.specs.Lexical.Forms.Number.{IsNumber}
use Rattle.mol_base.specs.Lexical.Numbers.{run_len, number, is_float, is_integer, without_suffix}
use Rattle.mol_base.specs.Lexical.Flaws.{IsRun, IsFloatLiteral, dot_after, letter, dot_before, IsBadNumber}
use Rattle.mol_base.specs.Lexical.Front.{front}
use Rattle.mol_base.specs.declared.token_kind.TokenKind.TheVariants.{Literal}
use Rattle.mol_base.specs.declared.lexical.front.Front.TheVariants.{Taken, Wrong}
use Rattle.mol_base.specs.declared.lexical.front.Flaw.TheVariants.{FloatLiteral, BadNumber}
use Rattle.mol_base.proofs.Fronts.{front-number}
use Rattle.mol_base.proofs.Numerals.{IsWhole-number, IsNumber-integer, take_all, get_or-length}
use Rattle.mol_base.proofs.Runs.{IsRun-run_len, run_len-IsRun, run_len-whole}

-- what makes the scan refuse a run as a floating-point literal
abbrev pub refuses_float : List ℕ → Bool
refuses_float r = nat_eq (get_or r (run_len r) 0) 46 || is_float (take (run_len r) r)

first-append : (xs ys : List ℕ) → is_digit (first xs) ≡ true → first (xs ++ ys) ≡ first xs
first-append [] ys digit = absurd cc
first-append (x ∷ xs) ys digit = refl

digit-run : (r run after : List ℕ) → IsRun r run after → is_digit (first r) ≡ true
digit-run r run after is = rw (is.spelled, first-append run after is.digit) is.digit

get_or-seam : (xs ys : List ℕ) → get_or (xs ++ ys) (length xs) 0 ≡ first ys
get_or-seam [] ys = refl
get_or-seam (x ∷ xs) ys = get_or-seam xs ys

byte-after : (r run after : List ℕ) → IsRun r run after → get_or r (run_len r) 0 ≡ first after
byte-after r run after is =
    ap (λ (n : ℕ). get_or r n 0) (run_len-IsRun r run after is) ∙ ap (λ (xs : List ℕ). get_or xs (length run) 0) is.spelled ∙ get_or-seam run after

run-taken : (r run after : List ℕ) → IsRun r run after → take (run_len r) r ≡ run
run-taken r run after is = ap (λ (n : ℕ). take n r) (run_len-IsRun r run after is) ∙ ap (λ (xs : List ℕ). take (length run) xs) is.spelled ∙ take-append_seam run after

pub refuses_float-IsFloatLiteral : (r : List ℕ) → is_digit (first r) ≡ true → IsFloatLiteral r → refuses_float r ≡ true
refuses_float-IsFloatLiteral r digit (dot_after run after is dot) = or_left _ _ (eq-eqb _ _ (byte-after r run after is ∙ dot))
refuses_float-IsFloatLiteral r digit (letter run after is float) = or_right _ _ (ap is_float (run-taken r run after is) ∙ float)
refuses_float-IsFloatLiteral r digit (dot_before d after e d-digit) =
    let here : first r ≡ 46 = ap first e in
    absurd (grind (arith, nat_tests, digit, here))

pub IsFloatLiteral-refuses_float : (r : List ℕ) → is_digit (first r) ≡ true → refuses_float r ≡ true → IsFloatLiteral r
IsFloatLiteral-refuses_float r digit is = by_part (or_cases (nat_eq (get_or r (run_len r) 0) 46) (is_float (take (run_len r) r)) is) where
  by_part : ((nat_eq (get_or r (run_len r) 0) 46 ≡ true) ⊎ (is_float (take (run_len r) r) ≡ true)) → IsFloatLiteral r
  by_part (inl dot) =
      let here : first (drop (run_len r) r) ≡ 46 = get_or-drop (run_len r) r 0 0 ∙ ap (λ (n : ℕ). get_or r n 0) (add-zero (run_len r)) ∙ eqb-true _ _ dot in
      dot_after (take (run_len r) r) (drop (run_len r) r) (IsRun-run_len r digit) here
  by_part (inr float) = letter (take (run_len r) r) (drop (run_len r) r) (IsRun-run_len r digit) float

number-float : (r : List ℕ) → refuses_float r ≡ true → number r ≡ Wrong FloatLiteral 0
unfolding number
number-float r is = rw is refl

pub front-float : (r : List ℕ) → IsFloatLiteral r → front r ≡ Wrong FloatLiteral 0
unfolding front
front-float r (dot_after run after is dot) =
    let digit = digit-run r run after is in
    front-number r digit ∙ number-float r (refuses_float-IsFloatLiteral r digit (dot_after run after is dot))
front-float r (letter run after is float) =
    let digit = digit-run r run after is in
    front-number r digit ∙ number-float r (refuses_float-IsFloatLiteral r digit (letter run after is float))
front-float r (dot_before d after e digit) = let P : List ℕ → Type 0 = λ xs. front xs ≡ Wrong FloatLiteral 0 in subst P (sym e) (rw digit refl)

pub IsFloatLiteral-dot : (r : List ℕ) → first r ≡ 46 → is_digit (second r) ≡ true → IsFloatLiteral r
IsFloatLiteral-dot [] dot digit = absurd cc
IsFloatLiteral-dot (a ∷ []) dot digit = absurd cc
IsFloatLiteral-dot (a ∷ b ∷ r) dot digit = dot_before b r (ap (λ (x : ℕ). x ∷ b ∷ r) dot) digit

-- a run that is no number
number-cases : (t u : Bool) (n k : ℕ) → t ≡ false → cond t (Wrong FloatLiteral 0) (cond u (Taken Literal n) (Wrong BadNumber 0)) ≡ Taken Literal k → u ≡ true
number-cases true u n k fails is = absurd cc
number-cases false true n k fails is = refl
number-cases false false n k fails is = absurd cc

is_integer-IsNumber : (run : List ℕ) → is_digit (first run) ≡ true → run_len run ≡ length run → is_float run ≡ false → IsNumber run → is_integer (without_suffix run) ≡ true
unfolding number
is_integer-IsNumber run digit len no_float is =
    let taken : number run ≡ Taken Literal (length run) = sym (front-number run digit) ∙ IsWhole-number run is in
    let all : take (run_len run) run ≡ run = ap (λ (n : ℕ). take n run) len ∙ take_all run in
    let nothing : get_or run (run_len run) 0 ≡ 0 = ap (λ (n : ℕ). get_or run n 0) len ∙ get_or-length run in
    let test : refuses_float run ≡ false = rw (nothing, all, no_float) refl in
    ap (λ (xs : List ℕ). is_integer (without_suffix xs)) (sym all) ∙ number-cases (refuses_float run) (is_integer (without_suffix (take (run_len run) run))) (run_len run) (length run) test taken

number-bad : (r : List ℕ) → refuses_float r ≡ false → is_integer (without_suffix (take (run_len r) r)) ≡ false → number r ≡ Wrong BadNumber 0
unfolding number
number-bad r no_float no_integer = rw (no_float, no_integer) refl

pub front-bad_number : (r : List ℕ) → IsBadNumber r → front r ≡ Wrong BadNumber 0
front-bad_number r is =
    let digit = digit-run r is.run is.after is.is_run in
    let no_float : refuses_float r ≡ false = false_from_ne_true _ (λ float. is.no_float (IsFloatLiteral-refuses_float r digit float)) in
    let no_integer : is_integer (without_suffix (take (run_len r) r)) ≡ false =
    ap (λ (xs : List ℕ). is_integer (without_suffix xs)) (run-taken r is.run is.after is.is_run) ∙ false_from_ne_true _ (λ integer. is.no_number (IsNumber-integer is.run integer)) in
    front-number r digit ∙ number-bad r no_float no_integer

pub IsBadNumber-number : (r : List ℕ) → is_digit (first r) ≡ true → refuses_float r ≡ false → is_integer (without_suffix (take (run_len r) r)) ≡ false → IsBadNumber r
IsBadNumber-number r digit no_float no_integer =
    let is = IsRun-run_len r digit in
    let float = or_parts (nat_eq (get_or r (run_len r) 0) 46) (is_float (take (run_len r) r)) no_float in
    record {
      run = take (run_len r) r;
      after = drop (run_len r) r;
      is_run = is;
      no_float = λ literal. let refused = refuses_float-IsFloatLiteral r digit literal in absurd cc;
      no_number = λ number'. let integer = is_integer-IsNumber (take (run_len r) r) is.digit (run_len-whole (take (run_len r) r) is.each) float.1 number' in absurd cc;
    }
