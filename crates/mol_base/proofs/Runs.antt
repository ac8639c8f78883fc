-- The run of letters, digits and `_` that a number is taken from.
use Rattle.std.proofs.Common.{◌≡◌, ℕ, suc, ◌+◌, ◌<◌, Bool, true, false, List, [], ◌∷◌, ◌++◌, take, drop, length, refl, sym, ◌∙◌, ap, arith, cond}
use Rattle.std.specs.Prelude.{All, IsTrue}
use Rattle.std.proofs.lemmas.Bool.{cond_both}
use Rattle.std.proofs.lemmas.Bool.Decides.{nat_tests}
use Rattle.std.proofs.lemmas.List.{take-append-drop, get_or-take, append-nil}
use Rattle.std.proofs.lemmas.List.Elements.{All-nil, All-cons, All-head, All-tail}
use Rattle.mol_base.specs.Lexical.Characters.{is_digit, first}
use Rattle.mol_base.specs.Lexical.Numbers.{run_len, is_run_byte}
use Rattle.mol_base.specs.Lexical.Flaws.{IsRun}

run_len-all : (r : List ℕ) → All (λ b. IsTrue (is_run_byte b)) (take (run_len r) r)
run_len-all [] = All-nil (λ b. IsTrue (is_run_byte b))
run_len-all (b ∷ bs) = by_test (is_run_byte b) refl (run_len-all bs) where
  by_test : (t : Bool) → is_run_byte b ≡ t → All (λ x. IsTrue (is_run_byte x)) (take (run_len bs) bs) → All (λ x. IsTrue (is_run_byte x)) (take (cond t (1 + run_len bs) 0) (b ∷ bs))
  by_test true is rest = let next : 1 + run_len bs ≡ suc (run_len bs) = omega arith in rw next (All-cons (λ x. IsTrue (is_run_byte x)) b (take (run_len bs) bs) is rest)
  by_test false is rest = All-nil (λ x. IsTrue (is_run_byte x))

run_len-stops : (r : List ℕ) → is_run_byte (first (drop (run_len r) r)) ≡ false
run_len-stops [] = refl
run_len-stops (b ∷ bs) = by_test (is_run_byte b) refl (run_len-stops bs) where
  by_test : (t : Bool) → is_run_byte b ≡ t → is_run_byte (first (drop (run_len bs) bs)) ≡ false → is_run_byte (first (drop (cond t (1 + run_len bs) 0) (b ∷ bs))) ≡ false
  by_test true is rest = let next : 1 + run_len bs ≡ suc (run_len bs) = omega arith in rw next rest
  by_test false is rest = is

run_len-digit : (r : List ℕ) → is_digit (first r) ≡ true → 0 < run_len r
run_len-digit [] digit = absurd (grind (arith, nat_tests, digit))
run_len-digit (b ∷ bs) digit = cond_both (is_run_byte b) (1 + run_len bs) 0 (λ x. 0 < x) (λ _. omega arith) (λ fails. absurd (grind (arith, nat_tests, fails, digit)))

-- the bytes that are taken are a run
pub IsRun-run_len : (r : List ℕ) → is_digit (first r) ≡ true → IsRun r (take (run_len r) r) (drop (run_len r) r)
IsRun-run_len r digit =
    let here : first (take (run_len r) r) ≡ first r = get_or-take (run_len r) r 0 0 (run_len-digit r digit) in
    record {
      spelled = sym (take-append-drop (run_len r) r);
      digit = rw here digit;
      each = run_len-all r;
      longest = run_len-stops r;
    }

run_len-append : (run after : List ℕ) → All (λ b. IsTrue (is_run_byte b)) run → is_run_byte (first after) ≡ false → run_len (run ++ after) ≡ length run
run_len-append [] [] each stops = refl
run_len-append [] (b ∷ bs) each stops = rw stops refl
run_len-append (b ∷ run) after each stops =
    let here : is_run_byte b ≡ true = All-head (λ x. IsTrue (is_run_byte x)) b run each in
    rw here (omega (arith, run_len-append run after (All-tail (λ x. IsTrue (is_run_byte x)) b run each) stops))

-- and a run is what is taken
pub run_len-IsRun : (r run after : List ℕ) → IsRun r run after → run_len r ≡ length run
run_len-IsRun r run after is = ap run_len is.spelled ∙ run_len-append run after is.each is.longest

pub run_len-whole : (run : List ℕ) → All (λ b. IsTrue (is_run_byte b)) run → run_len run ≡ length run
run_len-whole run each = ap run_len (sym (append-nil run)) ∙ run_len-append run [] each refl
