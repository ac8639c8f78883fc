-- The number of the format, where it is tested.
use Rattle.std.proofs.Common.{◌≡◌, ℕ, Bool, true, false, Option, Some, None, is_some, refl, sym, ap}
use Rattle.std.specs.Prelude.{◌==◌, if◌then◌else◌}
use Rattle.std.proofs.lemmas.Bool.{eqb-true}
use Rattle.mol_log_rows.specs.lines.Reader.{kept}

abbrev number_of : ℕ → Bool → Option ℕ
number_of n is = if is then Some n else None

tested : (n : ℕ) (b : Bool) → is_some (number_of n b) ≡ b
tested n true = refl
tested n false = refl

-- the test of a number that is there
pub some_tested : (n : ℕ) → (n == 1) ≡ is_some (kept (λ number. number == 1) (Some n))
some_tested n = sym (tested n (n == 1))

passed : (n : ℕ) (b : Bool) → (n == 1) ≡ b → is_some (number_of n b) ≡ true → number_of n b ≡ Some 1
passed n true is e = ap Some (eqb-true n 1 is)
passed n false is e = absurd cc

pub format_is : (o : Option ℕ) → is_some (kept (λ number. number == 1) o) ≡ true → kept (λ number. number == 1) o ≡ Some 1
format_is None e = absurd cc
format_is (Some n) e = passed n (n == 1) refl e

failed : (o : Option ℕ) → is_some o ≡ false → o ≡ None
failed None e = refl
failed (Some n) e = absurd cc

pub format_not : (o : Option ℕ) → is_some (kept (λ number. number == 1) o) ≡ false → kept (λ number. number == 1) o ≡ None
format_not o e = failed (kept (λ number. number == 1) o) e
