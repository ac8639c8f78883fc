-- What tests of numbers say.
use Rattle.std.proofs.Common.{◌≡◌, ℕ, ◌<◌, ◌≤◌, true, false, nat_lt, nat_le, nat_eq, arith}
use Rattle.std.proofs.lemmas.Bool.Decides.{nat_tests}

pub le_is : (a b : ℕ) → nat_le a b ≡ true → a ≤ b
le_is a b h = grind (arith, nat_tests)

pub le_not : (a b : ℕ) → nat_le a b ≡ false → b < a
le_not a b h = grind (arith, nat_tests)

pub lt_not : (a b : ℕ) → nat_lt a b ≡ false → b ≤ a
lt_not a b h = grind (arith, nat_tests)

pub eq_is : (a b : ℕ) → nat_eq a b ≡ true → a ≡ b
eq_is a b h = grind (arith, nat_tests)

pub some_is : (a : ℕ) → nat_eq a 0 ≡ false → 0 < a
some_is a h = grind (arith, nat_tests)

pub more_is : (a : ℕ) → nat_eq a 0 ≡ false → nat_eq a 1 ≡ false → 1 < a
more_is a h k = grind (arith, nat_tests)
