-- What tests that are joined tell of each of them.
use Rattle.std.proofs.Common.{◌≡◌, Bool, true, false, ◌&&◌, sym, true≢false}
use Rattle.std.proofs.lemmas.Bool.{and_parts, and_from}

pub never : {A : Type 0} → false ≡ true → A
never is = absurd (true≢false (sym is))

pub first-of : (a b : Bool) → (a && b) ≡ true → a ≡ true
first-of a b is = (and_parts a b is).0

pub last-of : (a b : Bool) → (a && b) ≡ true → b ≡ true
last-of a b is = (and_parts a b is).1

pub and-imp : (a b c d : Bool) → (a ≡ true → b ≡ true) → (c ≡ true → d ≡ true) → (a && c) ≡ true → (b && d) ≡ true
and-imp a b c d f g is = and_from b d (f (first-of a c is)) (g (last-of a c is))
