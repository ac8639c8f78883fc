-- The first Unicode escape, by places and along the bytes.
use Rattle.std.proofs.Common.{◌≡◌, ◌⊎◌, inl, inr, ℕ, zero, suc, ◌+◌, ◌%◌, ◌<◌, ◌≤◌, Bool, true, false, ◌&&◌, List, [], ◌∷◌, length, get_or, refl, ap, arith, cond, nat_eq, subst}
use Rattle.std.specs.Prelude.{not}
use Rattle.std.proofs.lemmas.Bool.{cases_lt, cond_both, and_parts, eqb-true, eq-eqb, not-true}
use Rattle.std.proofs.lemmas.Bool.Decides.{nat_tests}
use Rattle.mol_base.proofs.Ends.{get_or-there}
use Rattle.mol_base.specs.Lexical.Characters.{before_unicode_escape, pairs_next, first}
use Rattle.mol_base.specs.Lexical.Escapes.{backslashes_before, IsEscapeAt, HasNoEscape, IsBeforeEscape}

-- how many backslashes stand directly before a place, where so many stand directly before the bytes
after : ℕ → List ℕ → ℕ → ℕ
after k bytes zero = k
after k bytes (suc place) = cond (nat_eq (get_or bytes place 0) 92) (1 + after k bytes place) 0

after-none : (bytes : List ℕ) (place : ℕ) → after 0 bytes place ≡ backslashes_before bytes place
unfolding after
after-none bytes zero = refl
after-none bytes (suc place) = ap (λ (n : ℕ). cond (nat_eq (get_or bytes place 0) 92) (1 + n) 0) (after-none bytes place)

-- how many stand directly before the bytes after this one
next : ℕ → ℕ → ℕ
next k b = cond (nat_eq b 92) (1 + k) 0

after-cons : (k b : ℕ) (bs : List ℕ) (place : ℕ) → after k (b ∷ bs) (suc place) ≡ after (next k b) bs place
unfolding after next
after-cons k b bs zero = refl
after-cons k b bs (suc place) = ap (λ (n : ℕ). cond (nat_eq (get_or bs place 0) 92) (1 + n) 0) (after-cons k b bs place)

-- an escape, where so many backslashes stand directly before the bytes
record IsEscapeAfter (k : ℕ) (bytes : List ℕ) (place : ℕ) : Type 0 where
  backslash : get_or bytes place 0 ≡ 92
  unescaped : after k bytes place % 2 ≡ 0
  followed : get_or bytes (suc place) 0 ≡ 117

is_odd : ℕ → Bool
is_odd k = nat_eq (k % 2) 1

is_odd-suc : (k : ℕ) → is_odd (1 + k) ≡ not (is_odd k)
unfolding is_odd
is_odd-suc k = grind (arith, nat_tests)

pairs_next-odd : (k b : ℕ) → pairs_next (is_odd k) b ≡ is_odd (next k b)
unfolding next is_odd
pairs_next-odd k b = by_byte (nat_eq b 92) where
  by_byte : (t : Bool) → (not (nat_eq (k % 2) 1) && t) ≡ nat_eq (cond t (1 + k) 0 % 2) 1
  by_byte true = grind (arith, nat_tests)
  by_byte false = grind (arith, nat_tests)

record IsFirst (k : ℕ) (bytes : List ℕ) (n : ℕ) : Type 0 where
  there : n < length bytes → IsEscapeAfter k bytes n
  least : (place : ℕ) → place < n → IsEscapeAfter k bytes place → ⊥

even_of : (k : ℕ) → is_odd k ≡ false → k % 2 ≡ 0
unfolding is_odd
even_of k h = grind (arith, nat_tests, h)

odd_of : (k : ℕ) → k % 2 ≡ 0 → is_odd k ≡ false
unfolding is_odd
odd_of k h = grind (arith, nat_tests, h)

first-after : (k : ℕ) (bytes : List ℕ) → IsFirst k bytes (before_unicode_escape (is_odd k) bytes)
unfolding after
first-after k [] = record { there = λ h. absurd (omega arith); least = λ place h is. absurd (omega arith) }
first-after k (b ∷ bs) = by_test (pairs_next (is_odd k) b && nat_eq (first bs) 117) refl (first-after (next k b) bs) where
  by_test : (t : Bool) → (pairs_next (is_odd k) b && nat_eq (first bs) 117) ≡ t → IsFirst (next k b) bs (before_unicode_escape (is_odd (next k b)) bs)
      → IsFirst k (b ∷ bs) (cond t 0 (1 + before_unicode_escape (pairs_next (is_odd k) b) bs))
  by_test true is rest =
      let parts = and_parts (pairs_next (is_odd k) b) (nat_eq (first bs) 117) is in
      let own = and_parts (not (is_odd k)) (nat_eq b 92) parts.0 in
      record {
        there = λ _. record { backslash = eqb-true b 92 own.1; unescaped = even_of k (not-true _ own.0); followed = eqb-true (first bs) 117 parts.1 };
        least = λ place h is. absurd (omega arith);
      }
  by_test false not_here rest =
      let n = before_unicode_escape (is_odd (next k b)) bs in
      let P : ℕ → Type 0 = λ m. IsFirst k (b ∷ bs) m in
      let same : suc n ≡ 1 + before_unicode_escape (pairs_next (is_odd k) b) bs = rw (pairs_next-odd k b) (omega arith) in
      let first_of : IsFirst k (b ∷ bs) (suc n) = record {
        there = λ inside. let is = rest.there (omega arith) in record { backslash = is.backslash; unescaped = rw (after-cons k b bs n) is.unescaped; followed = is.followed };
        least = λ place low is. by_place place low is;
      } in
      subst P same first_of
    where
      by_place : (place : ℕ) → place < suc (before_unicode_escape (is_odd (next k b)) bs) → IsEscapeAfter k (b ∷ bs) place → ⊥
      by_place zero low is =
          let fails : (pairs_next (is_odd k) b && nat_eq (first bs) 117) ≡ true =
          rw (odd_of k is.unescaped, eq-eqb b 92 is.backslash, eq-eqb (first bs) 117 is.followed) refl in
          absurd cc
      by_place (suc place) low is = rest.least place (omega arith) (record { backslash = is.backslash; unescaped = rw (after-cons k b bs place) at is.unescaped; followed = is.followed })

before_unicode_escape-le : (odd : Bool) (bytes : List ℕ) → before_unicode_escape odd bytes ≤ length bytes
before_unicode_escape-le odd [] = omega arith
before_unicode_escape-le odd (b ∷ bs) =
    cond_both (pairs_next odd b && nat_eq (first bs) 117) 0 (1 + before_unicode_escape (pairs_next odd b) bs) (λ n. n ≤ length (b ∷ bs))
    (λ _. omega arith) (λ _. omega (arith, before_unicode_escape-le (pairs_next odd b) bs))

escape_of : (bytes : List ℕ) (place : ℕ) → IsEscapeAfter 0 bytes place → IsEscapeAt bytes place
escape_of bytes place is =
    let next : place + 1 ≡ suc place = omega arith in
    record { backslash = is.backslash; unescaped = rw after-none at is.unescaped; followed = rw next is.followed }

escape_after : (bytes : List ℕ) (place : ℕ) → IsEscapeAt bytes place → IsEscapeAfter 0 bytes place
escape_after bytes place is =
    let next : place + 1 ≡ suc place = omega arith in
    record { backslash = is.backslash; unescaped = rw after-none is.unescaped; followed = rw next at is.followed }

-- the scan finds the least place
pub before_unicode_escape-is : (bytes : List ℕ) → IsBeforeEscape bytes (before_unicode_escape false bytes)
unfolding is_odd
before_unicode_escape-is bytes =
    let is : IsFirst 0 bytes (before_unicode_escape false bytes) = first-after 0 bytes in
    record {
      within = before_unicode_escape-le false bytes;
      there = λ inside. escape_of bytes (before_unicode_escape false bytes) (is.there inside);
      least = λ place low escape. is.least place low (escape_after bytes place escape);
    }

-- there is one such place alone
pub IsBeforeEscape-one : (bytes : List ℕ) (m n : ℕ) → IsBeforeEscape bytes m → IsBeforeEscape bytes n → m ≡ n
IsBeforeEscape-one bytes m n is is' = by_order (cases_lt m n) where
  by_order : ((m < n) ⊎ (n ≤ m)) → m ≡ n
  by_order (inl less) = absurd (is'.least m less (is.there (omega (arith, is'.within))))
  by_order (inr more) = by_rest (cases_lt n m) where
    by_rest : ((n < m) ⊎ (m ≤ n)) → m ≡ n
    by_rest (inl less) = absurd (is.least n less (is'.there (omega (arith, is.within))))
    by_rest (inr same) = omega arith

-- no escape stands in the bytes where the scan finds none
pub HasNoEscape-from_scan : (bytes : List ℕ) → before_unicode_escape false bytes ≡ length bytes → HasNoEscape bytes
HasNoEscape-from_scan bytes none place escape =
    let inside : place < length bytes = get_or-there bytes place (omega (arith, escape.backslash)) in
    (before_unicode_escape-is bytes).least place (omega arith) escape

-- and the scan finds none where none stands there
pub HasNoEscape-scan : (bytes : List ℕ) → HasNoEscape bytes → before_unicode_escape false bytes ≡ length bytes
HasNoEscape-scan bytes none = by_order (cases_lt (before_unicode_escape false bytes) (length bytes)) where
  by_order : ((before_unicode_escape false bytes < length bytes) ⊎ (length bytes ≤ before_unicode_escape false bytes)) → before_unicode_escape false bytes ≡ length bytes
  by_order (inl less) = absurd (none _ ((before_unicode_escape-is bytes).there less))
  by_order (inr whole) = omega (arith, before_unicode_escape-le false bytes)
