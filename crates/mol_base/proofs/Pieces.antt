-- Bytes cut at a byte.
use Rattle.std.proofs.Common.{◌≡◌, ℕ, suc, ◌+◌, ◌-◌, ◌<◌, List, [], ◌∷◌, ◌++◌, length, take, drop, Bool, true, false, cond, sym, ◌∙◌, ap, refl, arith, length-append, length-drop}
use Rattle.std.specs.Prelude.{◌==◌, ◌&&◌, not, nat_lt, Some, None}
use Rattle.std.specs.List.{list_all, position, position_or_len}
use Rattle.std.proofs.lemmas.Bool.Decides.{nat_tests}
use Rattle.std.proofs.lemmas.Option.{same_Some}
use Rattle.std.proofs.Math.Seq.{take-append_seam, take-length}

lacking : (a : Bool) (b : Bool) → (not a && b) ≡ true → (a ≡ false) × (b ≡ true)
lacking true b h = absurd cc
lacking false b h = (refl, h)

-- how many bytes stand before the first such byte
pub position_or_len-front : (byte : ℕ) (front back : List ℕ) → list_all (λ b. not (b == byte)) front ≡ true → position_or_len (λ b. b == byte) (front ++ byte ∷ back) ≡ length front
position_or_len-front byte [] back lacks = let same : (byte == byte) ≡ true = grind (arith, nat_tests) in rw same refl
position_or_len-front byte (b ∷ front) back lacks =
    let parts = lacking (b == byte) _ lacks in
    rw (parts.0, position_or_len-front byte front back parts.1) (omega arith)

-- the first place of a byte that the front lacks
pub position-front : (byte : ℕ) (front back : List ℕ) → list_all (λ b. not (b == byte)) front ≡ true → position (λ b. b == byte) (front ++ byte ∷ back) ≡ Some (length front)
position-front byte front back lacks =
    let within : nat_lt (length front) (length (front ++ byte ∷ back)) ≡ true = grind (arith, nat_tests, length-append front (byte ∷ back)) in
    rw (position_or_len-front byte front back lacks, within) refl

-- what stands after the byte
pub drop_after : (byte : ℕ) (front back : List ℕ) → drop (length front + 1) (front ++ byte ∷ back) ≡ back
drop_after byte [] back = refl
drop_after byte (b ∷ front) back = let next : length (b ∷ front) + 1 ≡ suc (length front + 1) = omega arith in rw next (drop_after byte front back)

back_of : (front : List ℕ) (byte : ℕ) (back : List ℕ) → take (length (front ++ byte ∷ back) - (length front + 1)) (drop (length front + 1) (front ++ byte ∷ back)) ≡ back
back_of front byte back = rw (count, drop_after byte front back) (take-length back) where
  count : length (front ++ byte ∷ back) - (length front + 1) ≡ length back
  count = rw (length-append front (byte ∷ back)) (omega arith)

-- the two parts at that place
pub parts_at : (byte : ℕ) (front back bytes : List ℕ) (at : ℕ) → list_all (λ b. not (b == byte)) front ≡ true → front ++ byte ∷ back ≡ bytes → Some at ≡ position (λ b. b == byte) bytes
    → (take at bytes ≡ front) × (take (length bytes - (at + 1)) (drop (at + 1) bytes) ≡ back)
parts_at byte front back bytes at lacks is found =
    let place : at ≡ length front = same_Some at (length front) (found ∙ ap (position (λ b. b == byte)) (sym is) ∙ position-front byte front back lacks) in
    rw (← is, place, take-append_seam front (byte ∷ back), back_of front byte back) (refl, refl)

-- what the two parts come from
join_at : (byte : ℕ) (bytes : List ℕ) → position_or_len (λ b. b == byte) bytes < length bytes
    → take (position_or_len (λ b. b == byte) bytes) bytes ++ byte ∷ drop (position_or_len (λ b. b == byte) bytes + 1) bytes ≡ bytes
join_at byte [] low = absurd (omega arith)
join_at byte (b ∷ bytes) low = by_first (b == byte) refl (join_at byte bytes) where
  by_first : (t : Bool) → (b == byte) ≡ t → (position_or_len (λ b. b == byte) bytes < length bytes → take (position_or_len (λ b. b == byte) bytes) bytes ++ byte ∷ drop (position_or_len (λ b. b == byte) bytes + 1) bytes ≡ bytes)
      → take (position_or_len (λ b. b == byte) (b ∷ bytes)) (b ∷ bytes) ++ byte ∷ drop (position_or_len (λ b. b == byte) (b ∷ bytes) + 1) (b ∷ bytes) ≡ b ∷ bytes
  by_first true is later = let same : byte ≡ b = grind (arith, nat_tests, is) in rw is (ap (λ x. x ∷ bytes) same)
  by_first false is later =
      let n : ℕ = position_or_len (λ b. b == byte) bytes in
      let before : position_or_len (λ b. b == byte) (b ∷ bytes) ≡ suc n = rw is (omega arith) in
      let next : suc n + 1 ≡ suc (n + 1) = omega arith in
      let fewer : n < length bytes = omega (arith, low, before) in
      rw (before, next) (ap (λ xs. b ∷ xs) (later fewer))

place_found : (n len at : ℕ) → Some at ≡ cond (nat_lt n len) (Some n) None → (at ≡ n) × (n < len)
place_found n len at found = by_test (nat_lt n len) refl found where
  by_test : (t : Bool) → nat_lt n len ≡ t → Some at ≡ cond t (Some n) None → (at ≡ n) × (n < len)
  by_test true is found = (same_Some at n found, grind (arith, nat_tests, is))
  by_test false is found = absurd cc

pub joined_at : (byte : ℕ) (bytes : List ℕ) (at : ℕ) → Some at ≡ position (λ b. b == byte) bytes → take at bytes ++ byte ∷ take (length bytes - (at + 1)) (drop (at + 1) bytes) ≡ bytes
joined_at byte bytes at found =
    let place = place_found (position_or_len (λ b. b == byte) bytes) (length bytes) at found in
    let whole : take (length bytes - (at + 1)) (drop (at + 1) bytes) ≡ drop (at + 1) bytes = ap (λ n. take n (drop (at + 1) bytes)) (sym (length-drop (at + 1) bytes)) ∙ take-length (drop (at + 1) bytes) in
    rw (whole, place.0) (join_at byte bytes place.1)
