-- What `first_char` tells of the bytes.
use Rattle.std.proofs.Common.{◌≡◌, ℕ, ◌≤◌, ◌<◌, Bool, true, false, ◌&&◌, List, [], ◌∷◌, take, length, Option, None, Some, refl, ap, ◌∙◌, subst, sym, arith, if◌then◌else◌}
use Rattle.std.specs.Prelude.{slice_get, is_some, nat_le}
use Rattle.std.specs.Str.{chars, IsUtf8, is_utf8}
use Rattle.std.proofs.lemmas.Bool.{leb-true, le-leb, lt-ltb}
use Rattle.std.proofs.lemmas.Str.{IsUtf8-from_is_utf8, is_utf8-from_IsUtf8, IsUtf8-from_ascii, chars-IsAscii}
use Rattle.std.proofs.lemmas.Str.Ascii.{IsAscii-cons, IsAscii-nil}
use Rattle.std.specs.Str.{IsAscii}
use Rattle.mol_base.specs.Lexical.Characters.{first, width, first_char}

pub false_unless : (b : Bool) → (b ≡ true → ⊥) → b ≡ false
false_unless true never = absurd (never refl)
false_unless false never = refl

pub is_utf8-no : (bs : List ℕ) → ¬ (IsUtf8 bs) → is_utf8 bs ≡ false
is_utf8-no bs never = false_unless (is_utf8 bs) (λ yes. never (IsUtf8-from_is_utf8 bs yes))

-- the character, where the bytes begin with a well-formed sequence
pub first_char-is : (bytes : List ℕ) → width (first bytes) ≤ length bytes → IsUtf8 (take (width (first bytes)) bytes)
    → first_char bytes ≡ slice_get (chars (take (width (first bytes)) bytes)) 0
unfolding first_char
first_char-is bytes room text = rw (le-leb (width (first bytes)) (length bytes) room, is_utf8-from_IsUtf8 (take (width (first bytes)) bytes) text)

pub first_char-no_text : (bytes : List ℕ) → ¬ (IsUtf8 (take (width (first bytes)) bytes)) → first_char bytes ≡ None
unfolding first_char
first_char-no_text bytes never = rw (is_utf8-no (take (width (first bytes)) bytes) never) (by_room (nat_le (width (first bytes)) (length bytes)))
  where
    by_room : (b : Bool) → (if b && false then slice_get (chars (take (width (first bytes)) bytes)) 0 else None) ≡ None
    by_room true = refl
    by_room false = refl

private_parts : (a b : Bool) {X : Type 0} (o : Option X) → is_some (if a && b then o else None) ≡ true → (a ≡ true) × (b ≡ true)
private_parts true true o h = (refl, refl)
private_parts true false o h = cc
private_parts false true o h = cc
private_parts false false o h = cc

-- a character stands whole in the bytes
pub first_char-some : (bytes : List ℕ) → is_some (first_char bytes) ≡ true → (width (first bytes) ≤ length bytes) × IsUtf8 (take (width (first bytes)) bytes)
unfolding first_char
first_char-some bytes h =
    let parts = private_parts (nat_le (width (first bytes)) (length bytes)) (is_utf8 (take (width (first bytes)) bytes)) (slice_get (chars (take (width (first bytes)) bytes)) 0) h in
    (leb-true _ _ parts.0, IsUtf8-from_is_utf8 _ parts.1)

pub width-ascii : (b : ℕ) → b < 128 → width b ≡ 1
width-ascii b low = rw (lt-ltb b 128 low) refl

-- a byte below 128 is a character
pub first_char-ascii : (b : ℕ) (bs : List ℕ) → b < 128 → first_char (b ∷ bs) ≡ Some b
first_char-ascii b bs low =
    let one : width b ≡ 1 = width-ascii b low in
    let ascii : IsAscii (b ∷ []) = IsAscii-cons b [] low IsAscii-nil in
    let front : take (width b) (b ∷ bs) ≡ b ∷ [] = ap (λ n. take n (b ∷ bs)) one in
    let text : IsUtf8 (take (width b) (b ∷ bs)) = subst IsUtf8 (sym front) (IsUtf8-from_ascii (b ∷ []) ascii) in
    first_char-is (b ∷ bs) (omega arith) text ∙ ap (λ xs. slice_get (chars xs) 0) front ∙ ap (λ xs. slice_get xs 0) (chars-IsAscii (b ∷ []) ascii)

-- so the first of some bytes is the first character, where it is below 128
pub first_char-low : (bytes : List ℕ) → 1 ≤ length bytes → first bytes < 128 → first_char bytes ≡ Some (first bytes)
first_char-low [] some low = absurd (omega (arith, some))
first_char-low (b ∷ bs) some low = first_char-ascii b bs low
