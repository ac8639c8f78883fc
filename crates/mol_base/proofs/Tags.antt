-- Bytes of tags, and the zeros after them.
use Rattle.std.proofs.Common.{◌≡◌, ℕ, ◌-◌, ◌<◌, ◌≤◌, List, [], ◌∷◌, ◌++◌, length, take, drop, replicate, Bool, true, false, cond, ap, refl, arith}
use Rattle.std.specs.Prelude.{◌&&◌, not, nat_lt, Some, None}
use Rattle.std.specs.List.{list_all, position, position_or_len}
use Rattle.std.specs.Str.{IsAscii}
use Rattle.std.proofs.lemmas.Bool.Decides.{nat_tests}
use Rattle.std.proofs.lemmas.List.{drop-replicate}
use Rattle.std.proofs.lemmas.Str.Ascii.{IsAscii-cons, IsAscii-nil}
use Rattle.std.proofs.Math.Seq.{take-append_seam}
use Rattle.mol_base.specs.Tag.{is_tag_byte, IsTagOrBase, padded, Keeps}

-- bytes over the front of 32 zeros
pub over_zeros : (bytes : List ℕ) → bytes ++ drop (length bytes) (replicate 32 0) ≡ padded bytes
over_zeros bytes = ap (λ zeros. bytes ++ zeros) (drop-replicate (length bytes) 32 0)

pub both_true : (a b : Bool) → (a && b) ≡ true → (a ≡ true) × (b ≡ true)
both_true true b h = (refl, h)
both_true false b h = absurd cc

-- a byte of a tag is ASCII
tag_byte_ascii : (byte : ℕ) → is_tag_byte byte ≡ true → byte < 128
tag_byte_ascii byte h = grind (arith, nat_tests, h)

pub IsAscii-tag : (bytes : List ℕ) → list_all is_tag_byte bytes ≡ true → IsAscii bytes
IsAscii-tag [] h = IsAscii-nil
IsAscii-tag (byte ∷ bytes) h =
    let parts = both_true (is_tag_byte byte) (list_all is_tag_byte bytes) h in
    IsAscii-cons byte bytes (tag_byte_ascii byte parts.0) (IsAscii-tag bytes parts.1)

none_within : (n len : ℕ) → cond (nat_lt n len) (Some n) None ≡ None → len ≤ n
none_within n len h = by_test (nat_lt n len) refl h where
  by_test : (t : Bool) → nat_lt n len ≡ t → cond t (Some n) None ≡ None → len ≤ n
  by_test true is h = absurd cc
  by_test false is h = grind (arith, nat_tests, is)

all_pass : {X : Type 0} (p : X → Bool) (xs : List X) → length xs ≤ position_or_len (λ x. not (p x)) xs → list_all p xs ≡ true
all_pass p [] h = refl
all_pass p (x ∷ xs) h = by_first (p x) refl (all_pass p xs) where
  by_first : (t : Bool) → p x ≡ t → (length xs ≤ position_or_len (λ x. not (p x)) xs → list_all p xs ≡ true) → list_all p (x ∷ xs) ≡ true
  by_first true is rest = rw is (rest (omega (arith, rw is at h)))
  by_first false is rest = absurd (omega (arith, rw is at h))

-- where no byte is bad, each is good
pub all_good : (bytes : List ℕ) → position (λ byte. not (is_tag_byte byte)) bytes ≡ None → list_all is_tag_byte bytes ≡ true
all_good bytes none = all_pass is_tag_byte bytes (none_within _ _ none)

pub Keeps-padded : (bytes : List ℕ) → IsTagOrBase bytes → Keeps (padded bytes) (length bytes)
Keeps-padded bytes is =
    let front : take (length bytes) (padded bytes) ≡ bytes = take-append_seam bytes (replicate (32 - length bytes) 0) in
    record { tag = rw front is; short = is.0; zeros = rw front refl }
