-- Which bytes are a tag.
use Rattle.std.specs.Prelude.{◌≡◌, ℕ, ◌+◌, ◌-◌, ◌<◌, ◌≤◌, Bool, ◌&&◌, ◌||◌, nat_le, ◌==◌, IsTrue, List, ◌++◌, length, take, replicate}
use Rattle.std.specs.List.{list_all}
use Rattle.std.proofs.Common.{◌∙◌, ap, arith, length-append}
use Rattle.std.proofs.lemmas.List.{length-replicate, length-take}

-- a letter a to z, a digit, or `-`
abbrev pub is_tag_byte : ℕ → Bool
is_tag_byte byte = (nat_le 97 byte && nat_le byte 122) || ((nat_le 48 byte && nat_le byte 57) || byte == 45)

-- a tag, or no byte at all as at a base
abbrev pub IsTagOrBase : List ℕ → Type 0
IsTagOrBase bytes = (length bytes ≤ 32) × IsTrue (list_all is_tag_byte bytes)

-- 1 to 32 bytes of a tag
abbrev pub IsTag : List ℕ → Type 0
IsTag bytes = (0 < length bytes) × IsTagOrBase bytes

-- the bytes followed by zeros up to 32
abbrev pub padded : List ℕ → List ℕ
padded bytes = bytes ++ replicate (32 - length bytes) 0

-- 32 bytes keep a tag of this length, and zeros after it
pub record Keeps (bytes : List ℕ) (len : ℕ) : Type 0 where
  pub tag : IsTagOrBase (take len bytes)
  pub short : len ≤ 32
  pub zeros : bytes ≡ padded (take len bytes)

-- what is kept gives back its length
pub length-Keeps : (bytes : List ℕ) (len : ℕ) → Keeps bytes len → length (take len bytes) ≡ len
length-Keeps bytes len keeps =
    let tag : List ℕ = take len bytes in
    let whole : length bytes ≡ 32 = ap length keeps.zeros ∙ length-append tag (replicate (32 - length tag) 0) ∙ ap (λ n. length tag + n) (length-replicate (32 - length tag) 0) ∙ full (length tag) keeps.tag.0 in
    length-take len bytes ∙ omega (arith, whole, keeps.short) where
      full : (n : ℕ) → n ≤ 32 → n + (32 - n) ≡ 32
      full n short = omega arith
