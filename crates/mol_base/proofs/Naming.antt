-- The run of characters of a name, step by step.
use Rattle.std.proofs.Common.{◌≡◌, ℕ, zero, suc, ◌≤◌, ◌+◌, ◌-◌, Bool, true, false, List, [], ◌∷◌, take, drop, length, Option, None, Some, refl, arith}
use Rattle.std.specs.Prelude.{is_some}
use Rattle.std.specs.Str.{IsUtf8, continuation_len}
use Rattle.std.specs.Option.{option_map_or}
use Rattle.mol_base.specs.Lexical.Characters.{first, width, first_char}
use Rattle.mol_base.specs.Lexical.Names.{goes_on, name_len, is_part}
use Rattle.mol_base.proofs.FirstChar.{first_char-some}

some_if_mapped : (f : ℕ → Bool) (o : Option ℕ) → option_map_or f o false ≡ true → is_some o ≡ true
some_if_mapped f None h = cc
some_if_mapped f (Some c) h = refl

-- a character that goes on with a name stands whole in the bytes
pub goes_on-whole : (bytes : List ℕ) → goes_on bytes ≡ true → (width (first bytes) ≤ length bytes) × IsUtf8 (take (width (first bytes)) bytes)
unfolding goes_on
goes_on-whole bytes h = first_char-some bytes (some_if_mapped is_part (first_char bytes) h)

-- the bytes of a character that was looked at
pub name_len-inside : (k : ℕ) (bytes : List ℕ) → k ≤ length bytes → name_len k bytes ≡ k + name_len 0 (drop k bytes)
name_len-inside zero bytes room = omega arith
name_len-inside (suc k) [] room = absurd (omega arith)
name_len-inside (suc k) (b ∷ bs) room = let room' : k ≤ length bs = omega arith in omega (arith, name_len-inside k bs room')

past_char : (n b : ℕ) (bs : List ℕ) → n ≤ length bs → 1 + name_len (1 + n - 1) bs ≡ 1 + n + name_len 0 (drop (1 + n) (b ∷ bs))
past_char n b bs room =
    let same : 1 + n - 1 ≡ n = omega arith in
    let next : 1 + n ≡ suc n = omega arith in
    rw (same, next) (omega (arith, name_len-inside n bs room))

pub name_len-goes_on : (bytes : List ℕ) → goes_on bytes ≡ true → name_len 0 bytes ≡ width (first bytes) + name_len 0 (drop (width (first bytes)) bytes)
name_len-goes_on [] h = absurd (omega (arith, (goes_on-whole [] h).0))
name_len-goes_on (b ∷ bs) h =
    let room : width b ≤ suc (length bs) = (goes_on-whole (b ∷ bs) h).0 in
    let more : continuation_len b ≤ length bs = omega arith in
    rw h (past_char (continuation_len b) b bs more)

pub name_len-stops : (bytes : List ℕ) → goes_on bytes ≡ false → name_len 0 bytes ≡ 0
name_len-stops [] h = refl
name_len-stops (b ∷ bs) h = rw h
