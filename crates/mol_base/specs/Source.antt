-- A source as a list of tokens with white space between them (JLS 3.2, 3.5).
use Rattle.std.specs.Prelude.{◌≡◌, ℕ, ◌-◌, ◌<◌, ◌≤◌, List, [], ◌∷◌, length, take, drop, slice_index, IsTrue}
use Rattle.std.specs.Str.{IsUtf8}
use Rattle.mol_base.specs.Token.{Token}
use Rattle.mol_base.specs.Lexical.Characters.{is_space}
use Rattle.mol_base.specs.Lexical.Escapes.{HasNoEscape}
use Rattle.mol_base.specs.Lexical.Flaws.{HasNoFlaw}
use Rattle.mol_base.specs.Lexical.Front.{IsLongest}

-- from a place up to another the source has white space alone
pub record IsBlank (bytes : List ℕ) (from to : ℕ) : Type 0 where
  pub ordered : from ≤ to
  pub inside : to ≤ length bytes
  pub blank : (i : ℕ) → from ≤ i → i < to → IsTrue (is_space (slice_index bytes i))

-- the token is the longest one that the source has from its start on, no flaw begins there, and its text is
-- the bytes from its start up to its end
pub record IsTaken (bytes : List ℕ) (t : Token) : Type 0 where
  pub longest : IsLongest (drop t.start bytes) t.kind (t.end - t.start)
  pub no_flaw : HasNoFlaw (drop t.start bytes)
  pub some : t.start < t.end
  pub inside : t.end ≤ length bytes
  pub text : t.text ≡ take (t.end - t.start) (drop t.start bytes)

-- these tokens, with white space before, between and after them, are the source from a place up to another
abbrev pub Tiles : List ℕ → ℕ → List Token → ℕ → Type 0
Tiles bytes from [] to = IsBlank bytes from to
Tiles bytes from (t ∷ ts) to = IsBlank bytes from t.start × IsTaken bytes t × Tiles bytes t.end ts to

-- the bytes are UTF-8 without a Unicode escape, and these are all their tokens
pub record IsSource (bytes : List ℕ) (ts : List Token) : Type 0 where
  pub utf8 : IsUtf8 bytes
  pub escapes : HasNoEscape bytes
  pub tiles : Tiles bytes 0 ts (length bytes)
