-- What is wrong with a source, and where.
use Rattle.std.specs.Prelude.{◌≡◌, ℕ, ◌+◌, ◌<◌, ◌≤◌, List, length, drop, Bool, true, false, IsTrue, nat_lt, if◌then◌else◌}
use Rattle.std.specs.Str.Lossy.{utf8_valid_len}
use Rattle.mol_base.specs.Token.{Token}
use Rattle.mol_base.specs.Source.{Tiles}
use Rattle.mol_base.specs.Lexical.Escapes.{IsBeforeEscape}
use Rattle.mol_base.specs.Lexical.Flaws.{IsFlaw}
use Rattle.mol_base.specs.declared.lexical.front.Flaw.{Flaw}
use Rattle.mol_base.specs.declared.lexical.front.Flaw.TheVariants as flaws
use Rattle.jav_lex.specs.declared.fault.LexFault.{LexFault}
use Rattle.jav_lex.specs.declared.fault.LexFault.TheVariants.{NotUtf8, BadChar, OpenString, OpenComment, BadEscape, UnicodeEscape, FloatLiteral, BadNumber, TextBlock, NameTooLong, OutOfMemory}

-- After tokens and white space a flaw stands in the place of the next token, and it is found at `place`.
-- An ill-formed byte counts as a character here.
pub record HasFlaw (bytes : List ℕ) (flaw : Flaw) (place : ℕ) : Type 0 where
  pub tokens : List Token
  pub at : ℕ
  pub offset : ℕ
  pub tiles : Tiles bytes 0 tokens at
  pub inside : at < length bytes
  pub flawed : IsFlaw flaw offset (drop at bytes)
  pub found : place ≡ at + offset

-- a fault is in the source at its place
abbrev pub IsFault : List ℕ → LexFault → Type 0
-- the ill-formed sequence of least place begins there
IsFault bytes (NotUtf8 at) = (at ≡ utf8_valid_len bytes) × (at < length bytes)
-- the first Unicode escape begins there
IsFault bytes (UnicodeEscape at) = IsBeforeEscape bytes at × (at < length bytes)
IsFault bytes (BadChar at) = HasFlaw bytes flaws.BadChar at
IsFault bytes (OpenString at) = HasFlaw bytes flaws.OpenString at
IsFault bytes (OpenComment at) = HasFlaw bytes flaws.OpenComment at
IsFault bytes (BadEscape at) = HasFlaw bytes flaws.BadEscape at
IsFault bytes (FloatLiteral at) = HasFlaw bytes flaws.FloatLiteral at
IsFault bytes (BadNumber at) = HasFlaw bytes flaws.BadNumber at
IsFault bytes (TextBlock at) = HasFlaw bytes flaws.TextBlock at
IsFault bytes (NameTooLong at) = HasFlaw bytes flaws.NameTooLong at
IsFault bytes OutOfMemory = ⊥

-- the byte at which a fault is
abbrev pub place : LexFault → ℕ
place (NotUtf8 at) = at
place (UnicodeEscape at) = at
place (BadChar at) = at
place (OpenString at) = at
place (OpenComment at) = at
place (BadEscape at) = at
place (FloatLiteral at) = at
place (BadNumber at) = at
place (TextBlock at) = at
place (NameTooLong at) = at
place OutOfMemory = 0

-- faults of characters, which go before the others at one place
abbrev pub is_of_characters : LexFault → Bool
is_of_characters (NotUtf8 at) = true
is_of_characters (UnicodeEscape at) = true
is_of_characters _ = false

-- The fault is there, and none is at a lesser place. Where it is no fault of a character, none is at its
-- place.
pub record IsFirstFault (bytes : List ℕ) (fault : LexFault) : Type 0 where
  pub there : IsFault bytes fault
  pub least : (other : LexFault) → IsFault bytes other → place fault ≤ place other
  pub first : (other : LexFault) → IsFault bytes other → IsTrue (is_of_characters other) → place other ≡ place fault → IsTrue (is_of_characters fault)

-- the fault that a flaw is
abbrev pub flawed : Flaw → ℕ → LexFault
flawed flaws.BadChar at = BadChar at
flawed flaws.OpenString at = OpenString at
flawed flaws.OpenComment at = OpenComment at
flawed flaws.BadEscape at = BadEscape at
flawed flaws.FloatLiteral at = FloatLiteral at
flawed flaws.BadNumber at = BadNumber at
flawed flaws.TextBlock at = TextBlock at
flawed flaws.NameTooLong at = NameTooLong at

-- the fault of a character, where so many bytes stand before the first Unicode escape and so many before
-- the first ill-formed sequence
abbrev pub of_characters : ℕ → ℕ → LexFault
of_characters escape text = if nat_lt escape text then UnicodeEscape escape else NotUtf8 text
