-- What may stand in the place of a token, by cases.
use Rattle.std.specs.Prelude.{◌≡◌, ◌↔◌, ◌⊎◌, ℕ, ◌+◌, ◌<◌, ◌≤◌, Bool, not, List, [], ◌∷◌, ◌++◌, length, take, All, IsTrue, IsFalse, codes}
use Rattle.mol_base.specs.Lexical.Characters.{is_space, is_line_end, is_digit, first}
use Rattle.mol_base.specs.Lexical.Numbers.{is_run_byte, is_float}
use Rattle.mol_base.specs.Lexical.Quoted.{is_escape}
use Rattle.mol_base.specs.Lexical.Forms.Name.{IsName}
use Rattle.mol_base.specs.Lexical.Forms.Number.{IsNumber}
use Rattle.mol_base.specs.Lexical.Forms.Quoted.{is_plain}
use Rattle.mol_base.specs.Lexical.Tokens.{IsToken}
use Rattle.mol_base.specs.Lexical.Front.{IsLongest}
use Rattle.mol_base.specs.declared.token_kind.TokenKind.{TokenKind}
use Rattle.mol_base.specs.declared.token_kind.TokenKind.TheVariants.{Literal}
use Rattle.mol_base.specs.declared.lexical.front.Front.{Front}
use Rattle.mol_base.specs.declared.lexical.front.Front.TheVariants.{Taken, Wrong}
use Rattle.mol_base.specs.declared.lexical.front.Flaw.{Flaw}
use Rattle.mol_base.specs.declared.lexical.front.Flaw.TheVariants.{BadChar, OpenString, OpenComment, BadEscape, FloatLiteral, BadNumber, TextBlock, NameTooLong}

-- `"""`
pub record IsTextBlock (bytes : List ℕ) : Type 0 where
  pub after : List ℕ
  pub spelled : bytes ≡ codes "\"\"\"" ++ after

-- `/*`, and no `*/` anywhere after these two bytes
pub record IsOpenComment (bytes : List ℕ) : Type 0 where
  pub after : List ℕ
  pub spelled : bytes ≡ codes "/*" ++ after
  pub never_ends : (body rest : List ℕ) → after ≡ body ++ codes "*/" ++ rest → ⊥

-- from a digit on, the longest run of ASCII letters, digits and `_`
pub record IsRun (bytes run after : List ℕ) : Type 0 where
  pub spelled : bytes ≡ run ++ after
  pub digit : IsTrue (is_digit (first run))
  pub each : All (λ byte. IsTrue (is_run_byte byte)) run
  pub longest : IsFalse (is_run_byte (first after))

-- a run that a dot follows; a run with what makes it a floating-point literal; a dot before a digit
pub data IsFloatLiteral (bytes : List ℕ) : Type 0 where
  dot_after : (run after : List ℕ) → IsRun bytes run after → first after ≡ 46 → IsFloatLiteral bytes
  letter : (run after : List ℕ) → IsRun bytes run after → IsTrue (is_float run) → IsFloatLiteral bytes
  dot_before : (digit : ℕ) (after : List ℕ) → bytes ≡ 46 ∷ digit ∷ after → IsTrue (is_digit digit) → IsFloatLiteral bytes

-- any other run that is no number
pub record IsBadNumber (bytes : List ℕ) : Type 0 where
  pub run : List ℕ
  pub after : List ℕ
  pub is_run : IsRun bytes run after
  pub no_float : ¬ (IsFloatLiteral bytes)
  pub no_number : ¬ (IsNumber run)

-- a name in more than 255 bytes
pub record IsLongName (bytes : List ℕ) : Type 0 where
  pub name : List ℕ
  pub after : List ℕ
  pub spelled : bytes ≡ name ++ after
  pub is_name : IsName name
  pub long : 255 < length name

-- What stands in a literal before its closing quote: bytes other than that quote, a backslash and a line end,
-- and backslashes each with a byte after it that may follow one.
pub data IsInside (quote : ℕ) (may_follow : ℕ → Bool) : List ℕ → Type 0 where
  end : IsInside quote may_follow []
  plain : (b : ℕ) (rest : List ℕ) → IsTrue (is_plain quote b) → IsInside quote may_follow rest → IsInside quote may_follow (b ∷ rest)
  pair : (b : ℕ) (rest : List ℕ) → IsTrue (may_follow b) → IsInside quote may_follow rest → IsInside quote may_follow (92 ∷ b ∷ rest)

-- `"` or `'`
abbrev pub IsQuote : ℕ → Type 0
IsQuote quote = (quote ≡ 34) ⊎ (quote ≡ 39)

-- A literal that has its closing quote on its line, where a backslash goes with the byte after it, and in it
-- the first backslash that begins no escape, so many bytes after the front.
pub record IsBadEscape (offset : ℕ) (bytes : List ℕ) : Type 0 where
  pub quote : ℕ
  pub good : List ℕ
  pub bad : ℕ
  pub others : List ℕ
  pub after : List ℕ
  pub is_quote : IsQuote quote
  pub spelled : bytes ≡ quote ∷ ((good ++ 92 ∷ bad ∷ others) ++ quote ∷ after)
  pub closed : IsInside quote (λ b. not (is_line_end b)) (good ++ 92 ∷ bad ∷ others)
  pub escapes : IsInside quote is_escape good
  pub no_escape : IsFalse (is_escape bad)
  pub place : offset ≡ 1 + length good

-- a quote that begins no literal, no text block and no literal with a bad escape
pub record IsOpenString (bytes : List ℕ) : Type 0 where
  pub quote : IsQuote (first bytes)
  pub no_literal : (n : ℕ) → n ≤ length bytes → IsToken Literal (take n bytes) → ⊥
  pub no_text_block : ¬ (IsTextBlock bytes)
  pub no_bad_escape : (offset : ℕ) → IsBadEscape offset bytes → ⊥

-- the flaws that have a form of their own
abbrev pub IsFormedFlaw : Flaw → ℕ → List ℕ → Type 0
IsFormedFlaw BadChar offset bytes = ⊥
IsFormedFlaw OpenString offset bytes = (offset ≡ 0) × IsOpenString bytes
IsFormedFlaw OpenComment offset bytes = (offset ≡ 0) × IsOpenComment bytes
IsFormedFlaw BadEscape offset bytes = IsBadEscape offset bytes
IsFormedFlaw FloatLiteral offset bytes = (offset ≡ 0) × IsFloatLiteral bytes
IsFormedFlaw BadNumber offset bytes = (offset ≡ 0) × IsBadNumber bytes
IsFormedFlaw TextBlock offset bytes = (offset ≡ 0) × IsTextBlock bytes
IsFormedFlaw NameTooLong offset bytes = (offset ≡ 0) × IsLongName bytes

-- a character that is no white space and with which no token and no other flaw begins
pub record IsBadChar (bytes : List ℕ) : Type 0 where
  pub some : 0 < length bytes
  pub no_space : IsFalse (is_space (first bytes))
  pub no_token : (kind : TokenKind) (n : ℕ) → n ≤ length bytes → IsToken kind (take n bytes) → ⊥
  pub no_other : (flaw : Flaw) (offset : ℕ) → IsFormedFlaw flaw offset bytes → ⊥

-- the flaw begins the bytes, and it is found so many bytes further on
abbrev pub IsFlaw : Flaw → ℕ → List ℕ → Type 0
IsFlaw BadChar offset bytes = (offset ≡ 0) × IsBadChar bytes
IsFlaw OpenString offset bytes = IsFormedFlaw OpenString offset bytes
IsFlaw OpenComment offset bytes = IsFormedFlaw OpenComment offset bytes
IsFlaw BadEscape offset bytes = IsFormedFlaw BadEscape offset bytes
IsFlaw FloatLiteral offset bytes = IsFormedFlaw FloatLiteral offset bytes
IsFlaw BadNumber offset bytes = IsFormedFlaw BadNumber offset bytes
IsFlaw TextBlock offset bytes = IsFormedFlaw TextBlock offset bytes
IsFlaw NameTooLong offset bytes = IsFormedFlaw NameTooLong offset bytes

-- no flaw begins the bytes
abbrev pub HasNoFlaw : List ℕ → Type 0
HasNoFlaw bytes = (flaw : Flaw) (offset : ℕ) → IsFlaw flaw offset bytes → ⊥

-- a flaw is found exactly where it begins the bytes
abbrev pub FindsFlaws : List ℕ → Front → Type 0
FindsFlaws bytes found = (flaw : Flaw) (offset : ℕ) → IsFlaw flaw offset bytes ↔ (found ≡ Wrong flaw offset)

-- a token is taken exactly where it is the longest one and no flaw begins the bytes
abbrev pub TakesSound : List ℕ → Front → Type 0
TakesSound bytes found = (kind : TokenKind) (n : ℕ) → 0 < n → n ≤ length bytes → (IsLongest bytes kind n × HasNoFlaw bytes) ↔ (found ≡ Taken kind n)
