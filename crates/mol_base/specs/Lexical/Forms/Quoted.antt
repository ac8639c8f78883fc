-- String and character literals (JLS 3.10.4 to 3.10.6).
use Rattle.std.specs.Prelude.{◌≡◌, ℕ, ◌≤◌, Bool, ◌||◌, ◌==◌, not, List, [], ◌∷◌, ◌++◌, All, Contains, IsTrue, codes}
use Rattle.std.specs.Int.{is_in_range}
use Rattle.std.specs.List.{concat}
use Rattle.std.specs.Str.{IsUtf8, chars}
use Rattle.mol_base.specs.Lexical.Characters.{is_line_end}
use Rattle.mol_base.specs.Lexical.Numbers.{is_octal}

-- A backslash and one of b t n f r " ' \, or one to three octal digits, of which three are at most 377.
pub data IsEscape (bytes : List ℕ) : Type 0 where
  letter : (c : ℕ) → bytes ≡ 92 ∷ c ∷ [] → Contains (codes "btnfr\"'\\") c → IsEscape bytes
  octal_1 : (a : ℕ) → bytes ≡ 92 ∷ a ∷ [] → IsTrue (is_octal a) → IsEscape bytes
  octal_2 : (a b : ℕ) → bytes ≡ 92 ∷ a ∷ b ∷ [] → IsTrue (is_octal a) → IsTrue (is_octal b) → IsEscape bytes
  octal_3 : (a b c : ℕ) → bytes ≡ 92 ∷ a ∷ b ∷ c ∷ [] → IsTrue (is_in_range 48 51 a) → IsTrue (is_octal b) → IsTrue (is_octal c) → IsEscape bytes

-- neither this quote nor a backslash nor a line end
abbrev pub is_plain : ℕ → ℕ → Bool
is_plain quote c = not (c == quote || c == 92 || is_line_end c)

-- what a string is made of: single bytes, and escapes
pub data IsPiece (bytes : List ℕ) : Type 0 where
  byte : (b : ℕ) → bytes ≡ b ∷ [] → IsTrue (is_plain 34 b) → IsPiece bytes
  escape : IsEscape bytes → IsPiece bytes

-- `"`, any number of pieces, and `"`
pub record IsString (bytes : List ℕ) : Type 0 where
  pub pieces : List (List ℕ)
  pub spelled : bytes ≡ codes "\"" ++ concat pieces ++ codes "\""
  pub each : All IsPiece pieces

-- What a character literal has between its quotes: a character up to U+FFFF that is no `'`, backslash or
-- line end; a byte that is no character of UTF-8 by itself; or an escape.
pub data IsOneCharacter (bytes : List ℕ) : Type 0 where
  character : (c : ℕ) → IsUtf8 bytes → chars bytes ≡ c ∷ [] → c ≤ 0xFFFF → IsTrue (is_plain 39 c) → IsOneCharacter bytes
  ill_formed : (b : ℕ) → bytes ≡ b ∷ [] → 128 ≤ b → IsOneCharacter bytes
  escape : IsEscape bytes → IsOneCharacter bytes

-- `'`, one of these, and `'`
pub record IsCharacter (bytes : List ℕ) : Type 0 where
  pub body : List ℕ
  pub spelled : bytes ≡ codes "'" ++ body ++ codes "'"
  pub form : IsOneCharacter body
