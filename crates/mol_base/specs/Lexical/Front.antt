-- What stands at the front of the rest of a source.
use Rattle.std.specs.Prelude.{IsTrue, ◌≡◌, ◌↔◌, ℕ, ◌<◌, ◌≤◌, take, Bool, false, ◌||◌, ◌&&◌, ◌==◌, List, length, Option, Some, None, if◌then◌else◌}
use Rattle.std.specs.Str.{is_utf8, IsUtf8}
use Rattle.mol_base.specs.Lexical.Characters.{is_space, is_digit, first, second, third, before_unicode_escape}
use Rattle.mol_base.specs.Lexical.Comments.{line_comment, block_comment}
use Rattle.mol_base.specs.Lexical.Names.{starts_name, name}
use Rattle.mol_base.specs.Lexical.Numbers.{number}
use Rattle.mol_base.specs.Lexical.Quoted.{quoted}
use Rattle.mol_base.specs.Lexical.Symbols.{symbol}
use Rattle.mol_base.specs.Lexical.Tokens.{IsToken}
use Rattle.mol_base.specs.declared.token_kind.TokenKind.{TokenKind}
use Rattle.mol_base.specs.declared.lexical.front.Front.{Front}
use Rattle.mol_base.specs.declared.lexical.front.Front.TheVariants.{Space, Taken, Wrong}
use Rattle.mol_base.specs.declared.lexical.front.Flaw.TheVariants.{FloatLiteral, TextBlock}

-- Either a byte of white space, or a token of so many bytes, or a flaw, so many bytes further on.
-- Three quotes begin a text block, before they are an empty string and one more; a dot before a digit
-- begins a floating-point literal, before it is a symbol.
unfoldable pub front : List ℕ → Front
front bytes = let a = first bytes in let b = second bytes in
    if is_space a then Space
    else (if a == 47 && b == 47 then line_comment bytes
    else (if a == 47 && b == 42 then block_comment bytes
    else (if a == 34 && b == 34 && third bytes == 34 then Wrong TextBlock 0
    else (if a == 34 || a == 39 then quoted a bytes
    else (if is_digit a then number bytes
    else (if a == 46 && is_digit b then Wrong FloatLiteral 0
    else (if starts_name bytes then name bytes else symbol bytes)))))))

-- no byte is ill-formed (RFC 3629), and no Unicode escape stands anywhere
unfoldable pub is_clean : List ℕ → Bool
is_clean bytes = is_utf8 bytes && before_unicode_escape false bytes == length bytes

-- the kind, where the token at the front is all of the bytes
abbrev pub whole : ℕ → Front → Option TokenKind
whole n Space = None
whole n (Taken kind m) = if m == n then Some kind else None
whole n (Wrong flaw at) = None

-- what kind of token the bytes are, where they are one whole token
unfoldable pub token_kind : List ℕ → Option TokenKind
token_kind bytes = if is_clean bytes then whole (length bytes) (front bytes) else None

-- White space is at the front where the first byte is white space. A token has bytes, all of them there, and ends where a
-- character does: of bytes that are UTF-8 up to a place, those of a token that ends before it are. A flaw stands at a byte
-- that is there.
abbrev pub EndsText : List ℕ → ℕ → Type 0
EndsText bytes n = (m : ℕ) → n ≤ m → m ≤ length bytes → IsUtf8 (take m bytes) → IsUtf8 (take n bytes)

abbrev pub IsWithin : List ℕ → Front → Type 0
IsWithin bytes Space = IsTrue (is_space (first bytes))
IsWithin bytes (Taken kind n) = (0 < n) × (n ≤ length bytes) × EndsText bytes n
IsWithin bytes (Wrong flaw at) = at < length bytes

-- all of the bytes are taken as one token
abbrev pub IsWhole : TokenKind → List ℕ → Type 0
IsWhole kind bytes = front bytes ≡ Taken kind (length bytes)

-- all of the bytes are taken as a token of a kind exactly where they are one token of it
abbrev pub TakesTokens : List ℕ → Front → Type 0
TakesTokens bytes front = (kind : TokenKind) → IsToken kind bytes ↔ (front ≡ Taken kind (length bytes))

-- The first `n` bytes are a token of this kind, and no longer front of the bytes is a token.
pub record IsLongest (bytes : List ℕ) (kind : TokenKind) (n : ℕ) : Type 0 where
  pub token : IsToken kind (take n bytes)
  pub no_longer : (m : ℕ) (other : TokenKind) → n < m → m ≤ length bytes → IsToken other (take m bytes) → ⊥

-- what is taken at the front is the longest token there
abbrev pub TakesLongest : List ℕ → Front → Type 0
TakesLongest bytes Space = Unit {0}
TakesLongest bytes (Taken kind n) = IsLongest bytes kind n
TakesLongest bytes (Wrong flaw at) = Unit {0}
