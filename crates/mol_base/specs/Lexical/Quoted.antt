-- String and character literals (JLS 3.10.4 to 3.10.6). Quotes, backslashes and line ends are single
-- bytes of no other character, so these are said over bytes.
use Rattle.std.specs.Prelude.{ℕ, ◌+◌, Bool, false, ◌||◌, ◌&&◌, ◌==◌, not, nat_lt, nat_le, List, [], ◌∷◌, take, drop, length, slice_index, is_some, if◌then◌else◌, codes}
use Rattle.std.specs.Int.{is_in_range}
use Rattle.std.specs.List.{list_any}
use Rattle.mol_base.specs.Lexical.Characters.{is_line_end, first, second, third, width, first_char, pairs_next}
pub use Rattle.mol_base.specs.Lexical.Numbers.{is_octal}
use Rattle.mol_base.specs.declared.token_kind.TokenKind.TheVariants.{Literal}
use Rattle.mol_base.specs.declared.lexical.front.Front.{Front}
use Rattle.mol_base.specs.declared.lexical.front.Front.TheVariants.{Taken, Wrong}
use Rattle.mol_base.specs.declared.lexical.front.Flaw.TheVariants.{OpenString, BadEscape}

-- how many bytes stand before the closing quote, where a backslash goes with the character after it:
-- those before the end of the line or of the bytes where no quote closes
abbrev pub before_quote : ℕ → Bool → List ℕ → ℕ
before_quote quote escaped [] = 0
before_quote quote escaped (b ∷ bs) = if is_line_end b || (not escaped && b == quote) then 0 else 1 + before_quote quote (pairs_next escaped b) bs

-- what may follow a backslash: b t n f r " ' \ and an octal digit, whose further digits are
-- characters of the literal as well
abbrev pub is_escape : ℕ → Bool
is_escape b = list_any (λ e. e == b) (codes "btnfr\"'\\01234567")

-- how many bytes stand before the first backslash that begins no escape: all where there is none
abbrev pub before_bad_escape : Bool → List ℕ → ℕ
before_bad_escape escaped [] = 0
before_bad_escape escaped (b ∷ bs) = if pairs_next escaped b && not (is_escape (first bs)) then 0 else 1 + before_bad_escape (pairs_next escaped b) bs

-- one character up to U+FFFF, so of at most three bytes; a byte of no well-formed sequence counts as one
unfoldable pub is_one_char : List ℕ → Bool
is_one_char body = length body == 1 || (nat_le (length body) 3 && length body == width (first body) && is_some (first_char body))

-- one escape: a backslash with one more byte, or with two or three octal digits, of which three go up to 377
unfoldable pub is_one_escape : List ℕ → Bool
is_one_escape body = first body == 92 && (length body == 2
    || (length body == 3 && is_octal (second body) && is_octal (third body))
    || (length body == 4 && is_in_range 48 51 (second body) && is_octal (third body) && is_octal (slice_index body 3)))

-- what may stand between the quotes, of bytes whose escapes are good
unfoldable pub fits_between : ℕ → List ℕ → Bool
fits_between quote body = quote == 34 || is_one_char body || is_one_escape body

-- of bytes that begin with a quote
unfoldable pub quoted : ℕ → List ℕ → Front
quoted quote bytes = let rest = drop 1 bytes in let n = before_quote quote false rest in let body = take n rest in let k = before_bad_escape false body in
    if not (slice_index rest n == quote) then Wrong OpenString 0
    else (if nat_lt k n then Wrong BadEscape (1 + k)
    else (if fits_between quote body then Taken Literal (n + 2) else Wrong OpenString 0))
