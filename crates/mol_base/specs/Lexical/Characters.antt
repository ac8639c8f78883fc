-- Single bytes, and the character that begins a list of bytes.
use Rattle.std.specs.Prelude.{ℕ, ◌+◌, Bool, ◌||◌, ◌&&◌, ◌==◌, not, nat_le, List, [], ◌∷◌, take, length, slice_index, slice_get, Option, None, if◌then◌else◌}
use Rattle.std.specs.Int.{is_in_range}
use Rattle.std.specs.Str.{chars, is_utf8, continuation_len}

-- space, tab, form feed, CR and LF (JLS 3.6)
abbrev pub is_space : ℕ → Bool
is_space b = b == 32 || b == 9 || b == 12 || b == 13 || b == 10

-- CR and LF (JLS 3.4)
abbrev pub is_line_end : ℕ → Bool
is_line_end b = b == 13 || b == 10

abbrev pub is_digit : ℕ → Bool
is_digit b = is_in_range 48 57 b

-- the byte that begins the rest, and the one after it; 0 where there is none
abbrev pub first : List ℕ → ℕ
first bytes = slice_index bytes 0

abbrev pub second : List ℕ → ℕ
second bytes = slice_index bytes 1

abbrev pub third : List ℕ → ℕ
third bytes = slice_index bytes 2

-- how many bytes a character has whose first byte is this (RFC 3629, section 3)
abbrev pub width : ℕ → ℕ
width b = 1 + continuation_len b

-- the character whose UTF-8 begins the bytes; none where they begin with no well-formed sequence
unfoldable pub first_char : List ℕ → Option ℕ
first_char bytes = let front = take (width (first bytes)) bytes in
    if nat_le (width (first bytes)) (length bytes) && is_utf8 front then slice_get (chars front) 0 else None

-- of bytes that go on after a backslash or not: whether a backslash that pairs with what follows it
-- stands before the next one. Two backslashes are a pair, so the third begins another.
abbrev pub pairs_next : Bool → ℕ → Bool
pairs_next paired b = not paired && b == 92

-- how many bytes stand before the first Unicode escape (JLS 3.3), all of them where there is none: before a
-- backslash and `u` to which an even run of backslashes leads up. `odd`: the run before these bytes is odd.
abbrev pub before_unicode_escape : Bool → List ℕ → ℕ
before_unicode_escape odd [] = 0
before_unicode_escape odd (b ∷ bs) = if pairs_next odd b && first bs == 117 then 0 else 1 + before_unicode_escape (pairs_next odd b) bs
