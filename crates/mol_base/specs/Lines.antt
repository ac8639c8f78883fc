-- Lines and columns of a source. A line ends at LF, at CR, or at CR LF (JLS 3.4).
use Rattle.std.specs.Prelude.{ℕ, ◌+◌, Bool, ◌||◌, ◌&&◌, ◌==◌, not, List, slice_index}
use Rattle.std.specs.Int.{is_in_range}
use Rattle.std.specs.List.{count_by, range_with_len}

-- the byte at the place is the last of a line end: LF, or CR that no LF follows
abbrev pub ends_line : List ℕ → ℕ → Bool
ends_line bytes place = slice_index bytes place == 10 || (slice_index bytes place == 13 && not (slice_index bytes (place + 1) == 10))

-- a character begins at the place: its byte goes on with none (RFC 3629, section 3)
abbrev pub begins_character : List ℕ → ℕ → Bool
begins_character bytes place = not (is_in_range 128 191 (slice_index bytes place))

-- how many places below this one pass the test
abbrev pub count_below : ℕ → (ℕ → Bool) → ℕ
count_below place test = count_by test (range_with_len 0 place)

-- the line of a place: one more than the line ends before it
unfoldable pub line : List ℕ → ℕ → ℕ
line bytes place = 1 + count_below place (ends_line bytes)

-- the column of a place: one more than the characters that begin before it on its line
unfoldable pub column : List ℕ → ℕ → ℕ
column bytes place = 1 + count_below place (λ i. line bytes i == line bytes place && begins_character bytes i)
