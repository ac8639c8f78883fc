-- What is known of a log once its first line is read: its tags ascend, and few lines follow.
use Rattle.std.proofs.Common.{◌≡◌, ℕ, ◌+◌, ◌≤◌, List, [], ◌∷◌, length, true, ap, arith}
use Rattle.std.specs.Prelude.{◌&&◌, count_by}
use Rattle.std.specs.List.{list_all, slice_split}
use Rattle.std.proofs.lemmas.List.Splits.{length-slice_split}
use Rattle.mol_base.specs.Spelled.{is_tag}
use Rattle.mol_base.proofs.Tags.{both_true}
use Rattle.mol_log_rows.specs.lines.Headers.{are_tags, some_tags, ascend}
use Rattle.mol_log_rows.specs.lines.Lines.{Line, IsShort, is_end, last_line, lines_from, lines_of}

pub tags_ascend : (tags : List (List ℕ)) → are_tags tags ≡ true → ascend tags ≡ true
tags_ascend tags are = (both_true (some_tags tags && list_all is_tag tags) (ascend tags) are).1

last_most : (piece : List ℕ) → length (last_line piece) ≤ 1
last_most [] = omega arith
last_most (byte ∷ bytes) = omega arith

-- no more than there are pieces
from_most : (pieces : List (List ℕ)) → length (lines_from pieces) ≤ length pieces
from_most [] = omega arith
from_most (piece ∷ []) = omega (arith, last_most piece)
from_most (piece ∷ next ∷ more) = omega (arith, from_most (next ∷ more))

-- one for each LF, and a torn one
lines_most : (bytes : List ℕ) → length (lines_of bytes) ≤ count_by is_end bytes + 1
lines_most bytes = omega (arith, from_most (slice_split is_end bytes), length-slice_split is_end bytes)

-- those after the first, of a log that is no longer than it may be
pub few_lines : (bytes : List ℕ) (first : Line) (rest : List Line) → IsShort bytes → lines_of bytes ≡ first ∷ rest → length rest ≤ 65536
few_lines bytes first rest short is =
    let all : length (lines_of bytes) ≡ length (first ∷ rest) = ap length is in
    omega (arith, lines_most bytes, short.entries, all)
