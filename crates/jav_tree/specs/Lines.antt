-- Pieces of text from which a layout is put together.
use Rattle.std.specs.Prelude.{ℕ, zero, suc, List, [], ◌∷◌, ◌++◌, codes}

-- the end of a line
abbrev pub line_end : List ℕ
line_end = 10 ∷ []

-- four spaces for each level
abbrev pub indent : ℕ → List ℕ
indent zero = []
indent (suc n) = codes "    " ++ indent n

-- pieces one after the other
abbrev pub all_of : List (List ℕ) → List ℕ
all_of [] = []
all_of (piece ∷ rest) = piece ++ all_of rest

-- pieces with `, ` between two
abbrev pub listed : List (List ℕ) → List ℕ
listed [] = []
listed (piece ∷ []) = piece
listed (piece ∷ next ∷ rest) = piece ++ codes ", " ++ listed (next ∷ rest)

-- a comment at its indent, its own bytes unchanged, on a line of its own
abbrev pub comment_line : ℕ → List ℕ → List ℕ
comment_line n comment = indent n ++ comment ++ line_end

abbrev pub comment_lines : ℕ → List (List ℕ) → List ℕ
comment_lines n [] = []
comment_lines n (comment ∷ rest) = comment_line n comment ++ comment_lines n rest
