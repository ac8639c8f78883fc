-- The words that no identifier is spelled as: the keywords (JLS 3.9) and the literals `true`, `false` and `null`
-- (JLS 3.10.3, 3.10.7).
use Rattle.std.specs.Prelude.{ℕ, Bool, List, ◌++◌}
use Rattle.std.specs.List.{list_any}
use Rattle.std.specs.Str.{bytes_eq}
use Rattle.mol_base.specs.Lexical.Names.{keywords, word_literals}

-- the 50 keywords and the 3 literals
abbrev pub reserved_words : List (List ℕ)
reserved_words = keywords ++ word_literals

abbrev pub is_reserved : List ℕ → Bool
is_reserved name = list_any (λ word. bytes_eq word name) reserved_words
