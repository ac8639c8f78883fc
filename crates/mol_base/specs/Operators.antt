-- Operators, and how tightly they bind (JLS 15). Level 1 is the loosest, level 15 the tightest.
use Rattle.std.specs.Prelude.{ℕ, Bool, List, [], ◌∷◌, Option, Some, None, if◌then◌else◌}
use Prim.Native.String.{String}
use Rattle.mol_base.specs.Among.{among}

-- The level of an operator between two operands, of the levels 3 to 12; each groups to the left (JLS 15.17 to 15.24).
-- None for any other text; `instanceof`, of level 9, is a keyword.
abbrev pub binary_level : List ℕ → Option ℕ
binary_level text =
    if among ("||" ∷ []) text then Some 3
    else (if among ("&&" ∷ []) text then Some 4
    else (if among ("|" ∷ []) text then Some 5
    else (if among ("^" ∷ []) text then Some 6
    else (if among ("&" ∷ []) text then Some 7
    else (if among ("==" ∷ "!=" ∷ []) text then Some 8
    else (if among ("<" ∷ ">" ∷ "<=" ∷ ">=" ∷ []) text then Some 9
    else (if among ("<<" ∷ ">>" ∷ ">>>" ∷ []) text then Some 10
    else (if among ("+" ∷ "-" ∷ []) text then Some 11
    else (if among ("*" ∷ "/" ∷ "%" ∷ []) text then Some 12
    else None)))))))))

-- `=` and the compound assignments, of level 1 (JLS 15.26)
abbrev pub assignments : List String
assignments = "=" ∷ "+=" ∷ "-=" ∷ "*=" ∷ "/=" ∷ "&=" ∷ "|=" ∷ "^=" ∷ "%=" ∷ "<<=" ∷ ">>=" ∷ ">>>=" ∷ []

-- `++` and `--`: before their operand of level 13 (JLS 15.15), after it of level 14 (JLS 15.14)
abbrev pub steps : List String
steps = "++" ∷ "--" ∷ []

-- the other operators before an operand, of level 13 (JLS 15.15)
abbrev pub prefixes : List String
prefixes = "+" ∷ "-" ∷ "!" ∷ "~" ∷ []

-- signs: with these begins nothing that is cast to a class or array type (JLS 15.16)
abbrev pub signs : List String
signs = "+" ∷ "-" ∷ "++" ∷ "--" ∷ []

abbrev pub is_assignment : List ℕ → Bool
is_assignment = among assignments

abbrev pub is_step : List ℕ → Bool
is_step = among steps

abbrev pub is_prefix : List ℕ → Bool
is_prefix = among prefixes

abbrev pub is_sign : List ℕ → Bool
is_sign = among signs
