-- Paths of source files.
use Rattle.std.specs.Prelude.{ℕ, ◌==◌, List, ◌∷◌, ◌++◌, map, codes, if◌then◌else◌}

-- `/` (47) for `.` (46)
abbrev pub slash_for_dot : ℕ → ℕ
slash_for_dot byte = if byte == 46 then 47 else byte

-- the path of a class: its package with `/` for `.`, then `/`, its name and `.java`
abbrev pub path_of : List ℕ → List ℕ → List ℕ
path_of «package» name = map slash_for_dot «package» ++ 47 ∷ name ++ codes ".java"
