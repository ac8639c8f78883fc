-- Tables of features, as the program has them.
use Rattle.std.specs.Prelude.{ℕ, List, [], ◌∷◌, if◌then◌else◌, Option, Some, None}
use Rattle.std.specs.Str.{bytes_eq}
use Rattle.jav_parse_unit.specs.declared.feature.Feature.{Feature}

-- the feature of the first row with this text
abbrev pub found : List (List ℕ × Feature) → List ℕ → Option Feature
found [] text = None
found (row ∷ rest) text = if bytes_eq text row.0 then Some row.1 else found rest text
