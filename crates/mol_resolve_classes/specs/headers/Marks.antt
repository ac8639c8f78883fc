-- Marks at places of a list.
use Rattle.std.specs.Prelude.{◌≡◌, ℕ, ◌<◌, Bool, false, List, length, slice_index_or}
use Rattle.std.specs.List.{list_any}

-- Each mark says whether something of a list passes the test of its place.
abbrev pub Marked : {X : Type 0} → (ℕ → X → Bool) → List X → List Bool → Type 0
Marked test xs marks = (place : ℕ) → place < length marks → slice_index_or marks place false ≡ list_any (test place) xs
