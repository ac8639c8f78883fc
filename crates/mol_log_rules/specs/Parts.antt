-- Parts of lists.
use Rattle.std.specs.Prelude.{List, [], ◌∷◌}

-- the first list has some of the items of the second one, each once and in their order
pub data IsPartOf {X : Type 0} : List X → List X → Type 0 where
  ended : IsPartOf [] []
  kept : {x : X} {part whole : List X} → IsPartOf part whole → IsPartOf (x ∷ part) (x ∷ whole)
  left_out : {x : X} {part whole : List X} → IsPartOf part whole → IsPartOf part (x ∷ whole)
