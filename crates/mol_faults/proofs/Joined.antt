-- Lists that are added one after another.
use Rattle.std.proofs.Common.{◌≡◌, List, [], ◌∷◌, ◌++◌, map, sym, ap, ◌∙◌, append_assoc, append-nil}
use Rattle.std.specs.List.{flat_map}
use Rattle.std.proofs.lemmas.List.{map-append}

module _ {X Y : Type 0} (f : X → Y) where
  -- Adding each of these lists at the end of the first leads to the last.
  abbrev pub LeadsTo : List X → List (List X) → List X → Type 0
  LeadsTo before [] all = before ≡ all
  LeadsTo before (added ∷ lists) all = (after : List X) × (after ≡ before ++ added) × LeadsTo after lists all

  pub added-joined : (before : List X) (lists : List (List X)) (all : List X) → LeadsTo before lists all
      → map f before ++ flat_map (map f) lists ≡ map f all
  added-joined before [] all is = append-nil (map f before) ∙ ap (map f) is
  added-joined before (added ∷ lists) all leads =
      sym (append_assoc (map f before) (map f added) (flat_map (map f) lists))
      ∙ ap (λ ys. ys ++ flat_map (map f) lists) (sym (map-append f before added) ∙ ap (map f) (sym leads.1))
      ∙ added-joined leads.0 lists all leads.2
