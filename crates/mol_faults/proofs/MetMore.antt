-- What several misread names have to do with, one name after the other.
use Rattle.std.proofs.Common.{◌≡◌, ℕ, ◌+◌, ◌<◌, List, [], ◌∷◌, ◌++◌, map, length, take, get_or, sym, ap, ◌∙◌, append-nil}
use Rattle.std.proofs.lemmas.List.{map-append, take_more}
use Rattle.std.proofs.lemmas.List.Concat.{flat_map-append}
use Rattle.std.specs.List.{flat_map}

module _ {X Y Z : Type 0} (kept : X → Y) (make : Y → List Z) (xs : List X) (i : ℕ) (x : X) (within : i < length xs) (is : x ≡ get_or xs i x)
  where
    abbrev made : List X → List Z
    made xs = flat_map make (map kept xs)

    pub more-made : made (take (i + 1) xs) ≡ made (take i xs) ++ make (kept x)
    more-made =
        ap made (take_more xs i x within ∙ ap (λ y. take i xs ++ y ∷ []) (sym is))
        ∙ ap (flat_map make) (map-append kept (take i xs) (x ∷ []))
        ∙ flat_map-append make (map kept (take i xs)) (kept x ∷ [])
        ∙ ap (λ zs. made (take i xs) ++ zs) (append-nil (make (kept x)))
