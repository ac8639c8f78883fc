-- Names that are kept, the last of them first.
use Rattle.std.proofs.Common.{◌≡◌, List, [], ◌∷◌, ◌++◌, map, reverse, ap, ◌∙◌, sym, append_assoc}
use Rattle.std.proofs.lemmas.List.{map-append, reverse-append}
use Rattle.std.specs.Borrow.{Bor}
use Rattle.jav_names.specs.DottedNames.{Name, Names}

-- as they stand
abbrev pub in_order : List (Bor Name) → Names
in_order kept = map (λ (name : Bor Name). name.now) (reverse kept)

-- one more
pub one-more : (kept more : List (Bor Name)) (next : Bor Name) → more ≡ kept ++ next ∷ [] → in_order more ≡ next.now ∷ in_order kept
one-more kept more next is =
    ap in_order is ∙ ap (λ kept. map (λ (name : Bor Name). name.now) kept) (reverse-append kept (next ∷ []))

-- ---- gone through one by one

abbrev pub told : List (Bor (Bor Name)) → Names
told items = map (λ (name : Bor Name). name.now) (map (λ (item : Bor (Bor Name)). item.now) items)

pub one-told : (names so_far after : Names) (items : List (Bor (Bor Name))) (item : Bor (Bor Name)) → so_far ≡ names ++ told items
    → after ≡ so_far ++ item.now.now ∷ [] → after ≡ names ++ told (items ++ item ∷ [])
one-told names so_far after items item so last =
    last ∙ ap (λ names. names ++ item.now.now ∷ []) so ∙ append_assoc names (told items) (item.now.now ∷ [])
    ∙ ap (λ more. names ++ more) (sym (ap (λ kept. map (λ (name : Bor Name). name.now) kept)
    (map-append (λ (item : Bor (Bor Name)). item.now) items (item ∷ []))
    ∙ map-append (λ (name : Bor Name). name.now) (map (λ (item : Bor (Bor Name)). item.now) items) (item.now ∷ [])))
