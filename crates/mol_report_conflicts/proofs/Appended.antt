-- Texts that are appended one after the other.
use Rattle.std.proofs.Common.{◌≡◌, ℕ, ◌+◌, ◌<◌, List, [], ◌∷◌, ◌++◌, length, get_or, take, sym, ap, ◌∙◌}
use Rattle.std.specs.List.{flat_map}
use Rattle.std.proofs.lemmas.List.{take_more, flat_map_more}

-- one more
pub appended-more : {X : Type 0} (text : X → List ℕ) (xs : List X) (i : ℕ) (x : X) (start before after : List ℕ) → i < length xs
    → x ≡ get_or xs i x → before ≡ start ++ flat_map text (take i xs) → after ≡ before ++ text x
    → after ≡ start ++ flat_map text (take (i + 1) xs)
appended-more text xs i x start before after within is was now =
    now ∙ ap (λ out. out ++ text x) was ∙ flat_map_more text start (take i xs) x
    ∙ ap (λ more. start ++ flat_map text more) (ap (λ y. take i xs ++ y ∷ []) is ∙ sym (take_more xs i x within))
