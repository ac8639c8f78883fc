-- The last and the first place of a name, one name further.
use Rattle.std.proofs.Common.{◌≡◌, ℕ, suc, Bool, true, false, if◌then◌else◌, [], ◌∷◌, ◌++◌, length, Option, Some, None, option_map, refl, ◌∙◌, ap, bytes_eq}
use Rattle.std.specs.Option.{option_or}
use Rattle.jav_names.specs.DottedNames.{Name, Names}
use Rattle.jav_names.specs.LookUps.{first_place, last_place}

last-step : (here : Bool) (n : ℕ) (further first : Option ℕ)
    → option_or (option_map (λ k. suc k) (if here then Some n else further)) first
    ≡ (if here then Some (suc n) else option_or (option_map (λ k. suc k) further) first)
last-step true n further first = refl
last-step false n further first = refl

pub last_place-push : (name : Name) (names : Names) (next : Name)
    → last_place name (names ++ next ∷ []) ≡ (if bytes_eq next name then Some (length names) else last_place name names)
last_place-push name [] next = refl
last_place-push name (first ∷ names) next =
    ap (λ (o : Option ℕ). option_or (option_map (λ k. suc k) o) (if bytes_eq first name then Some 0 else None))
    (last_place-push name names next)
    ∙ last-step (bytes_eq next name) (length names) (last_place name names) (if bytes_eq first name then Some 0 else None)

first-step : (before here : Bool) (n : ℕ) (further : Option ℕ)
    → (if before then Some 0 else option_map (λ k. suc k) (option_or further (if here then Some n else None)))
    ≡ option_or (if before then Some 0 else option_map (λ k. suc k) further) (if here then Some (suc n) else None)
first-step true here n further = refl
first-step false here n (Some k) = refl
first-step false true n None = refl
first-step false false n None = refl

pub first_place-push : (name : Name) (names : Names) (next : Name)
    → first_place name (names ++ next ∷ []) ≡ option_or (first_place name names) (if bytes_eq next name then Some (length names) else None)
first_place-push name [] next = refl
first_place-push name (first ∷ names) next =
    ap (λ (o : Option ℕ). if bytes_eq first name then Some 0 else option_map (λ k. suc k) o) (first_place-push name names next)
    ∙ first-step (bytes_eq first name) (bytes_eq next name) (length names) (first_place name names)
