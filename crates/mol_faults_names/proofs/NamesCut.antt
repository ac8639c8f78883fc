-- Parts of several names.
use Rattle.std.proofs.Common.{◌≡◌, ℕ, suc, [], ◌∷◌, ◌++◌, length, take, drop, get_or, sym, ◌∙◌, ap, append_assoc, arith}
use Rattle.std.proofs.lemmas.List.{take_at, length-append}
use Rattle.jav_names.specs.DottedNames.{Name, Names}

pub first-name : (names : Names) (first name : Name) (rest : Names) → name ≡ get_or names 0 name → names ≡ first ∷ rest → name ≡ first
first-name names first name rest at is = at ∙ ap (λ (all : Names). get_or all 0 name) is

-- so many after the first
pub names-after : (names : Names) (first : Name) (rest follow : Names) (count : ℕ) → names ≡ first ∷ (rest ++ follow)
    → count ≡ length rest → take count (drop 1 names) ≡ rest
names-after names first rest follow count is many =
    ap (λ (all : Names). take count (drop 1 all)) is ∙ take_at rest follow count (sym many)

pub with-last : (names : Names) (first name : Name) (rest follow : Names) → names ≡ first ∷ (rest ++ name ∷ follow)
    → names ≡ first ∷ ((rest ++ name ∷ []) ++ follow)
with-last names first name rest follow is = is ∙ ap (λ more. first ∷ more) (sym (append_assoc rest (name ∷ []) follow))

pub one-longer : (rest : Names) (name : Name) → length (rest ++ name ∷ []) ≡ suc (length rest)
one-longer rest name = let all = length-append rest (name ∷ []) in omega (arith, all)
