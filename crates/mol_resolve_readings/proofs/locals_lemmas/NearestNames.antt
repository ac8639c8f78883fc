-- The nearest local of a name, one local further and one local less.
use Rattle.std.proofs.Common.{◌≡◌, ℕ, suc, true, false, Bool, if◌then◌else◌, List, [], ◌∷◌, ◌++◌, map, Option, Some, None, option_map, refl, sym, ◌∙◌, ap, subst}
use Rattle.std.specs.List.{slice_get, All}
use Rattle.std.specs.Option.{option_and_then, option_or}
use Rattle.std.specs.Str.{bytes_eq}
use Rattle.std.proofs.lemmas.List.Elements.{All-head, All-tail}
use Rattle.std.proofs.lemmas.Option.{none-some, same_Some}
use Rattle.jav_names.specs.DottedNames.{Name}
use Rattle.jav_names.specs.LookUps.{last_place}

-- of these numbers, whose names are these, the last that has a name
abbrev pub nearest_by : (ℕ → Name) → List ℕ → Name → Option ℕ
nearest_by names numbers name = option_and_then (slice_get numbers) (last_place name (map names numbers))

abbrev InRange : List ℕ → Option ℕ → Type 0
InRange numbers place = (k : ℕ) → place ≡ Some k → (n : ℕ) × (slice_get numbers k ≡ Some n)

in_range-cons : (x : ℕ) (xs : List ℕ) (here : Bool) (place : Option ℕ) → InRange xs place
    → InRange (x ∷ xs) (option_or (option_map (λ k. suc k) place) (if here then Some 0 else None))
in_range-cons x xs true None inside k is = (x, subst (λ j. slice_get (x ∷ xs) j ≡ Some x) (same_Some 0 k is) refl)
in_range-cons x xs false None inside k is = absurd cc
in_range-cons x xs here (Some j) inside k is =
    let found = inside j refl in (found.0, subst (λ i. slice_get (x ∷ xs) i ≡ Some found.0) (same_Some (suc j) k is) found.1)

in_range : (names : ℕ → Name) (numbers : List ℕ) (name : Name) → InRange numbers (last_place name (map names numbers))
in_range names [] name k is = absurd cc
in_range names (x ∷ xs) name k is =
    in_range-cons x xs (bytes_eq (names x) name) (last_place name (map names xs)) (in_range names xs name) k is

-- Where no number is the nearest of a name, no number has it.
pub none-near : (names : ℕ → Name) (numbers : List ℕ) (name : Name) → nearest_by names numbers name ≡ None
    → last_place name (map names numbers) ≡ None
none-near names numbers name none = by (last_place name (map names numbers)) (in_range names numbers name) none where
  by : (place : Option ℕ) → InRange numbers place → option_and_then (slice_get numbers) place ≡ None → place ≡ None
  by None inside none = refl
  by (Some k) inside none = let found = inside k refl in absurd (none-some found.0 (sym none ∙ found.1))

step : (x : ℕ) (xs : List ℕ) (here : Bool) (place : Option ℕ) → InRange xs place
    → option_and_then (slice_get (x ∷ xs)) (option_or (option_map (λ k. suc k) place) (if here then Some 0 else None))
    ≡ option_or (option_and_then (slice_get xs) place) (if here then Some x else None)
step x xs true None inside = refl
step x xs false None inside = refl
step x xs here (Some k) inside =
    let found = inside k refl in found.1 ∙ sym (ap (λ (o : Option ℕ). option_or o (if here then Some x else None)) found.1)

nearest-cons : (names : ℕ → Name) (x : ℕ) (xs : List ℕ) (name : Name)
    → nearest_by names (x ∷ xs) name ≡ option_or (nearest_by names xs name) (if bytes_eq (names x) name then Some x else None)
nearest-cons names x xs name = step x xs (bytes_eq (names x) name) (last_place name (map names xs)) (in_range names xs name)

or-last : (last : Bool) (n : ℕ) (before first : Option ℕ)
    → option_or (if last then Some n else before) first ≡ (if last then Some n else option_or before first)
or-last true n before first = refl
or-last false n before first = refl

-- one number further
pub nearest-push : (names : ℕ → Name) (numbers : List ℕ) (n : ℕ) (name : Name)
    → nearest_by names (numbers ++ n ∷ []) name ≡ (if bytes_eq (names n) name then Some n else nearest_by names numbers name)
nearest-push names [] n name = nearest-cons names n [] name
nearest-push names (x ∷ xs) n name =
    let first : Option ℕ = if bytes_eq (names x) name then Some x else None in
    nearest-cons names x (xs ++ n ∷ []) name ∙ ap (λ (o : Option ℕ). option_or o first) (nearest-push names xs n name)
    ∙ or-last (bytes_eq (names n) name) n (nearest_by names xs name) first
    ∙ ap (λ (o : Option ℕ). if bytes_eq (names n) name then Some n else o) (sym (nearest-cons names x xs name))

-- The nearest is the same where each of the numbers has the same name.
pub nearest-same : (names named : ℕ → Name) (numbers : List ℕ) (name : Name) → All (λ n. names n ≡ named n) numbers
    → nearest_by names numbers name ≡ nearest_by named numbers name
nearest-same names named [] name same = refl
nearest-same names named (x ∷ xs) name same =
    nearest-cons names x xs name
    ∙ ap (λ (o : Option ℕ). option_or o (if bytes_eq (names x) name then Some x else None))
    (nearest-same names named xs name (All-tail (λ n. names n ≡ named n) x xs same))
    ∙ ap (λ (first : Name). option_or (nearest_by named xs name) (if bytes_eq first name then Some x else None))
    (All-head (λ n. names n ≡ named n) x xs same)
    ∙ sym (nearest-cons named x xs name)
