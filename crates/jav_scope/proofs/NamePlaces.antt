-- The first and the last place of a name, name by name.
use Rattle.std.proofs.Common.{◌≡◌, ℕ, zero, suc, ◌+◌, ◌<◌, Bool, true, false, cond, [], ◌∷◌, ◌++◌, length, take, get_or, Option, Some, None, option_map, refl, sym, ◌∙◌, ap, arith, bytes_eq}
use Rattle.std.specs.Option.{option_or}
use Rattle.std.proofs.lemmas.List.{take_more, length-take-le}
use Rattle.jav_names.specs.DottedNames.{Name, Names}
use Rattle.jav_names.specs.LookUps.{first_place, last_place}

-- one more name at the end
first_place-push : (name : Name) (names : Names) (next : Name) → first_place name names ≡ None
    → first_place name (names ++ next ∷ []) ≡ cond (bytes_eq next name) (Some (length names)) None
first_place-push name [] next none = by_test (bytes_eq next name) where
  by_test : (b : Bool) → cond b (Some 0) (option_map (λ k. suc k) None) ≡ cond b (Some 0) None
  by_test true = refl
  by_test false = refl
first_place-push name (first ∷ names) next none = by_test (bytes_eq first name) none (first_place-push name names next) where
  by_rest : (o : Option ℕ) → option_map (λ k. suc k) o ≡ None → o ≡ None
  by_rest None is = refl
  by_rest (Some k) is = absurd cc

  further : (b : Bool) (n : ℕ) → option_map (λ k. suc k) (cond b (Some n) None) ≡ cond b (Some (suc n)) None
  further true n = refl
  further false n = refl

  by_test : (b : Bool) → cond b (Some 0) (option_map (λ k. suc k) (first_place name names)) ≡ None
      → (first_place name names ≡ None → first_place name (names ++ next ∷ []) ≡ cond (bytes_eq next name) (Some (length names)) None)
      → cond b (Some 0) (option_map (λ k. suc k) (first_place name (names ++ next ∷ [])))
      ≡ cond (bytes_eq next name) (Some (length (first ∷ names))) None
  by_test true is more = absurd cc
  by_test false is more = ap (option_map (λ k. suc k)) (more (by_rest (first_place name names) is))
      ∙ further (bytes_eq next name) (length names)

last_place-push : (name : Name) (names : Names) (next : Name)
    → last_place name (names ++ next ∷ []) ≡ cond (bytes_eq next name) (Some (length names)) (last_place name names)
last_place-push name [] next = by_test (bytes_eq next name) where
  by_test : (b : Bool) → option_or (option_map (λ k. suc k) None) (cond b (Some 0) None) ≡ cond b (Some 0) None
  by_test true = refl
  by_test false = refl
last_place-push name (first ∷ names) next =
    ap (λ o. option_or (option_map (λ k. suc k) o) (cond (bytes_eq first name) (Some 0) None)) (last_place-push name names next)
    ∙ by_test (bytes_eq next name) where
      by_test : (b : Bool)
          → option_or (option_map (λ k. suc k) (cond b (Some (length names)) (last_place name names)))
          (cond (bytes_eq first name) (Some 0) None)
          ≡ cond b (Some (length (first ∷ names))) (last_place name (first ∷ names))
      by_test true = refl
      by_test false = refl

-- and so in a loop
module _ (name : Name) (names : Names) (i : ℕ) (next : Name) (within : i < length names) (is : next ≡ get_or names i next) where
  so-many : length (take i names) ≡ i
  so-many = length-take-le i names (omega (arith, within))

  one-more : take (i + 1) names ≡ take i names ++ next ∷ []
  one-more = take_more names i next within ∙ ap (λ n. take i names ++ n ∷ []) (sym is)

  pub first-here : first_place name (take i names) ≡ None → bytes_eq next name ≡ true → Some i ≡ first_place name (take (i + 1) names)
  first-here none same =
      sym (ap (first_place name) one-more ∙ first_place-push name (take i names) next none
      ∙ ap (λ b. cond b (Some (length (take i names))) None) same
      ∙ ap (λ k. Some k) so-many)

  pub first-later : first_place name (take i names) ≡ None → bytes_eq next name ≡ false → first_place name (take (i + 1) names) ≡ None
  first-later none differs =
      ap (first_place name) one-more ∙ first_place-push name (take i names) next none
      ∙ ap (λ b. cond b (Some (length (take i names))) None) differs

  pub last-here : bytes_eq next name ≡ true → Some i ≡ last_place name (take (i + 1) names)
  last-here same =
      sym (ap (last_place name) one-more ∙ last_place-push name (take i names) next
      ∙ ap (λ b. cond b (Some (length (take i names))) (last_place name (take i names))) same ∙ ap (λ k. Some k) so-many)

  pub last-before : bytes_eq next name ≡ false → last_place name (take i names) ≡ last_place name (take (i + 1) names)
  last-before differs =
      sym (ap (last_place name) one-more ∙ last_place-push name (take i names) next
      ∙ ap (λ b. cond b (Some (length (take i names))) (last_place name (take i names))) differs)

-- the first place is the same in a longer list
pub first_place-front : (name : Name) (names : Names) (n k : ℕ) → Some k ≡ first_place name (take n names) → Some k ≡ first_place name names
first_place-front name names zero k is = absurd cc
first_place-front name [] (suc n) k is = absurd cc
first_place-front name (first ∷ names) (suc n) k is = by_test (bytes_eq first name) is (first_place-front name names n) where
  by_rest : (o : Option ℕ) → Some k ≡ option_map (λ j. suc j) o → first_place name (take n names) ≡ o
      → ((j : ℕ) → Some j ≡ first_place name (take n names) → Some j ≡ first_place name names)
      → Some k ≡ option_map (λ j. suc j) (first_place name names)
  by_rest None is at more = absurd cc
  by_rest (Some j) is at more = is ∙ ap (option_map (λ j. suc j)) (more j (sym at))

  by_test : (b : Bool) → Some k ≡ cond b (Some 0) (option_map (λ j. suc j) (first_place name (take n names)))
      → ((j : ℕ) → Some j ≡ first_place name (take n names) → Some j ≡ first_place name names)
      → Some k ≡ cond b (Some 0) (option_map (λ j. suc j) (first_place name names))
  by_test true is more = is
  by_test false is more = by_rest (first_place name (take n names)) is refl more
