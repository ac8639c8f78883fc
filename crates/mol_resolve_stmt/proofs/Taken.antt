-- Whether a name is that of a local in scope.
use Rattle.std.proofs.Common.{◌≡◌, ℕ, zero, suc, Bool, true, false, List, [], ◌∷◌, map, Option, Some, None, ◌++◌, slice_get, option_map, ◌||◌, cond, refl, sym, ap, ◌∙◌}
use Rattle.std.specs.List.{list_any}
use Rattle.std.specs.Option.{is_some, option_and_then, option_or}
use Rattle.std.specs.Str.{bytes_eq}
use Rattle.std.proofs.lemmas.Bool.Decides.{same_from_decides}
use Rattle.std.proofs.lemmas.List.Folds.{list_any-append}
use Rattle.std.proofs.lemmas.Slice.Eq.{bytes_eq-Decides}
use Rattle.jav_names.specs.DottedNames.{Name, Names}
use Rattle.jav_names.specs.LookUps.{last_place}
use Rattle.mol_resolve_readings.specs.locals.Scoped.{nearest_local}
use Rattle.mol_resolve_rules.specs.Locals.{Locals, local_name, names_in_scope}

bytes_eq-either : (a b : Name) → bytes_eq a b ≡ bytes_eq b a
bytes_eq-either a b =
    let back = bytes_eq-Decides b a in
    same_from_decides (bytes_eq a b) (bytes_eq b a) (bytes_eq-Decides a b) (λ is. sym (back.0 is), λ is. back.1 (sym is))

module _ (name : Name) (name_of : ℕ → Name) where
  -- what is found where a name is last found, in a list that the names are of
  abbrev near : List ℕ → Option ℕ
  near numbers = option_and_then (slice_get numbers) (last_place name (map name_of numbers))

  abbrev Found : List ℕ → Type 0
  Found numbers = (place : ℕ) → last_place name (map name_of numbers) ≡ Some place → is_some (slice_get numbers place) ≡ true

  found-here : (number : ℕ) (rest : List ℕ) (b : Bool) (further : Option ℕ)
      → ((place : ℕ) → further ≡ Some place → is_some (slice_get rest place) ≡ true)
      → (place : ℕ) → option_or (option_map (λ place. suc place) further) (cond {A = Option ℕ} b (Some 0) None) ≡ Some place
      → is_some (slice_get (number ∷ rest) place) ≡ true
  found-here number rest true None more zero is = refl
  found-here number rest true None more (suc place) is = absurd cc
  found-here number rest false None more place is = absurd cc
  found-here number rest b (Some further) more zero is = absurd cc
  found-here number rest b (Some further) more (suc place) is = let same : Some further ≡ Some place = cc in more place same

  found : (numbers : List ℕ) → Found numbers
  found [] = λ place is. absurd cc
  found (number ∷ rest) =
      found-here number rest (bytes_eq (name_of number) name) (last_place name (map name_of rest)) (found rest)

  near-here : (number : ℕ) (rest : List ℕ) (b others : Bool) (further : Option ℕ)
      → ((place : ℕ) → further ≡ Some place → is_some (slice_get rest place) ≡ true)
      → is_some (option_and_then (slice_get rest) further) ≡ others
      → is_some (option_and_then (slice_get (number ∷ rest))
      (option_or (option_map (λ place. suc place) further) (cond {A = Option ℕ} b (Some 0) None))) ≡ (b || others)
  near-here number rest true others None more is = refl
  near-here number rest false others None more is = is
  near-here number rest true others (Some place) more is = more place refl
  near-here number rest false others (Some place) more is = is

  near-any : (numbers : List ℕ) → is_some (near numbers) ≡ list_any (bytes_eq name) (map name_of numbers)
  near-any [] = refl
  near-any (number ∷ rest) =
      near-here number rest (bytes_eq (name_of number) name) (list_any (bytes_eq name) (map name_of rest))
      (last_place name (map name_of rest)) (found rest) (near-any rest)
      ∙ ap (λ b. b || list_any (bytes_eq name) (map name_of rest)) (bytes_eq-either (name_of number) name)

is_taken : (locals : Locals ℕ) (name : Name) → is_some (nearest_local locals name) ≡ list_any (bytes_eq name) (names_in_scope locals)
is_taken locals name = near-any name (local_name locals) locals.in_scope

module _ (locals : Locals ℕ) (params : Names) (name : Name) where
  taken : (is_local is_param : Bool) → is_local ≡ is_some (nearest_local locals name) → is_param ≡ list_any (bytes_eq name) params
      → (is_local || is_param) ≡ list_any (bytes_eq name) (names_in_scope locals ++ params)
  taken is_local is_param local_is param_is =
      (λ i. (local_is ∙ is_taken locals name) i || param_is i) ∙ sym (list_any-append (bytes_eq name) (names_in_scope locals) params)

  -- # As the code looks

  pub of_local : (found : Option ℕ) (is_local : Bool) → found ≡ nearest_local locals name → is_local ≡ is_some found → true ≡ is_some found
      → is_local ≡ list_any (bytes_eq name) (names_in_scope locals ++ params)
  of_local found is_local near is holds =
      is ∙ sym holds ∙ ap (λ b. b || list_any (bytes_eq name) params) holds
      ∙ taken (is_some found) (list_any (bytes_eq name) params) (ap (λ (found : Option ℕ). is_some found) near) refl

  pub of_param : (found : Option ℕ) (is_param : Bool) → found ≡ nearest_local locals name → false ≡ is_some found
      → is_param ≡ list_any (bytes_eq name) params → is_param ≡ list_any (bytes_eq name) (names_in_scope locals ++ params)
  of_param found is_param near fails is =
      ap (λ b. b || is_param) fails ∙ taken (is_some found) is_param (ap (λ (found : Option ℕ). is_some found) near) is
