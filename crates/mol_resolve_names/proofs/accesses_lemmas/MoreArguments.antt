-- One more value among arguments.
use Rattle.std.proofs.Common.{◌≡◌, ℕ, ◌<◌, ◌≤◌, List, [], ◌∷◌, ◌++◌, map, length, get_or, Some, None, slice_get, refl, sym, ◌∙◌, ap, arith, append-nil}
use Rattle.std.specs.List.{zip}
use Rattle.std.specs.Option.{option_map_or}
use Rattle.std.proofs.lemmas.List.{map-append, length-map}
use Rattle.std.proofs.lemmas.Option.{slice_get_past, slice_get_read}
use Rattle.mol_base.specs.declared.ident.Id.{Id}
use Rattle.mol_resolve_rules.specs.ReadTrees.{with_params}
use Rattle.mol_values_types.specs.declared.iexpr.Argument.{Argument}
use Rattle.mol_values_types.specs.declared.iexpr.IExpr.{IExpr}

-- pairs of a list and one with one more
zip-none : {A B : Type 0} (xs : List A) (ys : List B) → ys ≡ [] → zip xs ys ≡ []
zip-none [] ys none = refl
zip-none (x ∷ xs) ys none = ap (zip (x ∷ xs)) none

zip-more : {A B : Type 0} (xs : List A) (ys : List B) (y : B)
    → zip xs (ys ++ y ∷ []) ≡ zip xs ys ++ option_map_or (λ x. (x, y) ∷ []) (slice_get xs (length (zip xs ys))) []
zip-more [] ys y = refl
zip-more (x ∷ xs) [] y = ap (λ more. (x, y) ∷ more) (zip-none xs [] refl)
zip-more (x ∷ xs) (z ∷ ys) y = ap (λ more. (x, z) ∷ more) (zip-more xs ys y)

pub none-given : (params : List Id) → [] ≡ with_params params []
none-given params = sym (ap (map (λ (pair : Id × IExpr). record { param = pair.0; value = pair.1 })) (zip-none params [] refl))

module _ (params : List Id) (values : List IExpr) (value : IExpr) where
  abbrev argument_of : Id × IExpr → Argument
  argument_of pair = record { param = pair.0; value = pair.1 }

  abbrev pairs : List (Id × IExpr)
  pairs = zip params values

  counted : length (with_params params values) ≡ length pairs
  counted = length-map pairs argument_of

  pub argument-more : (place : ℕ) (param : Id) → place ≡ length (with_params params values) → place < length params
      → param ≡ get_or params place param
      → with_params params values ++ record { param = param; value = value } ∷ [] ≡ with_params params (values ++ value ∷ [])
  argument-more place param is inside at =
      let there : slice_get params (length pairs) ≡ Some param =
      ap (slice_get params) (sym (is ∙ counted)) ∙ slice_get_read params (length params) place param refl inside at in
      sym (ap (map argument_of) (zip-more params values value
      ∙ ap (λ o. pairs ++ option_map_or (λ x. (x, value) ∷ []) o []) there)
      ∙ map-append argument_of pairs ((param, value) ∷ []))

  pub argument-none : (place : ℕ) → place ≡ length (with_params params values) → length params ≤ place
      → with_params params values ≡ with_params params (values ++ value ∷ [])
  argument-none place is past =
      let there : slice_get params (length pairs) ≡ None = slice_get_past params (length pairs) (omega (arith, is, counted, past)) in
      sym (ap (map argument_of) (zip-more params values value
      ∙ ap (λ o. pairs ++ option_map_or (λ x. (x, value) ∷ []) o []) there ∙ append-nil pairs))
