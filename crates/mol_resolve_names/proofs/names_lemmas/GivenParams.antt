-- Parameters with their types and identities, one after the other.
use Rattle.std.proofs.Common.{◌≡◌, ◌∙◌, ℕ, ◌+◌, ◌<◌, ◌≤◌, min, List, [], ◌∷◌, ◌++◌, length, map, take, get_or, sym, ap, arith}
use Rattle.std.specs.List.{zip}
use Rattle.std.proofs.lemmas.List.{get_or-map, length-map, map-append, take_all, take_more}
use Rattle.std.proofs.lemmas.Slice.Zip.{get_or-zip, length-zip}
use Rattle.jav_tree.specs.declared.types.TypeName.{TypeName}
use Rattle.jav_tree.specs.declared.unit.Param.{Param}
use Rattle.jav_names.specs.Views.{ViewType}
use Rattle.mol_base.specs.declared.ident.Id.{Id}
use Rattle.mol_resolve_names.specs.chains.InMembers.{view_param}
use Rattle.mol_resolve_names.specs.declared.chains.parameter.Parameter.{Parameter}
use Rattle.mol_resolve_names.specs.names.Given.{given_param}
use Rattle.mol_resolve_rules.specs.Readers.{Parameter as Seen}

module _ (see : TypeName → ViewType ℕ) (ids : List Id) (params : List Param) (same : length ids ≡ length params) where
  abbrev pub all : List (Seen ℕ)
  all = map (given_param see) (zip ids params)

  so-many : length all ≡ length params
  so-many =
      let least : min (length params) (length params) ≡ length params = omega arith in
      length-map (zip ids params) (given_param see) ∙ length-zip ids params ∙ ap (λ many. min many (length params)) same ∙ least

  -- one more of them
  pub given-more : (place : ℕ) (given : List Parameter) (kept : Parameter) (param : Param) (id : Id) → place < length params
      → param ≡ get_or params place param → id ≡ get_or ids place id → view_param kept ≡ given_param see (id, param)
      → map view_param given ≡ take place all → map view_param (given ++ kept ∷ []) ≡ take (place + 1) all
  given-more place given kept param id inside is identity made are =
      let pair : Id × Param = (id, param) in
      let there : get_or (zip ids params) place pair ≡ pair =
      get_or-zip ids params place pair (omega (arith, inside, same)) inside ∙ (λ i. (sym identity i, sym is i)) in
      let mapped : get_or all place (given_param see pair) ≡ given_param see pair =
      get_or-map (given_param see) (zip ids params) place pair (given_param see pair)
      (omega (arith, inside, so-many, length-map (zip ids params) (given_param see))) ∙ ap (given_param see) there in
      map-append view_param given (kept ∷ [])
      ∙ (λ i. are i ++ (made ∙ sym mapped) i ∷ [])
      ∙ sym (take_more all place (given_param see pair) (omega (arith, inside, so-many)))

  pub given-all : (place : ℕ) → length params ≤ place → take place all ≡ all
  given-all place past = take_all place all (omega (arith, past, so-many))
