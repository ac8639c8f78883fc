-- The places of parameters by their names, one parameter further.
use Rattle.std.proofs.Common.{◌≡◌, ℕ, ◌+◌, ◌<◌, if◌then◌else◌, List, [], ◌∷◌, ◌++◌, length, take, get_or, Option, Some, None, refl, sym, ◌∙◌, ap, arith, bytes_eq}
use Rattle.std.specs.Borrow.{Bor}
use Rattle.std.specs.Option.{option_or}
use Rattle.std.proofs.lemmas.List.{length-map, length-take-le, map_push, take_more}
use Rattle.jav_names.specs.DottedNames.{Name}
use Rattle.jav_names.specs.LookUps.{first_place}
use Rattle.mol_values_types.specs.declared.param.Param.{Param}
use Rattle.mol_spell_places.specs.scope_names.Params.{param_names, AreFirst}
use Rattle.mol_spell_places.specs.scope_names.Places.{found_at}
use Rattle.mol_spell_places.proofs.scope_names_lemmas.PlacesPushed.{first_place-push}

pub none-first : AreFirst [] []
none-first name = refl

module _ (params : List Param) (place : ℕ) (param : Param) (within : place < length params) (is : param ≡ get_or params place param) where
  so-many : length (param_names (take place params)) ≡ place
  so-many = length-map (take place params) (λ (p : Param). p.name) ∙ length-take-le place params (omega (arith, within))

  names-more : param_names (take (place + 1) params) ≡ param_names (take place params) ++ param.name ∷ []
  names-more = ap param_names (take_more params place param within ∙ ap (λ p. take place params ++ p ∷ []) (sym is))
      ∙ map_push (λ (p : Param). p.name) (take place params) param

  pub one-more : (entries newer : List (Bor Name × Option ℕ)) → AreFirst (param_names (take place params)) entries
      → (name : Name) → name ≡ param.name
      → ((asked : Name) → found_at newer asked
      ≡ option_or (found_at entries asked) (if bytes_eq name asked then Some place else None))
      → AreFirst (param_names (take (place + 1) params)) newer
  one-more entries newer first name named now asked =
      now asked
      ∙ (λ i. option_or (first asked i) (if bytes_eq (named i) asked then Some (sym so-many i) else None))
      ∙ sym (ap (first_place asked) names-more ∙ first_place-push asked (param_names (take place params)) param.name)
