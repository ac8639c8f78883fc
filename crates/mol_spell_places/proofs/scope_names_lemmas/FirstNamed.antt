-- The first place of a parameter's name is that of the first parameter that has it.
use Rattle.std.proofs.Common.{◌≡◌, ◌∙◌, ℕ, suc, ◌+◌, Bool, true, false, cond, not, List, [], ◌∷◌, length, nat_lt, Some, None, option_map, refl, ap, arith, lt-ltb, le-ltb, ltb-true, ltb-false}
use Rattle.std.specs.List.{position, position_or_len}
use Rattle.jav_names.specs.DottedNames.{Name}
use Rattle.jav_names.specs.LookUps.{first_place}
use Rattle.mol_spell_places.specs.scope_names.Params.{has_name, param_names}
use Rattle.mol_values_types.specs.declared.param.Param.{Param}

one-later : (place many : ℕ) → cond (nat_lt (1 + place) (suc many)) (Some (1 + place)) None
    ≡ option_map (λ k. suc k) (cond (nat_lt place many) (Some place) None)
one-later place many = by (nat_lt place many) refl where
  next : 1 + place ≡ suc place
  next = omega arith

  by : (b : Bool) → nat_lt place many ≡ b → cond (nat_lt (1 + place) (suc many)) (Some (1 + place)) None
      ≡ option_map (λ k. suc k) (cond b (Some place) None)
  by true is =
      ap (λ b. cond b (Some (1 + place)) None) (lt-ltb (1 + place) (suc many) (omega (arith, ltb-true place many is)))
      ∙ ap (λ k. Some k) next
  by false is = ap (λ b. cond b (Some (1 + place)) None) (le-ltb (1 + place) (suc many) (omega (arith, ltb-false place many is)))

module _ (name : Name) where
  position-cons : (param : Param) (params : List Param) → position (has_name name) (param ∷ params)
      ≡ cond (has_name name param) (Some 0) (option_map (λ k. suc k) (position (has_name name) params))
  position-cons param params = by (has_name name param) where
    later : ℕ
    later = position_or_len (has_name name) params

    by : (b : Bool) → cond (nat_lt (cond (not b) (1 + later) 0) (suc (length params))) (Some (cond (not b) (1 + later) 0)) None
        ≡ cond b (Some 0) (option_map (λ k. suc k) (position (has_name name) params))
    by true = ap (λ b. cond b (Some 0) None) (lt-ltb 0 (suc (length params)) (omega arith))
    by false = one-later later (length params)

  pub first-named : (params : List Param) → position (has_name name) params ≡ first_place name (param_names params)
  first-named [] = refl
  first-named (param ∷ params) =
      position-cons param params
      ∙ ap (λ later. cond (has_name name param) (Some 0) (option_map (λ k. suc k) later)) (first-named params)
