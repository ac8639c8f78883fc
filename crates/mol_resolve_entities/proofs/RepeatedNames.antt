-- Names of which two are one: the first is among those after it, or two of these are one.
use Rattle.std.proofs.Common.{◌≡◌, ◌-◌, ◌≤◌, Bool, true, false, ◌||◌, List, [], ◌∷◌, map, length, take, drop, get_or, refl, sym, ◌∙◌, ap, arith}
use Rattle.std.specs.List.{list_any}
use Rattle.std.specs.Str.{bytes_eq}
use Rattle.std.proofs.lemmas.List.{take_all}
use Rattle.jav_tree.specs.declared.unit.Param.{Param}
use Rattle.jav_names.specs.DottedNames.{Name, Names}
use Rattle.mol_resolve_rules.specs.ReadFiles.{is_repeated}

abbrev pub rest_of : List Param → List Param
rest_of params = take (length params - 1) (drop 1 params)

abbrev pub names_of : List Param → Names
names_of params = map (λ (param : Param). param.name) params

abbrev pub has_name : Name → List Param → Bool
has_name name params = list_any (λ (param : Param). bytes_eq name param.name) params

any-named : (name : Name) (params : List Param) → has_name name params ≡ list_any (bytes_eq name) (names_of params)
any-named name [] = refl
any-named name (param ∷ params) = ap (λ later. bytes_eq name param.name || later) (any-named name params)

whole : (params : List Param) (first : Param) → 1 ≤ length params → first ≡ get_or params 0 first
    → (has_name first.name (rest_of params) || is_repeated (names_of (rest_of params))) ≡ is_repeated (names_of params)
whole [] first some is = absurd (omega (arith, some))
whole (param ∷ params) first some is =
    ap (λ (rest : List Param). has_name first.name rest || is_repeated (names_of rest))
    (take_all (length (param ∷ params) - 1) params (omega arith))
    ∙ ap (λ (p : Param). has_name p.name params || is_repeated (names_of params)) is
    ∙ ap (λ among. among || is_repeated (names_of params)) (any-named param.name params)

module _ (params : List Param) (first : Param) (some : 1 ≤ length params) (is : first ≡ get_or params 0 first) where
  pub first-repeated : (found : Bool) → found ≡ has_name first.name (rest_of params) → true ≡ has_name first.name (rest_of params)
      → found ≡ is_repeated (names_of params)
  first-repeated found among holds =
      among ∙ sym holds ∙ ap (λ b. b || is_repeated (names_of (rest_of params))) holds ∙ whole params first some is

  pub later-repeated : (later : Bool) → false ≡ has_name first.name (rest_of params)
      → later ≡ is_repeated (names_of (rest_of params)) → later ≡ is_repeated (names_of params)
  later-repeated later fails again =
      again ∙ ap (λ b. b || is_repeated (names_of (rest_of params))) fails ∙ whole params first some is
