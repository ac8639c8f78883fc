-- The locals of a body as the code keeps them.
use Rattle.std.specs.Prelude.{◌≡◌, ℕ, ◌<◌, List, [], map, length, take, Option, Some, slice_get, refl}
use Rattle.std.specs.Coded.{Coded, code_by, coded×, coded_list, coded_ℕ}
use Rattle.std.specs.List.{All}
use Rattle.std.specs.Map.{lookup}
use Rattle.std.specs.Option.{option_and_then, option_flatten}
use Rattle.std.specs.Str.{bytes_eq}
use Rattle.jav_names.specs.seen.Kept.{view_type}
use Rattle.jav_names.specs.DottedNames.{Name}
use Rattle.jav_names.specs.LookUps.{last_place}
use Rattle.mol_resolve_rules.specs.Locals as spell
use Rattle.mol_resolve_readings.specs.declared.locals.local.Local.{Local}
use Rattle.mol_resolve_readings.specs.declared.locals.local.InScope.{InScope}

-- all that were declared, and the numbers of those in scope
pub record Scoped : Type 0 where
  pub declared : List Local
  pub in_scope : List ℕ

abbrev pub scoped_code : Coded Local → Coded Scoped
scoped_code locals = code_by (List Local × List ℕ) (coded× (coded_list locals) (coded_list coded_ℕ))
    (λ scoped. (scoped.declared, scoped.in_scope)) (λ both. record { declared = both.0; in_scope = both.1 }) (λ _. refl)

abbrev pub local_of : Local → spell.Local ℕ
local_of local = record { name = local.name; type = view_type local.ty }

abbrev pub locals_of : Scoped → spell.Locals ℕ
locals_of scoped = record { declared = map local_of scoped.declared; in_scope = scoped.in_scope }

-- the number of the nearest local in scope of a name
abbrev pub nearest_local : {C : Type 0} → spell.Locals C → Name → Option ℕ
nearest_local locals name = option_and_then (slice_get locals.in_scope) (last_place name (spell.names_in_scope locals))

-- ---- what is kept beside them

abbrev pub numbers : List InScope → List ℕ
numbers in_scope = map (λ (local : InScope). local.number) in_scope

abbrev pub with_scope : List Local → List InScope → spell.Locals ℕ
with_scope declared in_scope = record { declared = map local_of declared; in_scope = numbers in_scope }

-- the name of a declared local by its number
abbrev pub name_in : List Local → ℕ → Name
name_in declared = spell.local_name (with_scope declared [])

-- what stands at a name in the map
abbrev pub found_at : List (Name × Option ℕ) → Name → Option ℕ
found_at entries name = option_flatten (lookup (bytes_eq name) entries)

-- Each local in scope was declared, and keeps as hidden the nearest of its name among those that came into scope before it. At each
-- name stands the nearest local in scope.
pub record Stands (declared : List Local) (in_scope : List InScope) (nearest : List (Name × Option ℕ)) : Type 0 where
  pub inside : All (λ local. local.number < length declared) in_scope
  pub hidden : (place : ℕ) (local : InScope) → slice_get in_scope place ≡ Some local
      → local.hidden ≡ nearest_local (with_scope declared (take place in_scope)) (name_in declared local.number)
  pub found : (name : Name) → found_at nearest name ≡ nearest_local (with_scope declared in_scope) name
