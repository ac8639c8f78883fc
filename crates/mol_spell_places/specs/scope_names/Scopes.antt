-- The names of locals in scope, as the code keeps them.
use Rattle.std.specs.Prelude.{◌≡◌, ℕ, List, map, take, Option, Some, slice_get}
use Rattle.std.specs.Borrow.{Bor}
use Rattle.jav_names.specs.DottedNames.{Name, Names}
use Rattle.jav_names.specs.LookUps.{last_place}
use Rattle.mol_spell_places.specs.scope_names.Places.{found_at}
use Rattle.mol_spell_places.specs.declared.scope_names.scope.InScope.{InScope}

abbrev pub names_in : List InScope → Names
names_in in_scope = map (λ local. local.name.now) in_scope

-- Each name keeps as hidden the place of the nearest of its name among those that came into scope before it. At each name stands the
-- place of the nearest in scope.
pub record AreNearest (in_scope : List InScope) (nearest : List (Bor Name × Option ℕ)) : Type 0 where
  pub hidden : (place : ℕ) (local : InScope) → slice_get in_scope place ≡ Some local
      → local.hidden ≡ last_place local.name.now (names_in (take place in_scope))
  pub found : (name : Name) → found_at nearest name ≡ last_place name (names_in in_scope)
