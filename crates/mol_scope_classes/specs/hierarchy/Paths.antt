-- Paths of classes: each class of a path but the first extends the one before it.
use Rattle.std.specs.Prelude.{◌≡◌, ◌≢◌, ◌≤◌, ℕ, suc, cond, List, Some}
use Rattle.std.specs.FinMap.{get, from_entries}
use Rattle.std.specs.Option.{option_map_or}
use Rattle.mol_base.specs.Order.{id_cmp}
use Rattle.mol_base.specs.declared.ident.Id.{Id}
use Rattle.mol_table_rules.specs.Heights.{upward}
use Rattle.mol_table_rules.specs.Program.{Program, same_id}
use Rattle.mol_scope_classes.specs.declared.hierarchy.position.Position.{Position}

-- the first class of a path, or one that stands so many places further
abbrev pub place_on : Id → ℕ → Position
place_on top depth = record { top = top; depth = depth }

-- where a class stands: first on a path of its own, where nothing is noted of it
abbrev pub position_in : List (Id × Position) → Id → Position
position_in positions class =
    option_map_or (λ (position : Position). position) (get (from_entries {R = id_cmp} positions) class) (place_on class 0)

-- The class extends one that stands at this place.
pub record Extends (program : Program) (positions : List (Id × Position)) (class : Id) (place : Position) : Type 0 where
  pub above : Id
  pub up : upward program (Some class) ≡ Some above
  pub stands : position_in positions above ≡ place

-- Each class stands on one path, at a place that no other class has. The first gives the path its name, and each further one extends the
-- class before it.
pub record ArePaths (program : Program) (positions : List (Id × Position)) : Type 0 where
  pub first : (class top : Id) → position_in positions class ≡ place_on top 0 → class ≡ top
  pub further : (class top : Id) (depth : ℕ) → position_in positions class ≡ place_on top (suc depth)
      → Extends program positions class (place_on top depth)
  pub apart : (first second : Id) → position_in positions first ≡ position_in positions second → first ≡ second

-- ---- classes that are added to paths

-- the place of the last class of a path, by the first
abbrev pub last_in : List (Id × ℕ) → Id → ℕ
last_in lasts top = option_map_or (λ (depth : ℕ). depth) (get (from_entries {R = id_cmp} lasts) top) 0

-- They are paths, and no class stands further on a path than its last one.
pub record AreDrawn (program : Program) (positions : List (Id × Position)) (lasts : List (Id × ℕ)) : Type 0 where
  pub paths : ArePaths program positions
  pub within : (class top : Id) (depth : ℕ) → position_in positions class ≡ place_on top depth → depth ≤ last_in lasts top

-- The class is not noted, no class stands on its path behind it, and the position is the last one of another path.
pub record CanFollow (positions : List (Id × Position)) (lasts : List (Id × ℕ)) (class : Id) (position : Position) : Type 0 where
  pub alone : (position_in positions class).depth ≡ 0
  pub free : last_in lasts class ≡ 0
  pub elsewhere : position.top ≢ class
  pub last : last_in lasts position.top ≡ position.depth

-- The class may stand at this place, behind its superclass.
pub record IsNext (positions : List (Id × Position)) (lasts : List (Id × ℕ)) (class above : Id) (place : Position) : Type 0 where
  pub can : CanFollow positions lasts class (position_in positions above)
  pub is : place ≡ place_on ((position_in positions above).top) (suc ((position_in positions above).depth))

-- A class stands at this place now, which is the last of its path.
pub record Follows (positions : List (Id × Position)) (lasts : List (Id × ℕ)) (class : Id) (place : Position)
    (new_positions : List (Id × Position)) (new_lasts : List (Id × ℕ)) : Type 0 where
  pub placed : (id : Id) → position_in new_positions id ≡ cond (same_id id class) place (position_in positions id)
  pub ends : (id : Id) → last_in new_lasts id ≡ cond (same_id id place.top) place.depth (last_in lasts id)
