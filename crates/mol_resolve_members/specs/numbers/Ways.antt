-- Declarations of methods along the classes on a way.
use Rattle.std.specs.Prelude.{◌≡◌, ℕ, ◌==◌, List, [], ◌∷◌, reverse, Option, Some, None, if◌then◌else◌}
use Rattle.jav_names.specs.DottedNames.{Name}
use Rattle.jav_names.specs.LookUps.{is_method, nearest, way}
use Rattle.jav_names.specs.UnitViews.{MemberKey}
use Rattle.jav_names.specs.Views.{ViewDeclaration, View}

-- The way up from a class.
pub record IsWay (view : View ℕ MemberKey) (classes : List ℕ) : Type 0 where
  pub class : ℕ
  pub is : classes ≡ way view class

-- the method that is nearest from a class up
abbrev pub nearest_from : View ℕ MemberKey → Name → ℕ → ℕ → Option (ViewDeclaration ℕ MemberKey)
nearest_from view name arity class =
    nearest view (λ (declared : ViewDeclaration ℕ MemberKey). declared.owner) (is_method name arity) view.declarations (way view class)

-- of these classes in turn, the last that has such a method, and there the first one
abbrev pub last_along : View ℕ MemberKey → Name → ℕ → List ℕ → Option (ViewDeclaration ℕ MemberKey)
last_along view name arity classes =
    nearest view (λ (declared : ViewDeclaration ℕ MemberKey). declared.owner) (is_method name arity) view.declarations (reverse classes)

-- what comes after a class
abbrev pub rest_after : ℕ → List ℕ → Option (List ℕ)
rest_after class [] = None
rest_after class (first ∷ rest) = if first == class then Some rest else rest_after class rest
