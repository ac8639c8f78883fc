-- The classes above a class (JLS 8.1.4).
use Rattle.std.specs.Prelude.{◌≡◌, List, [], ◌∷◌, ◌++◌, Some, Contains}
use Rattle.jav_names.specs.DottedNames.{Name}
use Rattle.jav_names.specs.Views.{ViewClass, class_type, outside_type, Classes, View}

-- A class of the view has this key.
pub record HasClass {C : Type 0} (classes : Classes C) (key : C) : Type 0 where
  pub class : ViewClass C
  pub stands : Contains classes.items class
  pub is : class.key ≡ key

-- The second is the superclass of the first, and a class of the view.
pub record Extends {C M : Type 0} (view : View C M) (class above : C) : Type 0 where
  pub named : view.superclass class ≡ Some (class_type above)
  pub stands : HasClass view.classes above

-- The superclass is an outside class.
pub record ExtendsOutside {C M : Type 0} (view : View C M) (class : C) : Type 0 where
  pub name : Name
  pub named : view.superclass class ≡ Some (outside_type name)

-- Nothing above the class can be looked into: it extends nothing, or what is neither a class of the view nor outside.
pub record HasNothingAbove {C M : Type 0} (view : View C M) (class : C) : Type 0 where
  pub none : (above : C) → ¬ Extends view class above
  pub not_outside : ¬ ExtendsOutside view class

-- Following superclasses from a class on, where some were met before it: each class in turn, up to one whose superclass is none of
-- the view or was met already.
pub data Follows {C M : Type 0} (view : View C M) : List C → C → List C → Type 0 where
  up : {met way : List C} {class above : C} → Extends view class above → ¬ Contains (class ∷ met) above
      → Follows view (class ∷ met) above way → Follows view met class (class ∷ way)
  end : {met : List C} {class : C} → ((above : C) → Extends view class above → Contains (class ∷ met) above)
      → Follows view met class (class ∷ [])

-- A class and then its ancestors, the nearest first.
abbrev pub Way : {C M : Type 0} → View C M → C → List C → Type 0
Way view = Follows view []

-- The last of the ancestors extends an outside class, or the class itself does where it has no ancestor.
pub record EndsOutside {C M : Type 0} (view : View C M) (class : C) : Type 0 where
  pub below : List C
  pub last : C
  pub way : Way view class (below ++ last ∷ [])
  pub extends : ExtendsOutside view last

-- The second is an ancestor of the first: the way from the first up meets it, after the first. In a circle of superclasses no class is
-- its own ancestor.
pub record IsAncestor {C M : Type 0} (view : View C M) (class above : C) : Type 0 where
  pub ancestors : List C
  pub way : Way view class (class ∷ ancestors)
  pub met : Contains ancestors above

-- Going up from the first, in one step or more, comes to the second. That is said apart from the way, which ends before a class that it
-- has met: where superclasses run in a circle, going up leads from a class to itself, and its way does not show it.
pub data Leads {C M : Type 0} (view : View C M) : C → C → Type 0 where
  last_step : {class above : C} → Extends view class above → Leads view class above
  step : {class above top : C} → Extends view class above → Leads view above top → Leads view class top

-- Going up from no class leads back to it.
abbrev pub HasNoCircle : {C M : Type 0} → View C M → Type 0
HasNoCircle {C} view = (class : C) → ¬ Leads view class class
