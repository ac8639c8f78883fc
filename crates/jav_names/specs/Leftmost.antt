-- What the first of several names with dots between them reads as, before a member (JLS 6.5.2, 6.5.4).
use Rattle.std.specs.Prelude.{ℕ, suc, ◌<◌, [], take}
use Rattle.jav_names.specs.DottedNames.{Name, Names, joined}
use Rattle.jav_names.specs.Types.{class_read, imported, written, IsClassNamed, NoClassNamed, ReadsSimple}
use Rattle.jav_names.specs.Variables.{Place, Variable, ReadsVariable}
use Rattle.jav_names.specs.Views.{ViewClass, Classes, View, found}

-- The first name is a variable; or the names begin with so many that spell a class; or the first name is that of an import of an
-- outside type, whose full name this is; or it is outside as it is written.
pub data Leftmost (C M : Type 0) : Type 0 where
  leftmost_variable : Variable C M → Leftmost C M
  leftmost_class : C → ℕ → Leftmost C M
  leftmost_import : Name → Leftmost C M
  leftmost_outside : Leftmost C M

-- Neither a local nor a parameter nor a field of the view has this name. An inherited field of an outside class is no variable here.
abbrev pub IsNoVariable : {C M : Type 0} → View C M → Place C → Name → Type 0
IsNoVariable {C} {M} view place name = (variable : Variable C M) → ¬ ReadsVariable view place name (found variable)

-- A name and as few as can be of those that follow it are the full name of this class: `further` of those that follow.
pub record IsFewest {C : Type 0} (classes : Classes C) (first : Name) (rest : Names) (further : ℕ) (class : ViewClass C) : Type 0 where
  pub here : IsClassNamed classes (joined first (take further rest)) class
  pub none_fewer : (count : ℕ) → count < further → NoClassNamed classes (joined first (take count rest))

-- The first name is, in this order, a variable, a type of the view or an import, the beginning of a class's full name; else it is
-- outside.
pub data ReadsLeftmost {C M : Type 0} (view : View C M) (place : Place C) (first : Name) (rest : Names) : Leftmost C M → Type 0 where
  by_variable : {variable : Variable C M} → ReadsVariable view place first (found variable)
      → ReadsLeftmost view place first rest (leftmost_variable variable)
  by_class : {class : C} → IsNoVariable view place first → ReadsSimple view.classes place.header first (class_read class)
      → ReadsLeftmost view place first rest (leftmost_class class 1)
  by_import : {import : Name} → IsNoVariable view place first → ReadsSimple view.classes place.header first (imported import [])
      → ReadsLeftmost view place first rest (leftmost_import import)
  by_full_name : {further : ℕ} {class : ViewClass C} → IsNoVariable view place first
      → ReadsSimple view.classes place.header first (written first)
      → IsFewest view.classes first rest further class → ReadsLeftmost view place first rest (leftmost_class class.key (suc further))
  as_written : IsNoVariable view place first → ReadsSimple view.classes place.header first (written first)
      → ((count : ℕ) → NoClassNamed view.classes (joined first (take count rest))) → ReadsLeftmost view place first rest leftmost_outside
