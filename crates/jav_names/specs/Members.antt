-- What the name of a field, and the name and the number of arguments of a method or a constructor, read as in a class
-- (JLS 8.2, 8.3, 8.4.8, 8.8, 15.9.3, 15.12.2).
use Rattle.std.specs.Prelude.{◌≡◌, ◌≢◌, ℕ, ◌==◌, Bool, ◌&&◌, IsTrue, List, [], ◌∷◌, ◌++◌, All, Contains, codes}
use Prim.Native.String.{String}
use Rattle.std.specs.List.{list_any}
use Rattle.std.specs.Str.{bytes_eq}
use Rattle.jav_names.specs.Ancestors.{Extends, ExtendsOutside, HasNothingAbove, Way, EndsOutside}
use Rattle.jav_names.specs.Choices.{IsLeast, HoldsOfNone}
use Rattle.jav_names.specs.DottedNames.{Name}
use Rattle.jav_names.specs.Views.{ViewField, constructor, ViewDeclaration, View, Found, found, outside, not_found}

-- ---- the nearest owner

-- P holds of the member x, and its owner is the nearest: the way from the class up meets no owner of another such member before it.
-- Of several such members in one class it is the one of least key.
pub record IsNearest {X C M : Type 0} (view : View C M) (owner : X → C) (key : X → M) (P : X → Type 0) (all : List X) (class : C) (x : X)
    : Type 0 where
  pub nearer : List C
  pub farther : List C
  pub way : Way view class (nearer ++ owner x ∷ farther)
  pub none_nearer : All (λ y. P y → ¬ Contains nearer (owner y)) all
  pub least : IsLeast view.member_cmp key (λ y. P y × (owner y ≡ owner x)) all x

-- Neither the class nor an ancestor has a member of which P holds.
pub record HasNone {X C M : Type 0} (view : View C M) (owner : X → C) (P : X → Type 0) (all : List X) (class : C) : Type 0 where
  pub classes : List C
  pub way : Way view class classes
  pub none : All (λ y. P y → ¬ Contains classes (owner y)) all

-- ---- fields

abbrev pub IsNearestField : {C M : Type 0} → View C M → C → Name → ViewField C M → Type 0
IsNearestField view class name = IsNearest view (λ field. field.owner) (λ field. field.key) (λ field. field.name ≡ name) view.fields class

abbrev pub HasNoField : {C M : Type 0} → View C M → C → Name → Type 0
HasNoField view class name = HasNone view (λ field. field.owner) (λ field. field.name ≡ name) view.fields class

-- A field of a class, by its name (JLS 8.2, 8.3, 15.11.1): the one with the nearest owner, from the class up. Where there is none it
-- is outside if the ancestors end in an outside class.
pub data ReadsField {C M : Type 0} (view : View C M) (class : C) (name : Name) : Found (ViewField C M) → Type 0 where
  nearest : {field : ViewField C M} → IsNearestField view class name field → ReadsField view class name (found field)
  in_outside_class : HasNoField view class name → EndsOutside view class → ReadsField view class name outside
  not_there : HasNoField view class name → ¬ EndsOutside view class → ReadsField view class name not_found

-- ---- methods

-- The methods of `java.lang.Object` (JLS 4.3.2), each with the number of its parameters.
abbrev pub object_methods : List (String × ℕ)
object_methods = ("clone", 0) ∷ ("equals", 1) ∷ ("finalize", 0) ∷ ("getClass", 0) ∷ ("hashCode", 0) ∷ ("notify", 0) ∷ ("notifyAll", 0)
    ∷ ("toString", 0) ∷ ("wait", 0) ∷ ("wait", 1) ∷ ("wait", 2) ∷ []

abbrev pub is_object_method : Name → ℕ → Bool
is_object_method name arity = list_any (λ (method : String × ℕ). bytes_eq name (codes method.0) && arity == method.1) object_methods

-- A declaration of a method with this name and this number of parameters.
pub record IsMethod {C M : Type 0} (name : Name) (arity : ℕ) (declaration : ViewDeclaration C M) : Type 0 where
  pub is_method : declaration.kind ≢ constructor
  pub named : declaration.name ≡ name
  pub takes : declaration.arity ≡ arity

abbrev pub IsNearestMethod : {C M : Type 0} → View C M → C → Name → ℕ → ViewDeclaration C M → Type 0
IsNearestMethod view class name arity =
    IsNearest view (λ declared. declared.owner) (λ declared. declared.key) (IsMethod name arity) view.declarations class

abbrev pub HasNoMethod : {C M : Type 0} → View C M → C → Name → ℕ → Type 0
HasNoMethod view class name arity = HasNone view (λ declared. declared.owner) (IsMethod name arity) view.declarations class

-- A method of a class, by its name and the number of arguments (JLS 8.4.8, 15.12.2): the declaration with the nearest owner, from the
-- class up. Where there is none it is outside if the ancestors end in an outside class, or if `Object` has such a method.
pub data ReadsMethod {C M : Type 0} (view : View C M) (class : C) (name : Name) (arity : ℕ) : Found (ViewDeclaration C M) → Type 0 where
  nearest : {declaration : ViewDeclaration C M} → IsNearestMethod view class name arity declaration
      → ReadsMethod view class name arity (found declaration)
  in_outside_class : HasNoMethod view class name arity → EndsOutside view class → ReadsMethod view class name arity outside
  of_object : HasNoMethod view class name arity → IsTrue (is_object_method name arity) → ReadsMethod view class name arity outside
  not_there : HasNoMethod view class name arity → ¬ EndsOutside view class → ¬ IsTrue (is_object_method name arity)
      → ReadsMethod view class name arity not_found

-- A method after `super.` (JLS 15.12.1, 15.12.3): read from the superclass up. Where that is outside, so is the method; where there is
-- none, it is outside if `Object` has such a method.
pub data ReadsSuperMethod {C M : Type 0} (view : View C M) (class : C) (name : Name) (arity : ℕ)
    : Found (ViewDeclaration C M) → Type 0 where
  from_above : {above : C} {reading : Found (ViewDeclaration C M)} → Extends view class above → ReadsMethod view above name arity reading
      → ReadsSuperMethod view class name arity reading
  in_outside_class : ExtendsOutside view class → ReadsSuperMethod view class name arity outside
  of_object : HasNothingAbove view class → IsTrue (is_object_method name arity) → ReadsSuperMethod view class name arity outside
  not_there : HasNothingAbove view class → ¬ IsTrue (is_object_method name arity) → ReadsSuperMethod view class name arity not_found

-- ---- constructors

pub record IsConstructor {C M : Type 0} (class : C) (declaration : ViewDeclaration C M) : Type 0 where
  pub of_class : declaration.owner ≡ class
  pub is_constructor : declaration.kind ≡ constructor

pub record IsConstructorOf {C M : Type 0} (class : C) (arity : ℕ) (declaration : ViewDeclaration C M) : Type 0 where
  pub declares : IsConstructor class declaration
  pub takes : declaration.arity ≡ arity

-- A class that declares no constructor has the default one, which takes nothing (JLS 8.8.9).
pub record IsByDefault {C M : Type 0} (view : View C M) (class : C) (arity : ℕ) : Type 0 where
  pub none_declared : HoldsOfNone (IsConstructor class) view.declarations
  pub takes_none : arity ≡ 0

-- A constructor: one that a class declares, or the default one of a class.
pub data Constructor (C M : Type 0) : Type 0 where
  declared_constructor : ViewDeclaration C M → Constructor C M
  default_constructor : C → Constructor C M

-- A constructor of a class, by the number of arguments (JLS 15.9.3): one that the class declares, or its default one.
pub data ReadsConstructor {C M : Type 0} (view : View C M) (class : C) (arity : ℕ) : Found (Constructor C M) → Type 0 where
  declared : {declaration : ViewDeclaration C M}
      → IsLeast view.member_cmp (λ candidate. candidate.key) (IsConstructorOf class arity) view.declarations declaration
      → ReadsConstructor view class arity (found (declared_constructor declaration))
  by_default : IsByDefault view class arity → ReadsConstructor view class arity (found (default_constructor class))
  not_there : HoldsOfNone (IsConstructorOf class arity) view.declarations → ¬ IsByDefault view class arity
      → ReadsConstructor view class arity not_found

-- `super(..)` in a constructor of the class (JLS 8.8.7.1): a constructor of the superclass. Where that is outside, so is the
-- constructor; where there is none, there is none.
pub data ReadsSuperConstructor {C M : Type 0} (view : View C M) (class : C) (arity : ℕ) : Found (Constructor C M) → Type 0 where
  from_above : {above : C} {reading : Found (Constructor C M)} → Extends view class above → ReadsConstructor view above arity reading
      → ReadsSuperConstructor view class arity reading
  in_outside_class : ExtendsOutside view class → ReadsSuperConstructor view class arity outside
  not_there : HasNothingAbove view class → ReadsSuperConstructor view class arity not_found
