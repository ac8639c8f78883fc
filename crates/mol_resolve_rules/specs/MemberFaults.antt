-- Faults between two members. They are said of rows, which have what members are compared by, so that source files and programs share them.
use Rattle.std.specs.Prelude.{◌≡◌, ◌⊎◌, ℕ, ◌<◌, Bool, false, IsTrue, List, [], map, length}
use Rattle.std.specs.List.{AllZip}
use Rattle.mol_base.specs.Modifiers.{has}
use Rattle.jav_tree.specs.declared.types.TypeName.{TypeName}
use Rattle.jav_tree.specs.declared.unit.Member.{Member}
use Rattle.jav_tree.specs.declared.unit.Member.TheVariants as member
use Rattle.jav_tree.specs.declared.unit.Param.{Param}
use Rattle.jav_names.specs.Ancestors.{IsAncestor}
use Rattle.jav_names.specs.DottedNames.{Name}
use Rattle.jav_names.specs.StaticTypes.{SameType}
use Rattle.jav_names.specs.Views.{ViewType, void_type, View}
use Rattle.mol_resolve_rules.specs.FaultKinds.{FaultKind, duplicate_member, overload_by_type, result_differs, static_hidden}

-- ---- rows

pub data MemberKind : Type 0 where
  a_field : MemberKind
  a_method : MemberKind
  a_constructor : MemberKind

-- A member of a class: its place among the members of that class, where it begins in its file, in bytes, and its header. A constructor
-- has no name; the type of a declaration is its result.
pub record Row (C : Type 0) : Type 0 where
  pub owner : C
  pub place : ℕ
  pub at : ℕ
  pub kind : MemberKind
  pub name : Name
  pub is_static : Bool
  pub params : List (ViewType C)
  pub type : ViewType C

-- The row of a member with its place, in this class, where the types of its file are seen so.
abbrev pub row_of : {C : Type 0} → (TypeName → ViewType C) → C → ℕ × Member → Row C
row_of see class (place, member.Field field) = record {
  owner = class;
  place = place;
  at = field.at;
  kind = a_field;
  name = field.name;
  is_static = has field.words "static";
  params = [];
  type = see field.ty;
}
row_of see class (place, member.Method method) = record {
  owner = class;
  place = place;
  at = method.at;
  kind = a_method;
  name = method.name;
  is_static = method.is_static;
  params = map (λ (param : Param). see param.ty) method.params;
  type = see method.result;
}
row_of see class (place, member.Ctor constructor) = record {
  owner = class;
  place = place;
  at = constructor.at;
  kind = a_constructor;
  name = [];
  is_static = false;
  params = map (λ (param : Param). see param.ty) constructor.params;
  type = void_type;
}

-- As many types, each equal to that in its place. A type whose name reads as nothing equals none.
abbrev pub HaveEqualTypes : {C : Type 0} → List (ViewType C) → List (ViewType C) → Type 0
HaveEqualTypes = AllZip SameType

-- ---- two members

-- both in one class, the second after the first
pub record AreInOrder {C : Type 0} (first second : Row C) : Type 0 where
  pub one_class : first.owner ≡ second.owner
  pub ordered : first.place < second.place

-- both of this kind and of one name; constructors have no name
pub record AreAlike {C : Type 0} (kind : MemberKind) (first second : Row C) : Type 0 where
  pub first_is : first.kind ≡ kind
  pub second_is : second.kind ≡ kind
  pub named : first.name ≡ second.name

-- as many parameters, and other types
pub record DifferInTypes {C : Type 0} (first second : Row C) : Type 0 where
  pub as_many : length first.params ≡ length second.params
  pub differ : ¬ HaveEqualTypes first.params second.params

-- Methods of one name that take as many. The second stands after the first in one class, or its class has that of the first above it.
pub record AreRelated {C M : Type 0} (view : View C M) (first second : Row C) : Type 0 where
  pub alike : AreAlike a_method first second
  pub as_many : length first.params ≡ length second.params
  pub placed : AreInOrder first second ⊎ IsAncestor view second.owner first.owner

-- ---- what is wrong

-- A class may not have two fields of one name (JLS 8.3), nor two methods of one name or two constructors that take equal types
-- (JLS 8.4.2, 8.8.2).
pub data AreDuplicates {C : Type 0} (first second : Row C) : Type 0 where
  fields : AreInOrder first second → AreAlike a_field first second → AreDuplicates first second
  methods : AreInOrder first second → AreAlike a_method first second → HaveEqualTypes first.params second.params
      → AreDuplicates first second
  constructors : AreInOrder first second → AreAlike a_constructor first second → HaveEqualTypes first.params second.params
      → AreDuplicates first second

-- Related methods may not take other types, nor may two constructors of one class that take as many: which of them a call means is found
-- by the number of arguments alone. In Java they may.
pub data AreOverloads {C M : Type 0} (view : View C M) (first second : Row C) : Type 0 where
  methods : AreRelated view first second → DifferInTypes first second → AreOverloads view first second
  constructors : AreInOrder first second → AreAlike a_constructor first second → DifferInTypes first second
      → AreOverloads view first second

-- Related methods have one result (JLS 8.4.8.3).
pub record DifferInResult {C M : Type 0} (view : View C M) (first second : Row C) : Type 0 where
  pub related : AreRelated view first second
  pub differ : ¬ SameType first.type second.type

-- Of related methods of a class and an ancestor none is static (JLS 8.4.8.1, 8.4.8.2). In Java both may be.
pub record HidesStatic {C M : Type 0} (view : View C M) (first second : Row C) : Type 0 where
  pub related : AreRelated view first second
  pub above : IsAncestor view second.owner first.owner
  pub static : IsTrue first.is_static ⊎ IsTrue second.is_static

-- A fault between two members, whose place is that of the second.
pub data IsBetween {C M : Type 0} (view : View C M) : FaultKind → (first second : Row C) → Type 0 where
  by_duplicate : {first second : Row C} → AreDuplicates first second → IsBetween view duplicate_member first second
  by_types : {first second : Row C} → AreOverloads view first second → IsBetween view overload_by_type first second
  by_result : {first second : Row C} → DifferInResult view first second → IsBetween view result_differs first second
  by_static : {first second : Row C} → HidesStatic view first second → IsBetween view static_hidden first second
