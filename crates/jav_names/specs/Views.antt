-- What the rules on names look at, in a program as in source files: classes, fields, and declarations of methods and
-- constructors. C is the type of keys of classes and M that of keys of members: identities in a program, numbers in source files.
use Rattle.std.specs.Prelude.{ℕ, Bool, List, Option}
use Rattle.std.specs.Cmp.{IsTotalOrder}
use Rattle.std.specs.FinMap.{IsAntisymmetric}
use Rattle.std.specs.List.Sorted.{IsStrictlySortedBy}
use Rattle.std.specs.Ordering.{on}
use Rattle.std.specs.declared.cmp.Ordering.{Ordering}
use Rattle.jav_names.specs.DottedNames.{Name}

-- A type as it is read. An outside type is its text: of an imported one its full name and what follows that name, else the text as
-- written. A type is unread where its name reads as nothing.
pub data ViewType (C : Type 0) : Type 0 where
  primitive_type : Name → ViewType C
  void_type : ViewType C
  class_type : C → ViewType C
  outside_type : Name → ViewType C
  array_type : ViewType C → ViewType C
  unread_type : ViewType C

pub record ViewClass (C : Type 0) : Type 0 where
  pub key : C
  pub «package» : Name
  pub name : Name

pub record ViewField (C M : Type 0) : Type 0 where
  pub key : M
  pub owner : C
  pub name : Name
  pub is_static : Bool
  pub type : ViewType C

pub data DeclarationKind : Type 0 where
  instance_method : DeclarationKind
  static_method : DeclarationKind
  constructor : DeclarationKind

-- A declaration of a method or a constructor. A constructor has no name, and its result is void.
pub record ViewDeclaration (C M : Type 0) : Type 0 where
  pub key : M
  pub owner : C
  pub name : Name
  pub arity : ℕ
  pub kind : DeclarationKind
  pub result : ViewType C

-- The classes that there are, and the order of their keys.
pub record Classes (C : Type 0) : Type 0 where
  pub cmp : C → C → Ordering
  pub items : List (ViewClass C)

-- In a program these are what lives. What a class extends is known by its key alone, also of a class that does not live.
pub record View (C M : Type 0) : Type 0 where
  pub classes : Classes C
  pub member_cmp : M → M → Ordering
  pub fields : List (ViewField C M)
  pub declarations : List (ViewDeclaration C M)
  pub superclass : C → Option (ViewType C)

-- Keys are in a total order, and two that tie are one.
pub record IsKeyOrder {K : Type 0} (cmp : K → K → Ordering) : Type 0 where
  pub total : IsTotalOrder cmp
  pub same : IsAntisymmetric cmp

-- The classes ascend by their keys, so that no two have one key.
pub record AreOrdered {C : Type 0} (classes : Classes C) : Type 0 where
  pub order : IsKeyOrder classes.cmp
  pub ascending : IsStrictlySortedBy (on (λ class. class.key) classes.cmp) classes.items

-- So do the fields and the declarations.
pub record IsOrdered {C M : Type 0} (view : View C M) : Type 0 where
  pub classes : AreOrdered view.classes
  pub order : IsKeyOrder view.member_cmp
  pub fields : IsStrictlySortedBy (on (λ field. field.key) view.member_cmp) view.fields
  pub declarations : IsStrictlySortedBy (on (λ declaration. declaration.key) view.member_cmp) view.declarations

-- What a look-up comes to: what was found, something outside of the classes of the view, or nothing.
pub data Found (A : Type 0) : Type 0 where
  found : A → Found A
  outside : Found A
  not_found : Found A
