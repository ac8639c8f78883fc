-- Members of a value, by its static type, and members of a class through its name (JLS 6.5.6.2, 10.7, 15.11.1, 15.12.1).
use Rattle.std.specs.Prelude.{◌≡◌, ℕ, Bool, true, false, Option, Some, None, codes}
use Rattle.std.specs.Str.{bytes_eq}
use Rattle.jav_names.specs.DottedNames.{Name}
use Rattle.jav_names.specs.Members.{ReadsField, ReadsMethod, is_object_method}
use Rattle.jav_names.specs.Views.{ViewType, ViewField, DeclarationKind, instance_method, static_method, constructor, ViewDeclaration, View, Found, found, outside, not_found}

-- The static type of a value, as far as names ask for it: an array's has the type of its items. What is none of the others is mixed,
-- as the choice between two values that have no type in common; unread is a value whose type's name reads as nothing.
pub data StaticType (C : Type 0) : Type 0 where
  primitive_value : StaticType C
  null_value : StaticType C
  void_value : StaticType C
  mixed_value : StaticType C
  outside_value : StaticType C
  class_value : C → StaticType C
  array_value : ViewType C → StaticType C
  unread_value : StaticType C

-- What a name after a value and a dot comes to: a member of an instance; a static one, which may not be reached so; an outside one;
-- none; one of a value that has no members; one of a value whose type is not known since its name reads as nothing.
pub data OnValue (X : Type 0) : Type 0 where
  member : X → OnValue X
  static_member : X → OnValue X
  outside_member : OnValue X
  missing_member : OnValue X
  has_no_members : OnValue X
  unread_member : OnValue X

-- what is found in a class, on a value of it
pub data OnInstance {X : Type 0} (is_static : X → Bool) : Found X → OnValue X → Type 0 where
  on_instance : {x : X} → is_static x ≡ false → OnInstance is_static (found x) (member x)
  on_static : {x : X} → is_static x ≡ true → OnInstance is_static (found x) (static_member x)
  in_outside_class : OnInstance is_static outside outside_member
  not_there : OnInstance is_static not_found missing_member

-- A member of a value, where `Reads` says what a class has, and `arrays_have` whether arrays have it.
pub data ReadsOn {C X : Type 0} (Reads : C → Found X → Type 0) (is_static : X → Bool) (arrays_have : Bool)
    : StaticType C → OnValue X → Type 0 where
  of_class : {class : C} {reading : Found X} {answer : OnValue X} → Reads class reading → OnInstance is_static reading answer
      → ReadsOn Reads is_static arrays_have (class_value class) answer
  of_outside : ReadsOn Reads is_static arrays_have outside_value outside_member
  has_array : {item : ViewType C} → arrays_have ≡ true → ReadsOn Reads is_static arrays_have (array_value item) outside_member
  has_no_array : {item : ViewType C} → arrays_have ≡ false → ReadsOn Reads is_static arrays_have (array_value item) missing_member
  of_primitive : ReadsOn Reads is_static arrays_have primitive_value has_no_members
  of_null : ReadsOn Reads is_static arrays_have null_value has_no_members
  of_void : ReadsOn Reads is_static arrays_have void_value has_no_members
  of_mixed : ReadsOn Reads is_static arrays_have mixed_value has_no_members
  of_unread : ReadsOn Reads is_static arrays_have unread_value unread_member

-- a method that is no instance method; constructors are no methods
abbrev pub is_static_kind : DeclarationKind → Bool
is_static_kind instance_method = false
is_static_kind static_method = true
is_static_kind constructor = false

-- A field of a value: `length` of an array (JLS 10.7) is outside.
abbrev pub ReadsFieldOn : {C M : Type 0} → View C M → Name → StaticType C → OnValue (ViewField C M) → Type 0
ReadsFieldOn view name = ReadsOn (λ class. ReadsField view class name) (λ field. field.is_static) (bytes_eq name (codes "length"))

-- A method of a value: arrays have the methods of `Object` (JLS 10.7), which are outside.
abbrev pub ReadsMethodOn : {C M : Type 0} → View C M → Name → ℕ → StaticType C → OnValue (ViewDeclaration C M) → Type 0
ReadsMethodOn view name arity =
    ReadsOn (λ class. ReadsMethod view class name arity) (λ declared. is_static_kind declared.kind) (is_object_method name arity)

-- Through a class name a static member is found, and nothing else.
pub data Through {X : Type 0} (Reads : Found X → Type 0) (is_static : X → Bool) : Option X → Type 0 where
  static_found : {x : X} → Reads (found x) → is_static x ≡ true → Through Reads is_static (Some x)
  none_static : ((x : X) → Reads (found x) → is_static x ≡ false) → Through Reads is_static None

abbrev pub ReadsStaticField : {C M : Type 0} → View C M → C → Name → Option (ViewField C M) → Type 0
ReadsStaticField view class name = Through (ReadsField view class name) (λ field. field.is_static)

abbrev pub ReadsStaticMethod : {C M : Type 0} → View C M → C → Name → ℕ → Option (ViewDeclaration C M) → Type 0
ReadsStaticMethod view class name arity = Through (ReadsMethod view class name arity) (λ declared. is_static_kind declared.kind)

-- What an index after a value comes to: an item, where the name `[]` of the brackets is outside; an error of a value that has no items;
-- nothing that may be said of a value whose type's name reads as nothing.
pub data OnIndex : Type 0 where
  indexed : OnIndex
  not_indexed : OnIndex
  unread_index : OnIndex

-- An array has items (JLS 10.4, 15.10.3), and so may what is outside.
pub data ReadsIndexOn {C : Type 0} : StaticType C → OnIndex → Type 0 where
  of_array : {item : ViewType C} → ReadsIndexOn (array_value item) indexed
  of_outside : ReadsIndexOn outside_value indexed
  of_class : {class : C} → ReadsIndexOn (class_value class) not_indexed
  of_primitive : ReadsIndexOn primitive_value not_indexed
  of_null : ReadsIndexOn null_value not_indexed
  of_void : ReadsIndexOn void_value not_indexed
  of_mixed : ReadsIndexOn mixed_value not_indexed
  of_unread : ReadsIndexOn unread_value unread_index
