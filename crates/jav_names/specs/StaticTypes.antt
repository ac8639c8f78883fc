-- The static types of values, as far as names ask for them: those of types, literals, items of arrays, choices and members outside.
use Rattle.std.specs.Prelude.{◌≡◌, ◌≢◌, ◌⊎◌, ℕ, ◌==◌, Bool, true, false, ◌&&◌, ◌||◌, IsTrue, [], ◌∷◌, codes, if◌then◌else◌}
use Rattle.std.specs.Ordering.{is_eq}
use Rattle.std.specs.Str.{bytes_eq}
use Rattle.std.specs.declared.cmp.Ordering.{Ordering}
use Rattle.jav_names.specs.Ancestors.{IsAncestor}
use Rattle.jav_names.specs.DottedNames.{Name}
use Rattle.jav_names.specs.LookUps.{is_ancestor}
use Rattle.jav_names.specs.OnValues.{StaticType, primitive_value, null_value, void_value, mixed_value, outside_value, class_value, array_value, unread_value}
use Rattle.jav_names.specs.Views.{ViewType, primitive_type, void_type, class_type, outside_type, array_type, unread_type, View}

-- ---- values of a type, and literals

-- A value of this type: a variable, a call or a cast (JLS 6.5.6, 15.11.1, 15.12.3, 15.16). Which primitive type or which outside type it
-- is, no rule asks.
abbrev pub of_type : {C : Type 0} → ViewType C → StaticType C
of_type (primitive_type name) = primitive_value
of_type void_type = void_value
of_type (class_type class) = class_value class
of_type (outside_type text) = outside_value
of_type (array_type item) = array_value item
of_type unread_type = unread_value

-- the byte `"`
abbrev pub quote : ℕ
quote = 34

abbrev pub opens_string : Name → Bool
opens_string [] = false
opens_string (byte ∷ rest) = byte == quote

-- A literal (JLS 15.8.1): `null` is null, a string is of an outside type, and a number, a character and a truth value are primitive.
abbrev pub of_literal : {C : Type 0} → Name → StaticType C
of_literal text = if bytes_eq text (codes "null") then null_value else if opens_string text then outside_value else primitive_value

-- ---- equal types

-- Two types are equal where both are the same primitive type, both `void`, both the same class, both outside with the same text, or
-- both arrays whose items have equal types (JLS 4.3.4, 10.1). A type whose name reads as nothing equals no type, not even itself:
-- nothing is known of it.
pub data SameType {C : Type 0} : ViewType C → ViewType C → Type 0 where
  same_primitive : {name : Name} → SameType (primitive_type name) (primitive_type name)
  same_void : SameType void_type void_type
  same_class : {class : C} → SameType (class_type class) (class_type class)
  same_outside : {text : Name} → SameType (outside_type text) (outside_type text)
  same_array : {first second : ViewType C} → SameType first second → SameType (array_type first) (array_type second)

abbrev pub same_type : {C : Type 0} → (C → C → Ordering) → ViewType C → ViewType C → Bool
same_type cmp (primitive_type first) (primitive_type second) = bytes_eq first second
same_type cmp void_type void_type = true
same_type cmp (class_type first) (class_type second) = is_eq (cmp first second)
same_type cmp (outside_type first) (outside_type second) = bytes_eq first second
same_type cmp (array_type first) (array_type second) = same_type cmp first second
same_type cmp first second = false

-- Two static types are equal: both primitive, both null, both `void`, both mixed, both outside, one class, or arrays of equal types. What
-- is unread equals nothing, and neither do arrays of a type whose name reads as nothing.
pub data SameValue {C : Type 0} : StaticType C → StaticType C → Type 0 where
  same_primitives : SameValue primitive_value primitive_value
  same_nulls : SameValue null_value null_value
  same_voids : SameValue void_value void_value
  same_mixed : SameValue mixed_value mixed_value
  same_outsides : SameValue outside_value outside_value
  same_classes : {class : C} → SameValue (class_value class) (class_value class)
  same_arrays : {first second : ViewType C} → SameType first second → SameValue (array_value first) (array_value second)

abbrev pub same_value : {C : Type 0} → (C → C → Ordering) → StaticType C → StaticType C → Bool
same_value cmp primitive_value primitive_value = true
same_value cmp null_value null_value = true
same_value cmp void_value void_value = true
same_value cmp mixed_value mixed_value = true
same_value cmp outside_value outside_value = true
same_value cmp (class_value first) (class_value second) = is_eq (cmp first second)
same_value cmp (array_value first) (array_value second) = same_type cmp first second
same_value cmp first second = false

-- ---- what is not known

-- Nothing is known of a type whose name reads as nothing, nor of the items of an array of such a type.
abbrev pub is_unread : {C : Type 0} → ViewType C → Bool
is_unread unread_type = true
is_unread (array_type item) = is_unread item
is_unread type = false

-- Nothing is known of what two values have in common: one of them is unread, or both are arrays and the items of one are.
abbrev pub are_unread : {C : Type 0} → StaticType C → StaticType C → Bool
are_unread unread_value second = true
are_unread first unread_value = true
are_unread (array_value first) (array_value second) = is_unread first || is_unread second
are_unread first second = false

-- ---- a choice

-- Where both are classes, neither is an ancestor of the other.
abbrev pub AreUnrelated : {C M : Type 0} → View C M → StaticType C → StaticType C → Type 0
AreUnrelated {C} view first second = (left right : C) → first ≡ class_value left → second ≡ class_value right
    → ¬ (IsAncestor view left right ⊎ IsAncestor view right left)

-- The static type of a choice `?:` between two values (JLS 15.25), by the first of these that holds. Both have one type: that type.
-- Nothing is known of what they have in common: unread. One value is null: the type of the other. Both are of classes, one
-- above the other: the upper class, and in a circle of superclasses the first. Else mixed.
pub data ReadsCommon {C M : Type 0} (view : View C M) : StaticType C → StaticType C → StaticType C → Type 0 where
  of_equal : {first second : StaticType C} → SameValue first second → ReadsCommon view first second first
  of_unread : {first second : StaticType C} → IsTrue (are_unread first second) → ReadsCommon view first second unread_value
  first_null : {second : StaticType C} → ReadsCommon view null_value second second
  second_null : {first : StaticType C} → ReadsCommon view first null_value first
  first_above : {first second : C} → IsAncestor view second first
      → ReadsCommon view (class_value first) (class_value second) (class_value first)
  second_above : {first second : C} → IsAncestor view first second → ¬ IsAncestor view second first
      → ReadsCommon view (class_value first) (class_value second) (class_value second)
  apart : {first second : StaticType C} → ¬ SameValue first second → ¬ IsTrue (are_unread first second) → first ≢ null_value
      → second ≢ null_value → AreUnrelated view first second → ReadsCommon view first second mixed_value

-- of two classes the one that is an ancestor of the other
abbrev pub upper_class : {C M : Type 0} → View C M → C → C → StaticType C
upper_class view first second =
    if is_ancestor view second first then class_value first else if is_ancestor view first second then class_value second else mixed_value

-- of two static types that are known and not equal
abbrev pub common_apart : {C M : Type 0} → View C M → StaticType C → StaticType C → StaticType C
common_apart view null_value second = second
common_apart view first null_value = first
common_apart view (class_value first) (class_value second) = upper_class view first second
common_apart view first second = mixed_value

abbrev pub common : {C M : Type 0} → View C M → StaticType C → StaticType C → StaticType C
common view first second =
    if same_value view.classes.cmp first second then first
    else if are_unread first second then unread_value else common_apart view first second

-- ---- an item

-- What an index of a value gives (JLS 15.10.3): an item of the array; what is outside gives what is outside, and of an unread value
-- nothing is known. Of what has no items an item has no type.
abbrev pub item : {C : Type 0} → StaticType C → StaticType C
item (array_value type) = of_type type
item outside_value = outside_value
item unread_value = unread_value
item (class_value class) = mixed_value
item primitive_value = mixed_value
item null_value = mixed_value
item void_value = mixed_value
item mixed_value = mixed_value

-- ---- members outside

-- A field outside: `length` of an array is primitive (JLS 10.7), any other is outside.
abbrev pub outside_field : {C : Type 0} → StaticType C → Name → StaticType C
outside_field (array_value type) name = if bytes_eq name (codes "length") then primitive_value else outside_value
outside_field outside_value name = outside_value
outside_field unread_value name = outside_value
outside_field (class_value class) name = outside_value
outside_field primitive_value name = outside_value
outside_field null_value name = outside_value
outside_field void_value name = outside_value
outside_field mixed_value name = outside_value

-- A call of a method outside: `clone()` of an array gives an array of its type (JLS 10.7), any other call what is outside.
abbrev pub outside_call : {C : Type 0} → StaticType C → Name → ℕ → StaticType C
outside_call (array_value type) name arity =
    if bytes_eq name (codes "clone") && arity == 0 then array_value type else outside_value
outside_call outside_value name arity = outside_value
outside_call unread_value name arity = outside_value
outside_call (class_value class) name arity = outside_value
outside_call primitive_value name arity = outside_value
outside_call null_value name arity = outside_value
outside_call void_value name arity = outside_value
outside_call mixed_value name arity = outside_value
