-- The rules as functions, each of which goes through lists and answers what its relation holds of. A list here ascends by its keys, so
-- that the first that passes has the least key.
use Rattle.std.specs.Prelude.{ℕ, zero, suc, ◌==◌, Bool, true, false, ◌&&◌, ◌||◌, not, List, [], ◌∷◌, ◌++◌, length, drop, Option, Some, None, option_map, if◌then◌else◌, find, codes}
use Rattle.std.specs.List.{list_any}
use Rattle.std.specs.Option.{option_or, option_map_or}
use Rattle.std.specs.Ordering.{is_eq}
use Rattle.std.specs.Str.{bytes_eq}
use Rattle.jav_names.specs.DottedNames.{Name, Names, dot, joined, simple_name}
use Rattle.jav_names.specs.Leftmost.{Leftmost, leftmost_variable, leftmost_class, leftmost_import, leftmost_outside}
use Rattle.jav_names.specs.Members.{is_object_method, Constructor, declared_constructor, default_constructor}
use Rattle.jav_names.specs.OnValues.{StaticType, primitive_value, null_value, void_value, mixed_value, outside_value, class_value, array_value, unread_value, OnValue, member, static_member, outside_member, missing_member, has_no_members, unread_member, is_static_kind, OnIndex, indexed, not_indexed, unread_index}
use Rattle.jav_names.specs.Types.{full_name, Header, TypeReading, class_read, imported, written, no_type}
use Rattle.jav_names.specs.Variables.{Place, Variable, local_variable, parameter_variable, field_variable}
use Rattle.jav_names.specs.Views.{ViewType, class_type, outside_type, ViewClass, ViewField, DeclarationKind, constructor, instance_method, static_method, ViewDeclaration, Classes, View, Found, found, outside, not_found}

-- ---- types

abbrev pub class_named : {C : Type 0} → Classes C → Name → Option (ViewClass C)
class_named classes name = find (λ class. bytes_eq (full_name class) name) classes.items

abbrev pub import_of : Names → Name → Option Name
import_of imports name = find (λ import. bytes_eq (simple_name import) name) imports

abbrev pub own_named : {C : Type 0} → Option (ViewClass C) → Name → Option (ViewClass C)
own_named None name = None
own_named (Some class) name = if bytes_eq class.name name then Some class else None

abbrev pub class_or_imported : {C : Type 0} → Option (ViewClass C) → Name → TypeReading C
class_or_imported None import = imported import []
class_or_imported (Some class) import = class_read class.key

abbrev pub class_or_written : {C : Type 0} → Option (ViewClass C) → Name → TypeReading C
class_or_written None text = written text
class_or_written (Some class) text = class_read class.key

-- without an import of this name: the own class, if this is it, else by the package
abbrev pub own_or_near : {C : Type 0} → Classes C → Header C → Name → Option (ViewClass C) → TypeReading C
own_or_near classes header name None = class_or_written (class_named classes (joined header.«package» (name ∷ []))) name
own_or_near classes header name (Some own) = class_read own.key

abbrev pub simple_by_import : {C : Type 0} → Classes C → Header C → Name → Option Name → TypeReading C
simple_by_import classes header name None = own_or_near classes header name (own_named header.own name)
simple_by_import classes header name (Some import) = class_or_imported (class_named classes import) import

abbrev pub simple_type : {C : Type 0} → Classes C → Header C → Name → TypeReading C
simple_type classes header name = simple_by_import classes header name (import_of header.imports name)

-- what the first name reads as, and then more names
abbrev pub with_more : {C : Type 0} → Classes C → Name → Name → Names → TypeReading C → TypeReading C
with_more classes first next rest (class_read class) = no_type
with_more classes first next rest (imported import more) = imported import (joined next rest)
with_more classes first next rest (written text) =
    class_or_written (class_named classes (joined first (next ∷ rest))) (joined first (next ∷ rest))
with_more classes first next rest no_type = no_type

abbrev pub type_named : {C : Type 0} → Classes C → Header C → Name → Names → TypeReading C
type_named classes header first [] = simple_type classes header first
type_named classes header first (next ∷ rest) = with_more classes first next rest (simple_type classes header first)

-- ---- ancestors

abbrev pub has_class : {C : Type 0} → Classes C → C → Bool
has_class classes key = list_any (λ class. is_eq (classes.cmp class.key key)) classes.items

abbrev pub class_in : {C : Type 0} → Classes C → Option (ViewType C) → Option C
class_in classes (Some (class_type above)) = if has_class classes above then Some above else None
class_in classes type = None

-- the superclass, where that is a class of the view
abbrev pub class_above : {C M : Type 0} → View C M → C → Option C
class_above view class = class_in view.classes (view.superclass class)

abbrev pub is_outside : {C : Type 0} → Option (ViewType C) → Bool
is_outside (Some (outside_type name)) = true
is_outside type = false

abbrev pub is_met : {C : Type 0} → Classes C → List C → C → Bool
is_met classes met class = list_any (λ before. is_eq (classes.cmp before class)) met

-- the next class, unless it was met
abbrev pub unmet : {C : Type 0} → Classes C → List C → Option C → Option C
unmet classes met None = None
unmet classes met (Some class) = if is_met classes met class then None else Some class

abbrev pub each_above : {C : Type 0} → Option C → (C → List C) → List C
each_above None way = []
each_above (Some above) way = way above

-- the classes from one on, in at most so many steps up
abbrev pub way_from : {C M : Type 0} → ℕ → View C M → List C → C → List C
way_from zero view met class = class ∷ []
way_from (suc steps) view met class =
    class ∷ each_above (unmet view.classes (class ∷ met) (class_above view class)) (λ above. way_from steps view (class ∷ met) above)

-- Each step leads to another class of the view, so there are no more steps than classes.
abbrev pub way : {C M : Type 0} → View C M → C → List C
way view class = way_from (length view.classes.items) view [] class

abbrev pub last_extends_outside : {C M : Type 0} → View C M → List C → Bool
last_extends_outside view [] = false
last_extends_outside view (class ∷ []) = is_outside (view.superclass class)
last_extends_outside view (class ∷ above ∷ more) = last_extends_outside view (above ∷ more)

abbrev pub ends_outside : {C M : Type 0} → View C M → C → Bool
ends_outside view class = last_extends_outside view (way view class)

-- The classes after it on its way.
abbrev pub ancestors : {C M : Type 0} → View C M → C → List C
ancestors view class = drop 1 (way view class)

abbrev pub is_ancestor : {C M : Type 0} → View C M → C → C → Bool
is_ancestor view class above = is_met view.classes (ancestors view class) above

-- the superclass of the second is the first
abbrev pub is_above : {C M : Type 0} → View C M → C → C → Bool
is_above view above class = option_map_or (λ next. is_eq (view.classes.cmp next above)) (class_above view class) false

-- Going up from a class leads back to it where a class on its way has it above it.
abbrev pub is_in_circle : {C M : Type 0} → View C M → C → Bool
is_in_circle view class = list_any (is_above view class) (way view class)

-- ---- members

-- the first member that passes and has an owner among these classes, by the first of them that has one
abbrev pub nearest : {X C M : Type 0} → View C M → (X → C) → (X → Bool) → List X → List C → Option X
nearest view owner passes all [] = None
nearest view owner passes all (class ∷ classes) =
    option_or (find (λ x. passes x && is_eq (view.classes.cmp (owner x) class)) all) (nearest view owner passes all classes)

abbrev pub found_or : {X : Type 0} → Option X → Bool → Found X
found_or (Some x) is_outside = found x
found_or None true = outside
found_or None false = not_found

abbrev pub field_from : {C M : Type 0} → View C M → C → Name → Found (ViewField C M)
field_from view class name =
    found_or (nearest view (λ field. field.owner) (λ field. bytes_eq field.name name) view.fields (way view class))
    (ends_outside view class)

abbrev pub is_constructor : DeclarationKind → Bool
is_constructor instance_method = false
is_constructor static_method = false
is_constructor constructor = true

abbrev pub is_method : {C M : Type 0} → Name → ℕ → ViewDeclaration C M → Bool
is_method name arity declared = not (is_constructor declared.kind) && (bytes_eq declared.name name && declared.arity == arity)

abbrev pub method_from : {C M : Type 0} → View C M → C → Name → ℕ → Found (ViewDeclaration C M)
method_from view class name arity =
    found_or (nearest view (λ declared. declared.owner) (is_method name arity) view.declarations (way view class))
    (ends_outside view class || is_object_method name arity)

-- from the superclass up, where that is a class of the view; else outside or nothing
abbrev pub found_above : {C X : Type 0} → Option C → (C → Found X) → Bool → Found X
found_above None look_up is_outside = found_or None is_outside
found_above (Some above) look_up is_outside = look_up above

abbrev pub super_method : {C M : Type 0} → View C M → C → Name → ℕ → Found (ViewDeclaration C M)
super_method view class name arity =
    found_above (class_above view class) (λ above. method_from view above name arity)
    (is_outside (view.superclass class) || is_object_method name arity)

abbrev pub declares_constructor : {C M : Type 0} → View C M → C → ViewDeclaration C M → Bool
declares_constructor view class declared = is_eq (view.classes.cmp declared.owner class) && is_constructor declared.kind

abbrev pub constructor_or : {C M : Type 0} → C → Option (ViewDeclaration C M) → Bool → Found (Constructor C M)
constructor_or class (Some declared) is_default = found (declared_constructor declared)
constructor_or class None true = found (default_constructor class)
constructor_or class None false = not_found

abbrev pub constructor_from : {C M : Type 0} → View C M → C → ℕ → Found (Constructor C M)
constructor_from view class arity =
    constructor_or class (find (λ declared. declares_constructor view class declared && declared.arity == arity) view.declarations)
    (not (list_any (declares_constructor view class) view.declarations) && arity == 0)

abbrev pub super_constructor : {C M : Type 0} → View C M → C → ℕ → Found (Constructor C M)
super_constructor view class arity =
    found_above (class_above view class) (λ above. constructor_from view above arity) (is_outside (view.superclass class))

-- ---- variables

abbrev pub first_place : Name → Names → Option ℕ
first_place name [] = None
first_place name (next ∷ rest) = if bytes_eq next name then Some 0 else option_map (λ place. suc place) (first_place name rest)

abbrev pub last_place : Name → Names → Option ℕ
last_place name [] = None
last_place name (next ∷ rest) =
    option_or (option_map (λ place. suc place) (last_place name rest)) (if bytes_eq next name then Some 0 else None)

abbrev pub field_found : {C M : Type 0} → Found (ViewField C M) → Found (Variable C M)
field_found (found field) = found (field_variable field)
field_found outside = outside
field_found not_found = not_found

abbrev pub local_or : {C M : Type 0} → Option ℕ → Option ℕ → Found (ViewField C M) → Found (Variable C M)
local_or (Some place) parameter field = found (local_variable place)
local_or None (Some place) field = found (parameter_variable place)
local_or None None field = field_found field

abbrev pub variable : {C M : Type 0} → View C M → Place C → Name → Found (Variable C M)
variable view place name = local_or (last_place name place.locals) (first_place name place.params) (field_from view place.class name)

-- ---- the leftmost of several names

abbrev pub here_or : {C : Type 0} → Option (ViewClass C) → Option (C × ℕ) → Option (C × ℕ)
here_or {C} (Some class) further = Some (class.key, 0)
here_or {C} None further = option_map (λ (class : C × ℕ). (class.0, suc class.1)) further

-- The class that as few names as can be spell: those of a text, and of the names that follow it as many as this.
abbrev pub fewest : {C : Type 0} → Classes C → Name → Names → Option (C × ℕ)
fewest classes text [] = here_or (class_named classes text) None
fewest classes text (next ∷ rest) = here_or (class_named classes text) (fewest classes (text ++ dot ∷ next) rest)

abbrev pub class_or_outside : {C M : Type 0} → Option (C × ℕ) → Leftmost C M
class_or_outside None = leftmost_outside
class_or_outside (Some class) = leftmost_class class.0 (suc class.1)

abbrev pub leftmost_type : {C M : Type 0} → Classes C → Name → Names → TypeReading C → Leftmost C M
leftmost_type classes first rest (class_read class) = leftmost_class class 1
leftmost_type classes first rest (imported import more) = leftmost_import import
leftmost_type classes first rest (written text) = class_or_outside (fewest classes first rest)
leftmost_type classes first rest no_type = leftmost_outside

abbrev pub variable_or : {C M : Type 0} → Found (Variable C M) → Leftmost C M → Leftmost C M
variable_or (found variable) otherwise = leftmost_variable variable
variable_or outside otherwise = otherwise
variable_or not_found otherwise = otherwise

abbrev pub leftmost : {C M : Type 0} → View C M → Place C → Name → Names → Leftmost C M
leftmost view place first rest =
    variable_or (variable view place first) (leftmost_type view.classes first rest (simple_type view.classes place.header first))

-- ---- members of values

abbrev pub on_instance : {X : Type 0} → (X → Bool) → Found X → OnValue X
on_instance is_static (found x) = if is_static x then static_member x else member x
on_instance is_static outside = outside_member
on_instance is_static not_found = missing_member

abbrev pub on_value : {C X : Type 0} → (C → Found X) → (X → Bool) → Bool → StaticType C → OnValue X
on_value look_up is_static arrays_have (class_value class) = on_instance is_static (look_up class)
on_value look_up is_static arrays_have outside_value = outside_member
on_value look_up is_static arrays_have (array_value item) = if arrays_have then outside_member else missing_member
on_value look_up is_static arrays_have primitive_value = has_no_members
on_value look_up is_static arrays_have null_value = has_no_members
on_value look_up is_static arrays_have void_value = has_no_members
on_value look_up is_static arrays_have mixed_value = has_no_members
on_value look_up is_static arrays_have unread_value = unread_member

abbrev pub field_on : {C M : Type 0} → View C M → Name → StaticType C → OnValue (ViewField C M)
field_on view name = on_value (λ class. field_from view class name) (λ field. field.is_static) (bytes_eq name (codes "length"))

abbrev pub method_on : {C M : Type 0} → View C M → Name → ℕ → StaticType C → OnValue (ViewDeclaration C M)
method_on view name arity =
    on_value (λ class. method_from view class name arity) (λ declared. is_static_kind declared.kind) (is_object_method name arity)

abbrev pub index_on : {C : Type 0} → StaticType C → OnIndex
index_on (array_value item) = indexed
index_on outside_value = indexed
index_on (class_value class) = not_indexed
index_on primitive_value = not_indexed
index_on null_value = not_indexed
index_on void_value = not_indexed
index_on mixed_value = not_indexed
index_on unread_value = unread_index

-- ---- members through the name of a class

abbrev pub static_of : {X : Type 0} → (X → Bool) → Found X → Option X
static_of is_static (found x) = if is_static x then Some x else None
static_of is_static outside = None
static_of is_static not_found = None

abbrev pub field_through : {C M : Type 0} → View C M → C → Name → Option (ViewField C M)
field_through view class name = static_of (λ field. field.is_static) (field_from view class name)

abbrev pub method_through : {C M : Type 0} → View C M → C → Name → ℕ → Option (ViewDeclaration C M)
method_through view class name arity = static_of (λ declared. is_static_kind declared.kind) (method_from view class name arity)
