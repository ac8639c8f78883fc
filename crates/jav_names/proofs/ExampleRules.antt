-- Each rule beside its neighbour: two readings that a name might have, and the one that it has.
use Rattle.std.proofs.Common.{◌≡◌, ℕ, List, [], ◌∷◌, Some, None, codes, refl}
use Rattle.jav_tree.specs.declared.unit.Member.TheVariants as member
use Rattle.jav_tree.specs.declared.unit.Unit.{Unit as Source}
use Rattle.jav_tree.specs.Blocks.{block_of}
use Rattle.jav_names.specs.Leftmost.{leftmost_variable, leftmost_class, leftmost_import, leftmost_outside, ReadsLeftmost}
use Rattle.jav_names.specs.Members.{ReadsMethod, default_constructor, ReadsConstructor, ReadsSuperConstructor}
use Rattle.jav_names.specs.OnValues.{array_value, outside_member, missing_member, ReadsOn, ReadsFieldOn, ReadsMethodOn}
use Rattle.jav_names.specs.Types.{Header, class_read, imported, written, no_type, ReadsType}
use Rattle.jav_names.specs.UnitViews.{MemberKey, classes_of, header_of, view_of, place_in}
use Rattle.jav_names.specs.Variables.{Place, local_variable, parameter_variable, ReadsVariable}
use Rattle.jav_names.specs.Views.{primitive_type, class_type, outside_type, View, found, outside, not_found}
use Rattle.jav_names.proofs.ExampleFiles.{int, named, param, file, with_superclasses, view-seen, variable_read, leftmost_read, method_read, constructor_read, super_constructor_read, type_read}
use Rattle.jav_names.proofs.WrittenTypes.{type_in-Named}

-- ---- types

-- `p.U` imports `q.D` and `java.util.Date`; its package has a class `D` and a class `Date` too, and there is a class `q.E`.
abbrev user : Source
user = file "p" ("java.util.Date" ∷ "q.D" ∷ []) "U" None []

abbrev users : List Source
users = file "p" [] "D" None [] ∷ file "p" [] "Date" None [] ∷ user ∷ file "q" [] "D" None [] ∷ file "q" [] "E" None [] ∷ []

abbrev in_user : Header ℕ
in_user = header_of (2, user)

-- an import goes before the package, whether it names a class of the sources or one outside
import_first : ReadsType (classes_of users) in_user (codes "D") [] (class_read 3)
import_first = type_read users in_user (codes "D") [] _ refl

outside_import_first : ReadsType (classes_of users) in_user (codes "Date") [] (imported (codes "java.util.Date") [])
outside_import_first = type_read users in_user (codes "Date") [] _ refl

-- an import counts in its own file alone
no_import_here : ReadsType (classes_of users) (header_of (0, file "p" [] "D" None [])) (codes "Date") [] (class_read 1)
no_import_here = type_read users (header_of (0, file "p" [] "D" None [])) (codes "Date") [] _ refl

-- after a dot: in an outside type there may be others, in a class there are none
in_outside_import : ReadsType (classes_of users) in_user (codes "Date") (codes "Entry" ∷ [])
    (imported (codes "java.util.Date") (codes "Entry"))
in_outside_import = type_read users in_user (codes "Date") (codes "Entry" ∷ []) _ refl

in_a_class : ReadsType (classes_of users) in_user (codes "D") (codes "Entry" ∷ []) no_type
in_a_class = type_read users in_user (codes "D") (codes "Entry" ∷ []) _ refl

-- a full name, and one that is none
full_name_of_a_class : ReadsType (classes_of users) in_user (codes "q") (codes "E" ∷ []) (class_read 4)
full_name_of_a_class = type_read users in_user (codes "q") (codes "E" ∷ []) _ refl

as_written : ReadsType (classes_of users) in_user (codes "java") (codes "util" ∷ codes "List" ∷ []) (written (codes "java.util.List"))
as_written = type_read users in_user (codes "java") (codes "util" ∷ codes "List" ∷ []) _ refl

-- the file's own class goes before a class of its package, of the same name here and of lesser key
abbrev twin : Source
twin = file "p" [] "U" None []

own_class_first : ReadsType (classes_of (twin ∷ twin ∷ [])) (header_of (1, twin)) (codes "U") [] (class_read 1)
own_class_first = type_read (twin ∷ twin ∷ []) (header_of (1, twin)) (codes "U") [] _ refl

-- of two imports of one simple name the first counts
abbrev two_imports : Header ℕ
two_imports = header_of (0, file "p" ("a.D" ∷ "q.D" ∷ []) "V" None [])

first_import : ReadsType (classes_of users) two_imports (codes "D") [] (imported (codes "a.D") [])
first_import = type_read users two_imports (codes "D") [] _ refl

-- an import of one part is one of that name, and is not looked for in the package
abbrev one_part : Header ℕ
one_part = header_of (2, file "p" ("Date" ∷ []) "U" None [])

import_of_one_part : ReadsType (classes_of users) one_part (codes "Date") (codes "Entry" ∷ []) (imported (codes "Date") (codes "Entry"))
import_of_one_part = type_read users one_part (codes "Date") (codes "Entry" ∷ []) _ refl

-- ---- variables

abbrev none_extends : View ℕ MemberKey
none_extends = with_superclasses users (None ∷ None ∷ None ∷ None ∷ None ∷ [])

users-seen : view_of users ≡ none_extends
users-seen = view-seen users (None ∷ None ∷ None ∷ None ∷ None ∷ []) refl

-- the nearest of two locals, and a local before a parameter
abbrev with_locals : Place ℕ
with_locals = place_in (2, user) (codes "a" ∷ codes "b" ∷ codes "a" ∷ []) (codes "b" ∷ codes "c" ∷ codes "c" ∷ [])

nearest_local : ReadsVariable (view_of users) with_locals (codes "a") (found (local_variable 2))
nearest_local = variable_read users none_extends users-seen with_locals (codes "a") _ refl

local_first : ReadsVariable (view_of users) with_locals (codes "b") (found (local_variable 1))
local_first = variable_read users none_extends users-seen with_locals (codes "b") _ refl

-- of two parameters of one name the first
first_parameter : ReadsVariable (view_of users) with_locals (codes "c") (found (parameter_variable 1))
first_parameter = variable_read users none_extends users-seen with_locals (codes "c") _ refl

no_variable : ReadsVariable (view_of users) with_locals (codes "d") not_found
no_variable = variable_read users none_extends users-seen with_locals (codes "d") _ refl

-- before a dot a class is no variable, and an imported outside class is known by its full name
class_before_dot : ReadsLeftmost (view_of users) with_locals (codes "D") [] (leftmost_class 3 1)
class_before_dot = leftmost_read users none_extends users-seen with_locals (codes "D") [] _ refl

import_before_dot : ReadsLeftmost (view_of users) with_locals (codes "Date") [] (leftmost_import (codes "java.util.Date"))
import_before_dot = leftmost_read users none_extends users-seen with_locals (codes "Date") [] _ refl

-- a local goes before what would be a full name
local_before_full_name : ReadsLeftmost (view_of users) (place_in (2, user) (codes "q" ∷ []) []) (codes "q") (codes "E" ∷ [])
    (leftmost_variable (local_variable 0))
local_before_full_name =
    leftmost_read users none_extends users-seen (place_in (2, user) (codes "q" ∷ []) []) (codes "q") (codes "E" ∷ []) _ refl

-- of two classes whose full names the names begin with, the one of the shorter: `a.b` and `a.b.c`
abbrev one_in_the_other : List Source
one_in_the_other = file "a.b" [] "c" None [] ∷ file "a" [] "b" None [] ∷ []

one_in_the_other-seen : view_of one_in_the_other ≡ with_superclasses one_in_the_other (None ∷ None ∷ [])
one_in_the_other-seen = view-seen one_in_the_other (None ∷ None ∷ []) refl

shorter_name : ReadsLeftmost (view_of one_in_the_other) (place_in (7, file "p" [] "U" None []) [] []) (codes "a")
    (codes "b" ∷ codes "c" ∷ codes "d" ∷ []) (leftmost_class 1 2)
shorter_name = leftmost_read one_in_the_other (with_superclasses one_in_the_other (None ∷ None ∷ [])) one_in_the_other-seen
    (place_in (7, file "p" [] "U" None []) [] []) (codes "a") (codes "b" ∷ codes "c" ∷ codes "d" ∷ []) _ refl

-- ---- classes that extend an outside one: `p.E extends Base` with a constructor `E(int)`, and `p.F extends E`

abbrev extended : Source
extended = file "p" [] "E" (Some (named "Base"))
    (member.Ctor (record { front = []; at = 0; words = []; params = param int "size" ∷ []; block = block_of [] [] }) ∷ [])

abbrev further : Source
further = file "p" [] "F" (Some (named "E")) []

abbrev outsiders : List Source
outsiders = extended ∷ further ∷ []

abbrev ends_outside : View ℕ MemberKey
ends_outside = with_superclasses outsiders (Some (outside_type (codes "Base")) ∷ Some (class_type 0) ∷ [])

outsiders-seen : view_of outsiders ≡ ends_outside
outsiders-seen = view-seen outsiders (Some (outside_type (codes "Base")) ∷ Some (class_type 0) ∷ [])
    (λ i. Some (type_in-Named (classes_of outsiders) (header_of (0, extended)) (codes "Base") i)
    ∷ Some (type_in-Named (classes_of outsiders) (header_of (1, further)) (codes "E") i) ∷ [])

-- a name that no class has may be one of the outside class, but before a dot it is no variable
field_outside : ReadsVariable (view_of outsiders) (place_in (1, further) [] []) (codes "size") outside
field_outside = variable_read outsiders ends_outside outsiders-seen (place_in (1, further) [] []) (codes "size") _ refl

no_field_before_dot : ReadsLeftmost (view_of outsiders) (place_in (1, further) [] []) (codes "size") [] leftmost_outside
no_field_before_dot = leftmost_read outsiders ends_outside outsiders-seen (place_in (1, further) [] []) (codes "size") [] _ refl

method_outside : ReadsMethod (view_of outsiders) 1 (codes "grow") 2 outside
method_outside = method_read outsiders ends_outside outsiders-seen 1 (codes "grow") 2 _ refl

-- without such a class the methods of `Object` are outside, by their names and numbers of parameters, and others are not there
object_method : ReadsMethod (view_of users) 2 (codes "equals") 1 outside
object_method = method_read users none_extends users-seen 2 (codes "equals") 1 _ refl

no_method : ReadsMethod (view_of users) 2 (codes "equals") 2 not_found
no_method = method_read users none_extends users-seen 2 (codes "equals") 2 _ refl

-- ---- constructors

-- by default there is one without parameters, and none besides
default_of_further : ReadsConstructor (view_of outsiders) 1 0 (found (default_constructor 1))
default_of_further = constructor_read outsiders ends_outside outsiders-seen 1 0 _ refl

no_default : ReadsConstructor (view_of outsiders) 0 0 not_found
no_default = constructor_read outsiders ends_outside outsiders-seen 0 0 _ refl

-- `super(..)`: of an outside class it is outside, and without a superclass it is nothing
super_outside : ReadsSuperConstructor (view_of outsiders) 0 3 outside
super_outside = super_constructor_read outsiders ends_outside outsiders-seen 0 3 _ refl

no_super : ReadsSuperConstructor (view_of users) 2 0 not_found
no_super = super_constructor_read users none_extends users-seen 2 0 _ refl

-- ---- arrays

length_of_array : ReadsFieldOn (view_of users) (codes "length") (array_value (primitive_type (codes "int"))) outside_member
length_of_array = ReadsOn.has_array refl

no_field_of_array : ReadsFieldOn (view_of users) (codes "size") (array_value (primitive_type (codes "int"))) missing_member
no_field_of_array = ReadsOn.has_no_array refl

clone_of_array : ReadsMethodOn (view_of users) (codes "clone") 0 (array_value (primitive_type (codes "int"))) outside_member
clone_of_array = ReadsOn.has_array refl
