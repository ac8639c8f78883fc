-- The answers of look-ups, as what the functions of the rules find.
use Rattle.std.specs.Prelude.{ℕ, Bool, Option, Some, None, if◌then◌else◌}
use Rattle.jav_names.specs.Leftmost.{Leftmost as Read, leftmost_variable, leftmost_class, leftmost_import, leftmost_outside}
use Rattle.jav_names.specs.Members.{Constructor, declared_constructor, default_constructor}
use Rattle.jav_names.specs.Types.{TypeReading, class_read, imported, written, no_type}
use Rattle.jav_names.specs.UnitViews.{MemberKey}
use Rattle.jav_names.specs.Variables.{Variable, local_variable, parameter_variable, field_variable}
use Rattle.jav_names.specs.Views.{ViewType, primitive_type, void_type, class_type, outside_type, array_type, unread_type, ViewField, ViewDeclaration, Found as Result, found, outside, not_found}
use Rattle.jav_names.specs.declared.index.entry.Entry.{Entry}
use Rattle.jav_scope.specs.declared.found.Found.{Found}
use Rattle.jav_scope.specs.declared.found.Found.TheVariants as answer
use Rattle.jav_scope.specs.declared.found.Leftmost.{Leftmost}
use Rattle.jav_scope.specs.declared.found.Leftmost.TheVariants as leftmost
use Rattle.jav_scope.specs.declared.found.MemberRef.{MemberRef}
use Rattle.jav_scope.specs.declared.found.VarRef.{VarRef}
use Rattle.jav_scope.specs.declared.found.VarRef.TheVariants as variable
use Rattle.jav_scope.specs.declared.reading.Reading.{Reading}
use Rattle.jav_scope.specs.declared.reading.Reading.TheVariants as reading

-- what was found, as this; else outside or nothing
abbrev pub answered : {A B : Type 0} → (A → B) → Result A → Found B
answered f (found x) = answer.Found (f x)
answered f outside = answer.Outside
answered f not_found = answer.NotFound

-- ---- types

-- what a name reads as, but for texts
abbrev pub reading_of : TypeReading ℕ → Reading
reading_of (class_read class) = reading.Class class
reading_of (imported import rest) = reading.Imported
reading_of (written text) = reading.Written
reading_of no_type = reading.Nothing

-- a class, an outside type or nothing
abbrev pub reading_answered : Reading → Found ℕ
reading_answered (reading.Class class) = answer.Found class
reading_answered reading.Imported = answer.Outside
reading_answered reading.Written = answer.Outside
reading_answered reading.Nothing = answer.NotFound

abbrev pub type_answered : TypeReading ℕ → Found ℕ
type_answered (class_read class) = answer.Found class
type_answered (imported import rest) = answer.Outside
type_answered (written text) = answer.Outside
type_answered no_type = answer.NotFound

-- what a class extends: a class, an outside type, or nothing that can be looked into
abbrev pub superclass_answered : Option (ViewType ℕ) → Found ℕ
superclass_answered (Some (class_type class)) = answer.Found class
superclass_answered (Some (outside_type text)) = answer.Outside
superclass_answered (Some (primitive_type name)) = answer.NotFound
superclass_answered (Some void_type) = answer.NotFound
superclass_answered (Some (array_type item)) = answer.NotFound
superclass_answered (Some unread_type) = answer.NotFound
superclass_answered None = answer.NotFound

-- ---- members

abbrev pub member_ref : MemberKey → MemberRef
member_ref key = record { unit = key.unit; member = key.member }

abbrev pub entry_ref : Entry → MemberRef
entry_ref entry = record { unit = entry.owner; member = entry.place }

abbrev pub field_ref : ViewField ℕ MemberKey → MemberRef
field_ref field = member_ref field.key

abbrev pub declaration_ref : ViewDeclaration ℕ MemberKey → MemberRef
declaration_ref declared = member_ref declared.key

-- a method that is found nowhere may be one of `Object`
abbrev pub or_of_object : {A : Type 0} → Bool → Found A → Found A
or_of_object is_objects (answer.Found x) = answer.Found x
or_of_object is_objects answer.Outside = answer.Outside
or_of_object is_objects answer.NotFound = if is_objects then answer.Outside else answer.NotFound

-- a constructor; none is the default one
abbrev pub constructor_ref : Constructor ℕ MemberKey → Option MemberRef
constructor_ref (declared_constructor declared) = Some (declaration_ref declared)
constructor_ref (default_constructor class) = None

-- ---- variables

abbrev pub variable_ref : Variable ℕ MemberKey → VarRef
variable_ref (local_variable place) = variable.Local place
variable_ref (parameter_variable place) = variable.Param place
variable_ref (field_variable field) = variable.Member (field_ref field)

abbrev pub leftmost_answered : Read ℕ MemberKey → Found Leftmost
leftmost_answered (leftmost_variable read) = answer.Found (leftmost.Var (variable_ref read))
leftmost_answered (leftmost_class class names) = answer.Found (leftmost.Class class names)
leftmost_answered (leftmost_import import) = answer.Outside
leftmost_answered leftmost_outside = answer.Outside
