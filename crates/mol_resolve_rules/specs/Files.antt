-- Source files with their paths, and what stands in them.
use Rattle.std.specs.Prelude.{◌≡◌, ℕ, List, [], map, Option, Some, option_map, slice_get, find}
use Rattle.std.specs.Option.{option_and_then}
use Rattle.std.specs.Ordering.{is_eq}
use Rattle.jav_tree.specs.declared.types.TypeName.{TypeName}
use Rattle.jav_tree.specs.declared.unit.Member.{Member}
use Rattle.jav_tree.specs.declared.unit.Member.TheVariants as member
use Rattle.jav_tree.specs.declared.unit.Param.{Param}
use Rattle.jav_tree.specs.declared.unit.Unit.{Unit as Source}
use Rattle.jav_names.specs.DottedNames.{Name}
use Rattle.jav_names.specs.Types.{full_name}
use Rattle.jav_names.specs.TypeTexts.{type_in}
use Rattle.jav_names.specs.UnitViews.{MemberKey, class_of, classes_of, header_of, view_of}
use Rattle.jav_names.specs.Views.{ViewType, ViewDeclaration, View}

-- a path, and the source file that the text there is
pub record File : Type 0 where
  pub path : Name
  pub unit : Source

abbrev pub Files : Type 0
Files = List File

abbrev pub units : Files → List Source
units files = map (λ (file : File). file.unit) files

-- the view of files: their numbers in the list are the keys of their classes
abbrev pub files_view : Files → View ℕ MemberKey
files_view files = view_of (units files)

-- this file has this number
abbrev pub HasFile : Files → ℕ → File → Type 0
HasFile files number file = slice_get files number ≡ Some file

-- ---- classes

-- the full name of the class of a file (JLS 6.7)
abbrev pub class_name : File → Name
class_name file = full_name (class_of (0, file.unit))

-- ---- members

abbrev pub params_of : Member → List Param
params_of (member.Field f) = []
params_of (member.Method m) = m.params
params_of (member.Ctor c) = c.params

-- where a member begins, in bytes
abbrev pub place_of_member : Member → ℕ
place_of_member (member.Field f) = f.at
place_of_member (member.Method m) = m.at
place_of_member (member.Ctor c) = c.at

-- a type in a file of this number
abbrev pub type_of_file : Files → ℕ × File → TypeName → ViewType ℕ
type_of_file files file = type_in (classes_of (units files)) (header_of (file.0, file.1.unit))

-- the declaration of a key, if there is one
abbrev pub declaration_at : {C M : Type 0} → View C M → M → Option (ViewDeclaration C M)
declaration_at {C} {M} view key = find (λ (declared : ViewDeclaration C M). is_eq (view.member_cmp declared.key key)) view.declarations

-- A member where it stands: its file with the number of that, and its declaration unless it is a field.
pub record PlacedMember : Type 0 where
  pub number : ℕ
  pub file : File
  pub member : Member
  pub declared : Option (ViewDeclaration ℕ MemberKey)

-- in a numbered file, the member of a number
abbrev pub placed : Files → ℕ × File → ℕ × Member → PlacedMember
placed files file member = record {
  number = file.0;
  file = file.1;
  member = member.1;
  declared = declaration_at (files_view files) (record { unit = file.0; member = member.0 });
}

-- the member of a key, if there is one
abbrev pub member_at : Files → MemberKey → Option PlacedMember
member_at files key = option_and_then
    (λ (file : File). option_map (λ member. placed files (key.unit, file) (key.member, member))
    (slice_get file.unit.class.members key.member)) (slice_get files key.unit)
