-- Members as they are kept, as the rows by which they are compared.
use Rattle.std.specs.Prelude.{ℕ, Bool, false, List, [], map}
use Rattle.mol_base.specs.Modifiers.{has}
use Rattle.jav_tree.specs.declared.types.TypeName.{TypeName}
use Rattle.jav_tree.specs.declared.unit.Member.{Member}
use Rattle.jav_tree.specs.declared.unit.Member.TheVariants as member
use Rattle.jav_tree.specs.declared.unit.Param.{Param}
use Rattle.jav_names.specs.DottedNames.{Name}
use Rattle.jav_names.specs.TypeTexts.{type_in}
use Rattle.jav_names.specs.UnitViews.{header_of}
use Rattle.jav_names.specs.Views.{ViewType, void_type}
use Rattle.jav_names.specs.seen.Kept.{view_type}
use Rattle.jav_scope.specs.Entries.{classes_in}
use Rattle.jav_scope.specs.declared.source.SourceUnit.{SourceUnit}
use Rattle.mol_resolve_rules.specs.Files.{params_of, place_of_member}
use Rattle.mol_resolve_rules.specs.MemberFaults.{MemberKind, a_field, a_method, a_constructor, Row}
use Rattle.mol_resolve_members.specs.declared.members.member_row.MemberRow.{MemberRow}

-- a type in the file of this number, which is this one
abbrev pub type_at : List SourceUnit → ℕ → SourceUnit → TypeName → ViewType ℕ
type_at sources number source = type_in (classes_in sources) (header_of (number, source.unit))

abbrev pub kind_of : Member → MemberKind
kind_of (member.Field field) = a_field
kind_of (member.Method method) = a_method
kind_of (member.Ctor constructor) = a_constructor

-- a constructor has no name
abbrev pub name_of : Member → Name
name_of (member.Field field) = field.name
name_of (member.Method method) = method.name
name_of (member.Ctor constructor) = []

abbrev pub is_static_member : Member → Bool
is_static_member (member.Field field) = has field.words "static"
is_static_member (member.Method method) = method.is_static
is_static_member (member.Ctor constructor) = false

abbrev pub type_of_member : (TypeName → ViewType ℕ) → Member → ViewType ℕ
type_of_member see (member.Field field) = see field.ty
type_of_member see (member.Method method) = see method.result
type_of_member see (member.Ctor constructor) = void_type

abbrev pub types_of_params : (TypeName → ViewType ℕ) → List Param → List (ViewType ℕ)
types_of_params see params = map (λ (param : Param). see param.ty) params

abbrev pub kept_row : MemberRow → Row ℕ
kept_row row = record {
  owner = row.at.unit;
  place = row.at.member;
  at = place_of_member row.member.now;
  kind = kind_of row.member.now;
  name = name_of row.member.now;
  is_static = row.is_static;
  params = map view_type row.params.items;
  type = view_type row.ty;
}
