-- The rows of fields and declarations, beside what the view of the files has of these.
use Rattle.std.specs.Prelude.{◌≡◌, ℕ, List, length, Some, Contains}
use Rattle.jav_names.specs.OnValues.{is_static_kind}
use Rattle.jav_names.specs.UnitViews.{MemberKey}
use Rattle.jav_names.specs.Views.{ViewField, ViewDeclaration}
use Rattle.jav_scope.specs.Answers.{declaration_ref, field_ref}
use Rattle.jav_scope.specs.Entries.{view_in}
use Rattle.jav_scope.specs.declared.found.MemberRef.{MemberRef}
use Rattle.jav_scope.specs.declared.source.SourceUnit.{SourceUnit}
use Rattle.mol_resolve_members.specs.places.Listings.{HasMember}
use Rattle.mol_resolve_rules.specs.MemberFaults.{Row}
use Rattle.mol_resolve_members.specs.members.Tables.{row_at}

-- There is such a member, and its row, which is as the view has the field.
pub record HasField (sources : List SourceUnit) (field : ViewField ℕ MemberKey) : Type 0 where
  pub has : HasMember sources (field_ref field)
  pub row : Row ℕ
  pub stands : row_at sources (field_ref field) ≡ Some row
  pub static : row.is_static ≡ field.is_static
  pub type : row.type ≡ field.type

-- So of a method or constructor.
pub record HasDeclaration (sources : List SourceUnit) (declared : ViewDeclaration ℕ MemberKey) : Type 0 where
  pub has : HasMember sources (declaration_ref declared)
  pub row : Row ℕ
  pub stands : row_at sources (declaration_ref declared) ≡ Some row
  pub static : row.is_static ≡ is_static_kind declared.kind
  pub takes : length row.params ≡ declared.arity
  pub gives : row.type ≡ declared.result

pub record RowsViewed : Type 0 where
  pub fields : (sources : List SourceUnit) (field : ViewField ℕ MemberKey) → Contains (view_in sources).fields field
      → HasField sources field
  pub declarations : (sources : List SourceUnit) (declared : ViewDeclaration ℕ MemberKey)
      → Contains (view_in sources).declarations declared → HasDeclaration sources declared
