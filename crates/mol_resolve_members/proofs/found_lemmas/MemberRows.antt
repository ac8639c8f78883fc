-- The row of a member has what is told of it.
use Rattle.std.proofs.Common.{◌≡◌, ℕ, List, Some, Contains, sym, ap, subst, ◌∙◌}
use Rattle.jav_names.specs.seen.Kept.{view_type}
use Rattle.jav_names.specs.OnValues.{is_static_kind}
use Rattle.jav_names.specs.UnitViews.{MemberKey}
use Rattle.jav_names.specs.Views.{ViewDeclaration, ViewField}
use Rattle.jav_scope.specs.Answers.{declaration_ref, field_ref}
use Rattle.jav_scope.specs.Entries.{view_in}
use Rattle.jav_scope.specs.declared.found.MemberRef.{MemberRef}
use Rattle.jav_scope.specs.declared.source.SourceUnit.{SourceUnit}
use Rattle.mol_resolve_members.specs.members.Rows.{kept_row}
use Rattle.mol_resolve_members.specs.members.Tables.{row_at}
use Rattle.mol_resolve_members.specs.declared.members.member_row.MemberRow.{MemberRow}
use Rattle.mol_resolve_members.proofs.members_lemmas.RowsViewed.{rows_viewed}
use Rattle.mol_resolve_members.specs.places.Listings.{HasMember, key_of}
use Rattle.mol_resolve_rules.specs.MemberFaults.{Row}
use Rattle.mol_resolve_rules.proofs.FilesStand.{some-same}

module _ (sources : List SourceUnit) (at : MemberRef) where
  module _ (field : ViewField ℕ MemberKey) (stands : Contains (view_in sources).fields field) (same : at ≡ field_ref field) where
    pub field-there : HasMember sources at
    field-there = subst (HasMember sources) (sym same) (rows_viewed.fields sources field stands).has

    pub field-key : key_of at ≡ field.key
    field-key = ap key_of same

    module _ (row : MemberRow) (is : Some (kept_row row) ≡ row_at sources at) where
      its_row : kept_row row ≡ (rows_viewed.fields sources field stands).row
      its_row = some-same (is ∙ ap (row_at sources) same ∙ (rows_viewed.fields sources field stands).stands)

      pub field-type : view_type row.ty ≡ field.type
      field-type = ap (λ (r : Row ℕ). r.type) its_row ∙ (rows_viewed.fields sources field stands).type

      pub field-static : row.is_static ≡ field.is_static
      field-static = ap (λ (r : Row ℕ). r.is_static) its_row ∙ (rows_viewed.fields sources field stands).static

  module _ (declared : ViewDeclaration ℕ MemberKey) (stands : Contains (view_in sources).declarations declared)
      (same : at ≡ declaration_ref declared) where
    pub declared-there : HasMember sources at
    declared-there = subst (HasMember sources) (sym same) (rows_viewed.declarations sources declared stands).has

    pub declared-key : key_of at ≡ declared.key
    declared-key = ap key_of same

    module _ (row : MemberRow) (is : Some (kept_row row) ≡ row_at sources at) where
      the_row : kept_row row ≡ (rows_viewed.declarations sources declared stands).row
      the_row = some-same (is ∙ ap (row_at sources) same ∙ (rows_viewed.declarations sources declared stands).stands)

      pub declared-gives : view_type row.ty ≡ declared.result
      declared-gives = ap (λ (r : Row ℕ). r.type) the_row ∙ (rows_viewed.declarations sources declared stands).gives

      pub declared-static : row.is_static ≡ is_static_kind declared.kind
      declared-static = ap (λ (r : Row ℕ). r.is_static) the_row ∙ (rows_viewed.declarations sources declared stands).static
