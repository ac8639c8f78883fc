-- The rows of fields and declarations are as the view of the files has these.
use Rattle.std.proofs.Common.{◌≡◌, ℕ, zero, suc, ◌+◌, Bool, true, false, if◌then◌else◌, List, [], ◌∷◌, map, length, Option, Some, None, option_map, Contains, slice_get, refl, sym, ◌∙◌, ap, subst, arith}
use Rattle.std.specs.List.{enumerate_from}
use Rattle.std.specs.Option.{option_and_then}
use Rattle.std.proofs.lemmas.List.{length-map}
use Rattle.std.proofs.lemmas.Option.{slice_get-map, slice_get_within}
use Rattle.jav_tree.specs.declared.unit.Member.{Member}
use Rattle.jav_tree.specs.declared.unit.Member.TheVariants as member
use Rattle.jav_tree.specs.declared.unit.Param.{Param}
use Rattle.jav_tree.specs.declared.unit.Unit.{Unit as Source}
use Rattle.jav_names.specs.OnValues.{is_static_kind}
use Rattle.jav_names.specs.UnitViews.{MemberKey, declaration_in, declarations_of, field_in, fields_of, numbered}
use Rattle.jav_names.specs.Views.{ViewField, ViewDeclaration, instance_method, static_method}
use Rattle.jav_scope.specs.Answers.{declaration_ref, field_ref}
use Rattle.jav_scope.specs.Entries.{classes_in, units_of, view_in}
use Rattle.jav_scope.specs.declared.found.MemberRef.{MemberRef}
use Rattle.jav_scope.specs.declared.source.SourceUnit.{SourceUnit}
use Rattle.mol_resolve_members.specs.places.Listings.{HasMember}
use Rattle.mol_resolve_rules.specs.MemberFaults.{Row, row_of}
use Rattle.mol_resolve_rules.proofs.FilesStand.{some-same}
use Rattle.mol_resolve_rules.proofs.Stands.{from_each, from_numbered, from_some}
use Rattle.mol_resolve_members.specs.members.Rows.{type_at}
use Rattle.mol_resolve_members.specs.members.Tables.{row_at, rows_at}
use Rattle.mol_resolve_members.specs.members.Viewed.{HasDeclaration, HasField, RowsViewed}
use Rattle.mol_resolve_members.proofs.members_lemmas.RowsKept.{rows-made}

-- what is numbered, at its place
numbered-at : {X : Type 0} (n : ℕ) (xs : List X) (place number : ℕ) (x : X) → slice_get xs place ≡ Some x → n + place ≡ number
    → slice_get (enumerate_from n xs) place ≡ Some (number, x)
numbered-at n [] place number x is at = absurd cc
numbered-at n (y ∷ xs) zero number x is at =
    let same : y ≡ x = cc in
    let first : n ≡ number = omega (arith, at) in
    λ i. Some (first i, same i)
numbered-at n (y ∷ xs) (suc place) number x is at = numbered-at (n + 1) xs place number x is (omega (arith, at))

module _ (sources : List SourceUnit) where
  -- ---- one member

  module _ (unit number : ℕ) (source : SourceUnit) (there : slice_get sources unit ≡ Some source)
      (kept : Member) (stands : slice_get source.unit.class.members number ≡ Some kept) where
    abbrev at : MemberRef
    at = record { unit = unit; member = number }

    has : HasMember sources at
    has = record { source = source; stands = there; within = slice_get_within source.unit.class.members number kept stands }

    row-is : row_at sources at ≡ Some (row_of (type_at sources unit source) unit (number, kept))
    row-is =
        ap (option_and_then (λ (source : SourceUnit). slice_get (rows_at sources (unit, source)) number)) there
        ∙ ap (λ (rows : List (Row ℕ)). slice_get rows number) (sym (rows-made sources unit source))
        ∙ slice_get-map (row_of (type_at sources unit source) unit) (numbered source.unit.class.members) number
        ∙ ap (option_map (row_of (type_at sources unit source) unit))
        (numbered-at 0 source.unit.class.members number number kept stands (omega arith))

    field-made : (field : ViewField ℕ MemberKey) → field_in (classes_in sources) (unit, source.unit) (number, kept) ≡ Some field
        → HasField sources field
    field-made field is = by kept row-is has is where
      by : (kept : Member) → row_at sources at ≡ Some (row_of (type_at sources unit source) unit (number, kept)) → HasMember sources at
          → field_in (classes_in sources) (unit, source.unit) (number, kept) ≡ Some field → HasField sources field
      by (member.Field f) row has is =
          subst (HasField sources) (some-same is) (record { has = has; row = _; stands = row; static = refl; type = refl })
      by (member.Method m) row has is = absurd cc
      by (member.Ctor c) row has is = absurd cc

    static-kind : (b : Bool) → b ≡ is_static_kind (if b then static_method else instance_method)
    static-kind true = refl
    static-kind false = refl

    declaration-made : (declared : ViewDeclaration ℕ MemberKey)
        → declaration_in (classes_in sources) (unit, source.unit) (number, kept) ≡ Some declared → HasDeclaration sources declared
    declaration-made declared is = by kept row-is has is where
      by : (kept : Member) → row_at sources at ≡ Some (row_of (type_at sources unit source) unit (number, kept)) → HasMember sources at
          → declaration_in (classes_in sources) (unit, source.unit) (number, kept) ≡ Some declared → HasDeclaration sources declared
      by (member.Field f) row has is = absurd cc
      by (member.Method m) row has is = subst (HasDeclaration sources) (some-same is)
          (record {
            has = has;
            row = _;
            stands = row;
            static = static-kind m.is_static;
            takes = length-map m.params (λ (param : Param). type_at sources unit source param.ty);
            gives = refl;
          })
      by (member.Ctor c) row has is = subst (HasDeclaration sources) (some-same is)
          (record {
            has = has;
            row = _;
            stands = row;
            static = refl;
            takes = length-map c.params (λ (param : Param). type_at sources unit source param.ty);
            gives = refl;
          })

  -- ---- those of the view

  -- a file with its number
  source-of : (file : ℕ × Source) → Contains (numbered (units_of sources)) file
      → (source : SourceUnit) × (slice_get sources file.0 ≡ Some source) × (source.unit ≡ file.1)
  source-of file there = by (slice_get sources file.0) refl
      (sym (slice_get-map (λ (source : SourceUnit). source.unit) sources file.0) ∙ from_numbered (units_of sources) file there) where
        by : (o : Option SourceUnit) → slice_get sources file.0 ≡ o → option_map (λ (source : SourceUnit). source.unit) o ≡ Some file.1
            → (source : SourceUnit) × (slice_get sources file.0 ≡ Some source) × (source.unit ≡ file.1)
        by None found is = absurd cc
        by (Some source) found is = (source, found, some-same is)

  pub field-there : (field : ViewField ℕ MemberKey) → Contains (view_in sources).fields field → HasField sources field
  field-there field stands =
      let of_file = from_each (fields_of (classes_in sources)) (numbered (units_of sources)) field stands in
      let of_member = from_some (field_in (classes_in sources) of_file.0) (numbered of_file.0.1.class.members) field of_file.2 in
      let source = source-of of_file.0 of_file.1 in
      field-made of_file.0.0 of_member.0.0 source.0 source.1 of_member.0.1
      (ap (λ (unit : Source). slice_get unit.class.members of_member.0.0) source.2
      ∙ from_numbered of_file.0.1.class.members of_member.0 of_member.1)
      field (ap (λ (unit : Source). field_in (classes_in sources) (of_file.0.0, unit) of_member.0) source.2 ∙ of_member.2)

  pub declaration-there : (declared : ViewDeclaration ℕ MemberKey) → Contains (view_in sources).declarations declared
      → HasDeclaration sources declared
  declaration-there declared stands =
      let of_file = from_each (declarations_of (classes_in sources)) (numbered (units_of sources)) declared stands in
      let of_member = from_some (declaration_in (classes_in sources) of_file.0) (numbered of_file.0.1.class.members) declared of_file.2 in
      let source = source-of of_file.0 of_file.1 in
      declaration-made of_file.0.0 of_member.0.0 source.0 source.1 of_member.0.1
      (ap (λ (unit : Source). slice_get unit.class.members of_member.0.0) source.2
      ∙ from_numbered of_file.0.1.class.members of_member.0 of_member.1)
      declared (ap (λ (unit : Source). declaration_in (classes_in sources) (of_file.0.0, unit) of_member.0) source.2 ∙ of_member.2)

pub rows_viewed : RowsViewed
rows_viewed = record { fields = field-there; declarations = declaration-there }
