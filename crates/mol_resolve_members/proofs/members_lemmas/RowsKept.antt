-- The rows of members, and of the files that they stand in, are those of the definitions.
use Rattle.std.proofs.Common.{◌≡◌, ℕ, ◌+◌, ◌<◌, Bool, List, Some, map, length, get_or, option_map, slice_get, refl, sym, ◌∙◌, ap, arith}
use Rattle.std.specs.Global.{Vec}
use Rattle.std.specs.Option.{option_and_then}
use Rattle.std.proofs.lemmas.List.{length-map, get_or-map}
use Rattle.std.proofs.lemmas.List.FromFn.{get_or-enumerate_from, length-enumerate_from}
use Rattle.std.proofs.lemmas.Option.{get_or_from_slice_get, slice_get-map, slice_get_read, slice_get_within}
use Rattle.jav_tree.specs.declared.types.TypeName.{TypeName}
use Rattle.jav_tree.specs.declared.unit.Member.{Member}
use Rattle.jav_tree.specs.declared.unit.Member.TheVariants as member
use Rattle.jav_names.specs.TypeTexts.{type_in}
use Rattle.jav_names.specs.UnitViews.{classes_of, header_of, numbered}
use Rattle.jav_names.specs.Views.{ViewType}
use Rattle.jav_scope.specs.declared.source.SourceUnit.{SourceUnit}
use Rattle.mol_resolve_rules.specs.Files.{params_of, place_of_member, type_of_file}
use Rattle.mol_resolve_rules.specs.MemberFaults.{Row, row_of}
use Rattle.mol_resolve_members.specs.sources.Sources.{file_of, files_of}
use Rattle.mol_resolve_members.proofs.sources_lemmas.Sourced.{sources_viewed}
use Rattle.mol_resolve_members.specs.members.Rows.{is_static_member, kept_row, kind_of, name_of, type_at, type_of_member, types_of_params}
use Rattle.mol_resolve_members.specs.members.Tables.{AreKept, row_at, rows_at}
use Rattle.mol_resolve_members.specs.declared.members.member_row.MemberRow.{MemberRow}

-- the row of a member, from its parts
abbrev row_with : ℕ → ℕ → Member → Bool → ViewType ℕ → List (ViewType ℕ) → Row ℕ
row_with unit place kept is_static type params = record {
  owner = unit;
  place = place;
  at = place_of_member kept;
  kind = kind_of kept;
  name = name_of kept;
  is_static = is_static;
  params = params;
  type = type;
}

pub row-made : (see : TypeName → ViewType ℕ) (unit place : ℕ) (kept : Member)
    (is_static : Bool) (type : ViewType ℕ) (params : List (ViewType ℕ))
    → is_static ≡ is_static_member kept → type ≡ type_of_member see kept → params ≡ types_of_params see (params_of kept)
    → row_with unit place kept is_static type params ≡ row_of see unit (place, kept)
row-made see unit place kept is_static type params static typed with_params =
    (λ i. row_with unit place kept (static i) (typed i) (with_params i)) ∙ by kept where
      by : (m : Member) → row_with unit place m (is_static_member m) (type_of_member see m) (types_of_params see (params_of m))
          ≡ row_of see unit (place, m)
      by (member.Field field) = refl
      by (member.Method method) = refl
      by (member.Ctor constructor) = refl

pub rows-made : (sources : List SourceUnit) (unit : ℕ) (source : SourceUnit)
    → map (row_of (type_at sources unit source) unit) (numbered source.unit.class.members) ≡ rows_at sources (unit, source)
rows-made sources unit source =
    sym (ap (λ units. map (row_of (type_in (classes_of units) (header_of (unit, source.unit))) unit) (numbered source.unit.class.members))
    (sources_viewed.same_units sources))

-- ---- of all files

abbrev kept_rows : Vec MemberRow → List (Row ℕ)
kept_rows file_rows = map kept_row file_rows.items

module _ (sources : List SourceUnit) (rows : List (Vec MemberRow)) (are : AreKept sources rows) where
  pub as_many : length rows ≡ length sources
  as_many = sym (length-map rows kept_rows) ∙ ap length are ∙ length-map (numbered sources) (rows_at sources)
      ∙ length-enumerate_from 0 sources

  module _ (unit : ℕ) (source : SourceUnit) (at : slice_get sources unit ≡ Some source) where
    inside : unit < length sources
    inside = slice_get_within sources unit source at

    numbered-there : get_or (numbered sources) unit (unit, source) ≡ (unit, source)
    numbered-there = get_or-enumerate_from 0 sources unit (unit, source) inside
        ∙ (λ i. ((let e : 0 + unit ≡ unit = omega arith in e) i, get_or_from_slice_get sources unit source source at i))

    pub rows-there : (file_rows : Vec MemberRow) → file_rows ≡ get_or rows unit file_rows
        → map kept_row file_rows.items ≡ rows_at sources (unit, source)
    rows-there file_rows is =
        ap kept_rows is ∙ sym (get_or-map kept_rows rows unit file_rows (kept_rows file_rows) (omega (arith, inside, as_many)))
        ∙ ap (λ (all : List (List (Row ℕ))). get_or all unit (kept_rows file_rows)) are
        ∙ get_or-map (rows_at sources) (numbered sources) unit (unit, source) (kept_rows file_rows)
        (omega (arith, inside, length-enumerate_from 0 sources))
        ∙ ap (rows_at sources) numbered-there

-- ---- of one file

module _ (sources : List SourceUnit) (unit : ℕ) (source : SourceUnit) (at : slice_get sources unit ≡ Some source)
    (kept : List MemberRow) (are : map kept_row kept ≡ rows_at sources (unit, source)) where
  pub rows-counted : length kept ≡ length source.unit.class.members
  rows-counted =
      sym (length-map kept kept_row) ∙ ap length are
      ∙ length-map (numbered source.unit.class.members) (row_of (type_of_file (files_of sources) (unit, file_of source)) unit)
      ∙ length-enumerate_from 0 source.unit.class.members

  pub row-there : (place : ℕ) (row : MemberRow) → place < length kept → row ≡ get_or kept place row
      → Some (kept_row row) ≡ row_at sources (record { unit = unit; member = place })
  row-there place row within read =
      sym (ap (option_and_then (λ (source : SourceUnit). slice_get (rows_at sources (unit, source)) place)) at
      ∙ ap (λ (all : List (Row ℕ)). slice_get all place) (sym are) ∙ slice_get-map kept_row kept place
      ∙ ap (option_map kept_row) (slice_get_read kept (length kept) place row refl within read))
