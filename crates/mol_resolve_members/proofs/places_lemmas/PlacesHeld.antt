-- What the places of files and the counts of members before them hold.
use Rattle.std.proofs.Common.{◌≡◌, ℕ, ◌+◌, ◌<◌, ◌^◌, List, length, take, sum_by, get_or, Some, slice_get, ◌∙◌, ap, arith}
use Rattle.std.specs.List.{position_or_len}
use Rattle.std.proofs.lemmas.List.FromFn.{get_or-map-range_with_len, length-map-range_with_len}
use Rattle.jav_scope.specs.declared.source.SourceUnit.{SourceUnit}
use Rattle.mol_resolve_rules.specs.Numbering.{keys_in_order, same_key}
use Rattle.mol_resolve_members.specs.sources.Sources.{files_of}
use Rattle.mol_resolve_members.specs.places.Counts.{ArePlaces, members_at}
use Rattle.mol_resolve_members.specs.places.Orders.{numbers_by_path, position}
use Rattle.mol_resolve_members.proofs.places_lemmas.FilesInOrder.{order-length, place-within, member-place, members-fit}

module _ (sources : List SourceUnit) (files before : List ℕ) (are : ArePlaces sources files before) where
  abbrev order : List ℕ
  order = numbers_by_path sources

  pub files-length : length files ≡ length sources
  files-length = ap length are.placed ∙ length-map-range_with_len (position order) 0 (length order) ∙ order-length sources

  pub file-place : (unit d : ℕ) → unit < length sources → get_or files unit d ≡ position order unit
  file-place unit d inside =
      ap (λ (places : List ℕ). get_or places unit d) are.placed
      ∙ get_or-map-range_with_len (position order) 0 (length order) unit unit d (omega (arith, inside, order-length sources)) (omega arith)

  abbrev count-place : ℕ → ℕ
  count-place place = sum_by (members_at sources) (take place order)

  before-length : length before ≡ length order + 1
  before-length = ap length are.counted ∙ length-map-range_with_len count-place 0 (length order + 1)

  module _ (unit : ℕ) (source : SourceUnit) (at : slice_get sources unit ≡ Some source) (place : ℕ) (is : place ≡ position order unit) where
    pub place-inside : place < length before
    place-inside = omega (arith, is, place-within sources unit source at, before-length)

    count-there : (d : ℕ) → get_or before place d ≡ sum_by (members_at sources) (take (position order unit) order)
    count-there d =
        ap (λ (counts : List ℕ). get_or counts place d) are.counted
        ∙ get_or-map-range_with_len count-place 0 (length order + 1) place (position order unit) d
        (omega (arith, is, place-within sources unit source at)) (omega (arith, is))

    module _ (member count : ℕ) (below : member < length source.unit.class.members) (read : count ≡ get_or before place count) where
      count-is : count ≡ sum_by (members_at sources) (take (position order unit) order)
      count-is = read ∙ count-there count

      pub place-fits : count + member < 2 ^ 32
      place-fits = omega (arith, count-is, members-fit sources unit source at member below, are.fits)

      pub place-is : count + member
          ≡ position_or_len (same_key (record { unit = unit; member = member })) (keys_in_order (files_of sources))
      place-is = ap (λ n. n + member) count-is ∙ member-place sources unit source at member below
