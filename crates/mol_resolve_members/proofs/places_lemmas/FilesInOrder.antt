-- What the order of paths is for source files: each stands in it once, at its place, and so do their members.
use Rattle.std.proofs.Common.{◌≡◌, ℕ, zero, suc, ◌+◌, ◌<◌, ◌≤◌, ◌==◌, Bool, true, false, if◌then◌else◌, List, [], ◌∷◌, All, map, length, take, sum_by, get_or, Contains, Some, slice_get, refl, sym, ◌∙◌, ap, subst, arith, eqb-true, eq-eqb}
use Rattle.std.specs.List.{position_or_len}
use Rattle.std.specs.Option.{option_map_or}
use Rattle.std.specs.Ordering.{is_lt}
use Rattle.std.proofs.lemmas.List.{length-map}
use Rattle.std.proofs.lemmas.List.FromFn.{length-enumerate_from}
use Rattle.std.proofs.lemmas.List.Sums.{passes_at_first, sum_by_more_le}
use Rattle.std.proofs.lemmas.Option.{slice_get_within}
use Rattle.jav_names.specs.UnitViews.{numbered}
use Rattle.jav_names.proofs.Lists.{stands-mapped}
use Rattle.jav_scope.specs.declared.source.SourceUnit.{SourceUnit}
use Rattle.mol_resolve_rules.specs.Files.{File}
use Rattle.mol_resolve_rules.specs.Numbering.{path_cmp, put_by_path, by_path, keys_in_order, same_key}
use Rattle.mol_resolve_rules.proofs.Stands.{from_numbered, in_numbered}
use Rattle.mol_resolve_members.specs.sources.Sources.{file_of, files_of}
use Rattle.mol_resolve_members.proofs.sources_lemmas.Sourced.{file-there, source-there}
use Rattle.mol_resolve_members.specs.places.Counts.{members_at}
use Rattle.mol_resolve_members.specs.places.Orders.{numbers_by_path, position}
use Rattle.mol_resolve_members.proofs.places_lemmas.MemberPlaces.{IsCounted, place-in_order}
use Rattle.mol_resolve_members.proofs.places_lemmas.OrderPlaces.{by_path-stands, position-inside}
use Rattle.mol_resolve_members.proofs.places_lemmas.PathOrder.{all-sorted, length-files}
use Rattle.mol_resolve_members.proofs.places_lemmas.StableOrder.{AllOf, all-each}

all-get : (P : ℕ → Type 0) (files : List (ℕ × File)) → AllOf (λ file. P file.0) files → (k d : ℕ)
    → k < length (map (λ (file : ℕ × File). file.0) files) → P (get_or (map (λ (file : ℕ × File). file.0) files) k d)
all-get P [] all k d below = absurd (omega (arith, below))
all-get P (file ∷ files) all zero d below = all.0
all-get P (file ∷ files) all (suc k) d below = all-get P files all.1 k d (omega (arith, below))

put-length : (file : ℕ × File) (files : List (ℕ × File)) → length (put_by_path file files) ≡ suc (length files)
put-length file [] = refl
put-length file (next ∷ rest) = by (is_lt (path_cmp next.1.path file.1.path)) (put-length file rest) where
  by : (b : Bool) → length (put_by_path file rest) ≡ suc (length rest)
      → length (if b then next ∷ put_by_path file rest else file ∷ next ∷ rest) ≡ suc (suc (length rest))
  by true more = ap (λ n. suc n) more
  by false more = refl

sorted-length : (files : List (ℕ × File)) → length (by_path files) ≡ length files
sorted-length [] = refl
sorted-length (file ∷ files) = put-length file (by_path files) ∙ ap (λ n. suc n) (sorted-length files)

module _ (sources : List SourceUnit) where
  abbrev order : List ℕ
  order = numbers_by_path sources

  abbrev in_files : List (ℕ × File)
  in_files = numbered (files_of sources)

  pub order-length : length order ≡ length sources
  order-length = length-map (by_path in_files) (λ (file : ℕ × File). file.0) ∙ sorted-length in_files
      ∙ length-enumerate_from 0 (files_of sources) ∙ length-files sources

  pub order-within : All (λ number. number < length order) order
  order-within = all-get (λ number. number < length order) (by_path in_files) (all-sorted (λ file. file.0 < length order) in_files
      (all-each (λ file. file.0 < length order) in_files (λ file there. omega (
        arith,
        slice_get_within (files_of sources) file.0 file.1 (from_numbered (files_of sources) file there),
        length-files sources,
        order-length,
      ))))

  counted : AllOf (IsCounted (members_at sources)) (by_path in_files)
  counted = all-sorted (IsCounted (members_at sources)) in_files (all-each (IsCounted (members_at sources)) in_files (λ file there.
      let known = source-there sources file.0 file.1 (from_numbered (files_of sources) file there) in
      ap (λ found. option_map_or (λ (source : SourceUnit). length source.unit.class.members) found 0) known.1
      ∙ ap (λ (file : File). length file.unit.class.members) known.2))

  module _ (unit : ℕ) (source : SourceUnit) (at : slice_get sources unit ≡ Some source) where
    stands : Contains order unit
    stands = stands-mapped (λ (file : ℕ × File). file.0) (by_path in_files) (unit, file_of source)
        (by_path-stands in_files (unit, file_of source)
        (in_numbered (files_of sources) unit (file_of source) (file-there sources unit source at)))

    pub place-within : position order unit < length order
    place-within = position-inside (λ number. unit == number) order unit stands (eq-eqb unit unit refl)

    at_place : get_or order (position order unit) 0 ≡ unit
    at_place = sym (eqb-true unit (get_or order (position order unit) 0) (passes_at_first (λ number. unit == number) order 0 place-within))

    members-counted : members_at sources unit ≡ length source.unit.class.members
    members-counted = ap (λ found. option_map_or (λ (source : SourceUnit). length source.unit.class.members) found 0) at

    module _ (member : ℕ) (below : member < length source.unit.class.members) where
      pub member-place : sum_by (members_at sources) (take (position order unit) order) + member
          ≡ position_or_len (same_key (record { unit = unit; member = member })) (keys_in_order (files_of sources))
      member-place = sym (place-in_order (members_at sources) (by_path in_files) counted unit member stands
          (omega (arith, below, members-counted)))

      pub members-fit : sum_by (members_at sources) (take (position order unit) order) + member < sum_by (members_at sources) order
      members-fit = omega (
        arith,
        below,
        members-counted,
        ap (members_at sources) at_place,
        sum_by_more_le (members_at sources) order (position order unit) 0 place-within,
      )
