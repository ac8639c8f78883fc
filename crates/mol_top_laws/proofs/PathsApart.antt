-- The files of a base have paths apart.
use Rattle.std.proofs.Common.{◌≡◌, ℕ, zero, suc, ◌<◌, List, [], ◌∷◌, option_map, Some, slice_get, sym, ◌∙◌, ap, arith}
use Rattle.std.specs.Cmp.Lexicographic.{slice_cmp}
use Rattle.std.specs.FinMap.{entries, entries_sorted}
use Rattle.std.specs.List.Sorted.{IsStrictlySortedBy}
use Rattle.std.specs.Ordering.{nat_cmp}
use Rattle.std.specs.declared.cmp.Ordering.TheVariants.{Less}
use Rattle.std.proofs.lemmas.Cmp.{nat_list_cmp_total, tied_itself}
use Rattle.std.proofs.lemmas.List.Kept.{IsStrictlySortedBy-filter}
use Rattle.std.proofs.lemmas.Map.Keys.{Less-from_sorted}
use Rattle.std.proofs.lemmas.Option.{get_or_from_slice_get, slice_get_within}
use Rattle.mol_base.specs.Files.{ArePathsApart, FilePair}
use Rattle.mol_outside.proofs.Storing.{below_sorted}
use Rattle.mol_outside.specs.Contents.{Contents, paths_below}
use Rattle.mol_top.specs.Files.{base_files, base_paths, files_at, is_java}

module _ (paths : List (List ℕ)) (sorted : IsStrictlySortedBy (slice_cmp nat_cmp) paths) where
  -- a path is not before itself
  not_before : (path : List ℕ) (i j : ℕ) → slice_get paths i ≡ Some path → slice_get paths j ≡ Some path → i < j → ⊥
  not_before path i j at also below =
      let less = Less-from_sorted (slice_cmp nat_cmp) paths i j [] sorted below (slice_get_within paths j path also) in
      let same : slice_cmp nat_cmp path path ≡ Less =
      rw (get_or_from_slice_get paths i path [] at, get_or_from_slice_get paths j path [] also) at less in
      let tied = tied_itself nat_list_cmp_total path in
      cc

  one_place : (path : List ℕ) (i j : ℕ) → slice_get paths i ≡ Some path → slice_get paths j ≡ Some path → i ≡ j
  one_place path i j at also = omega (arith, not_before path i j at also, not_before path j i also at)

listed_at : (folder : List ℕ) (held : Contents) (paths : List (List ℕ)) (i : ℕ) (file : FilePair)
    → slice_get (files_at folder held paths) i ≡ Some file → slice_get paths i ≡ Some file.0
listed_at folder held [] i file at = absurd cc
listed_at folder held (p ∷ paths) zero file at = ap (option_map (λ (file : FilePair). file.0)) at
listed_at folder held (p ∷ paths) (suc i) file at = listed_at folder held paths i file at

pub base_apart : (base : List ℕ) (held : Contents) → ArePathsApart (base_files base held)
base_apart base held i j file other at also same =
    let below = below_sorted base (entries held) (entries_sorted held) in
    let sorted = IsStrictlySortedBy-filter (slice_cmp nat_cmp) is_java (paths_below base held) below in
    one_place (base_paths base held) sorted file.0 i j (listed_at base held (base_paths base held) i file at)
    (listed_at base held (base_paths base held) j other also ∙ ap Some (sym same))
