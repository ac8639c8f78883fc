-- Paths that ascend are apart.
use Rattle.std.proofs.Common.{◌≡◌, ℕ, zero, suc, ◌<◌, Bool, List, [], ◌∷◌, option_map, Some, slice_get, length, get_or, sym, ◌∙◌, ap, subst, arith}
use Rattle.std.specs.Prelude.{filter}
use Rattle.std.specs.Cmp.Lexicographic.{slice_cmp}
use Rattle.std.specs.List.Sorted.{IsStrictlySortedBy}
use Rattle.std.specs.Ordering.{nat_cmp}
use Rattle.std.specs.declared.cmp.Ordering.TheVariants.{Less}
use Rattle.std.proofs.lemmas.Cmp.{nat_list_cmp_total, tied_itself}
use Rattle.std.proofs.lemmas.List.Kept.{IsStrictlySortedBy-filter}
use Rattle.std.proofs.lemmas.Map.Keys.{Less-from_sorted}
use Rattle.std.proofs.lemmas.Option.{get_or_from_slice_get, slice_get-map, slice_get_within}
use Rattle.mol_base.specs.declared.file.File.{File}
use Rattle.mol_base.specs.Files.{ArePathsApart, FilePair, file_pairs, file_paths}

module _ (paths : List (List ℕ)) (sorted : IsStrictlySortedBy (slice_cmp nat_cmp) paths) where
  -- a path is not before itself
  not_before : (path : List ℕ) (i j : ℕ) → slice_get paths i ≡ Some path → slice_get paths j ≡ Some path → i < j → ⊥
  not_before path i j at also below =
      let less = Less-from_sorted (slice_cmp nat_cmp) paths i j [] sorted below (slice_get_within paths j path also) in
      let same : slice_cmp nat_cmp path path ≡ Less = rw (get_or_from_slice_get paths i path [] at, get_or_from_slice_get paths j path [] also) at less in
      let tied = tied_itself nat_list_cmp_total path in
      cc

  one_place : (path : List ℕ) (i j : ℕ) → slice_get paths i ≡ Some path → slice_get paths j ≡ Some path → i ≡ j
  one_place path i j at also = omega (arith, not_before path i j at also, not_before path j i also at)

-- the path of a file
path_at : (files : List File) (i : ℕ) (file : FilePair) → slice_get (file_pairs files) i ≡ Some file → slice_get (file_paths files) i ≡ Some file.0
path_at [] i file at = absurd cc
path_at (f ∷ files) zero file at = ap (option_map (λ (file : FilePair). file.0)) at
path_at (f ∷ files) (suc i) file at = path_at files i file at

-- files at those of the paths of a listing that pass a test
pub paths_apart : (listed : List (List ℕ)) (test : List ℕ → Bool) (read : List File) → IsStrictlySortedBy (slice_cmp nat_cmp) listed
    → file_paths read ≡ filter test listed → ArePathsApart (file_pairs read)
paths_apart listed test read ascend is i j file other at also same =
    let sorted = subst (IsStrictlySortedBy (slice_cmp nat_cmp)) (sym is) (IsStrictlySortedBy-filter (slice_cmp nat_cmp) test listed ascend) in
    one_place (file_paths read) sorted file.0 i j (path_at read i file at) (path_at read j other also ∙ ap Some (sym same))
