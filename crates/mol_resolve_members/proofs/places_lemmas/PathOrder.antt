-- What a stable sort by paths makes of the numbers of files.
use Rattle.std.proofs.Common.{◌≡◌, ℕ, suc, ◌+◌, Bool, true, false, cond, if◌then◌else◌, List, [], ◌∷◌, map, length, filter, refl, sym, ◌∙◌, ap, Contains, slice_get}
use Rattle.std.specs.Cmp.{IsStrictWeakOrder}
use Rattle.std.specs.List.{enumerate_from, range_with_len}
use Rattle.std.specs.List.Sorted.{IsSortedBy, IsStableBy, ties}
use Rattle.std.specs.Option.{option_map_or}
use Rattle.std.specs.Ordering.{is_lt}
use Rattle.std.proofs.lemmas.Cmp.{nat_list_cmp_total}
use Rattle.std.proofs.lemmas.List.Sorted.{ranks_by}
use Rattle.jav_names.specs.UnitViews.{numbered}
use Rattle.jav_scope.specs.declared.source.SourceUnit.{SourceUnit}
use Rattle.mol_resolve_rules.specs.Files.{File}
use Rattle.mol_resolve_rules.specs.Numbering.{below, path_cmp, put_by_path, by_path}
use Rattle.mol_resolve_rules.proofs.Stands.{from_numbered}
use Rattle.mol_resolve_members.specs.sources.Sources.{files_of}
use Rattle.mol_resolve_members.proofs.sources_lemmas.Sourced.{source-there}
use Rattle.mol_resolve_members.specs.places.Orders.{path_at, numbers_by_path}
use Rattle.mol_resolve_members.proofs.places_lemmas.StableOrder.{AllOf, all-more, all-each, Rises, tied, exchanged, sorted-rises, same-list}

abbrev numbers : List (ℕ × File) → List ℕ
numbers files = map (λ (file : ℕ × File). file.0) files

-- numbers of what is numbered
numbers-from : {X : Type 0} (n : ℕ) (xs : List X) → map (λ (x : ℕ × X). x.0) (enumerate_from n xs) ≡ range_with_len n (length xs)
numbers-from n [] = refl
numbers-from n (x ∷ xs) = ap (λ ks. n ∷ ks) (numbers-from (n + 1) xs)

-- what all of these are, one more among them is
all-put : (P : ℕ × File → Type 0) (file : ℕ × File) (files : List (ℕ × File)) → P file → AllOf P files → AllOf P (put_by_path file files)
all-put P file [] is all = (is, tt)
all-put P file (next ∷ rest) is all = by (is_lt (path_cmp next.1.path file.1.path)) (all-put P file rest is all.1) where
  by : (b : Bool) → AllOf P (put_by_path file rest) → AllOf P (if b then next ∷ put_by_path file rest else file ∷ next ∷ rest)
  by true more = (all.0, more)
  by false more = (is, all)

pub all-sorted : (P : ℕ × File → Type 0) (files : List (ℕ × File)) → AllOf P files → AllOf P (by_path files)
all-sorted P [] all = tt
all-sorted P (file ∷ files) all = all-put P file (by_path files) all.0 (all-sorted P files all.1)

number-put : (P : ℕ → Type 0) (file : ℕ × File) (files : List (ℕ × File)) → P file.0 → AllOf P (numbers files)
    → AllOf P (numbers (put_by_path file files))
number-put P file [] is all = (is, tt)
number-put P file (next ∷ rest) is all = by (is_lt (path_cmp next.1.path file.1.path)) (number-put P file rest is all.1) where
  by : (b : Bool) → AllOf P (numbers (put_by_path file rest))
      → AllOf P (numbers (if b then next ∷ put_by_path file rest else file ∷ next ∷ rest))
  by true more = (all.0, more)
  by false more = (is, all)

pub length-files : (sources : List SourceUnit) → length (files_of sources) ≡ length sources
length-files [] = refl
length-files (source ∷ rest) = ap (λ n. suc n) (length-files rest)

module _ (sources : List SourceUnit) where
  abbrev pub before : ℕ → ℕ → Bool
  before first second = is_lt (path_cmp (path_at sources first) (path_at sources second))

  order : IsStrictWeakOrder before
  order = ranks_by nat_list_cmp_total (path_at sources)

  -- its path is that of its number
  abbrev IsAt : ℕ × File → Type 0
  IsAt file = path_at sources file.0 ≡ file.1.path

  test-is : (first second : ℕ × File) → IsAt first → IsAt second
      → before first.0 second.0 ≡ is_lt (path_cmp first.1.path second.1.path)
  test-is first second is_first is_second = λ i. is_lt (path_cmp (is_first i) (is_second i))

  -- ---- one more file

  put-tied : (z : ℕ) (file : ℕ × File) (files : List (ℕ × File)) → IsAt file → AllOf IsAt files
      → tied before z (numbers (put_by_path file files)) ≡ tied before z (file.0 ∷ numbers files)
  put-tied z file [] is all = refl
  put-tied z file (next ∷ rest) is all = by (is_lt (path_cmp next.1.path file.1.path)) refl (put-tied z file rest is all.1) where
    by : (b : Bool) → is_lt (path_cmp next.1.path file.1.path) ≡ b
        → tied before z (numbers (put_by_path file rest)) ≡ tied before z (file.0 ∷ numbers rest)
        → tied before z (numbers (if b then next ∷ put_by_path file rest else file ∷ next ∷ rest))
        ≡ tied before z (file.0 ∷ next.0 ∷ numbers rest)
    by true less more =
        ap (λ ks. cond (ties before z next.0) (next.0 ∷ ks) ks) more
        ∙ exchanged before order z file.0 next.0 (numbers rest) (test-is next file all.0 is ∙ less)
    by false not_less more = refl

  put-rises : (file : ℕ × File) (files : List (ℕ × File)) → IsAt file → AllOf IsAt files → Rises before (numbers files)
      → Rises before (numbers (put_by_path file files))
  put-rises file [] is all up = (tt, tt)
  put-rises file (next ∷ rest) is all up = by (is_lt (path_cmp next.1.path file.1.path)) refl (put-rises file rest is all.1 up.1) where
    by : (b : Bool) → is_lt (path_cmp next.1.path file.1.path) ≡ b → Rises before (numbers (put_by_path file rest))
        → Rises before (numbers (if b then next ∷ put_by_path file rest else file ∷ next ∷ rest))
    by true less more = (
      number-put (λ k. before k next.0 ≡ false) file rest (order.one_way next.0 file.0 (test-is next file all.0 is ∙ less)) up.0,
      more,
    )
    by false not_less more =
        let from : before next.0 file.0 ≡ false = test-is next file all.0 is ∙ not_less in
        ((from, all-more (λ k not_next. order.chain k next.0 file.0 not_next from) (numbers rest) up.0), up)

  -- ---- all of them

  sorted-tied : (z : ℕ) (files : List (ℕ × File)) → AllOf IsAt files
      → tied before z (numbers (by_path files)) ≡ tied before z (numbers files)
  sorted-tied z [] all = refl
  sorted-tied z (file ∷ files) all =
      put-tied z file (by_path files) all.0 (all-sorted IsAt files all.1)
      ∙ ap (λ ks. cond (ties before z file.0) (file.0 ∷ ks) ks) (sorted-tied z files all.1)

  sorted-up : (files : List (ℕ × File)) → AllOf IsAt files → Rises before (numbers (by_path files))
  sorted-up [] all = tt
  sorted-up (file ∷ files) all = put-rises file (by_path files) all.0 (all-sorted IsAt files all.1) (sorted-up files all.1)

  each-at : AllOf IsAt (numbered (files_of sources))
  each-at = all-each IsAt (numbered (files_of sources)) (λ file there.
      let known = source-there sources file.0 file.1 (from_numbered (files_of sources) file there) in
      ap (λ found. option_map_or (λ (source : SourceUnit). source.path) found []) known.1 ∙ ap (λ (file : File). file.path) known.2)

  pub ordered : (order_now given : List ℕ) → given ≡ below (length sources) → IsSortedBy before order_now
      → IsStableBy before given order_now
      → order_now ≡ numbers_by_path sources
  ordered order_now given are up stable =
      same-list before order order_now (numbers (by_path (numbered (files_of sources)))) (sorted-rises before order order_now up)
      (sorted-up (numbered (files_of sources)) each-at)
      (λ z. stable z ∙ ap (tied before z) are
      ∙ sym (sorted-tied z (numbered (files_of sources)) each-at
      ∙ ap (tied before z) (numbers-from 0 (files_of sources) ∙ ap (range_with_len 0) (length-files sources))))
