-- Files by path, as a map.
use Rattle.std.proofs.Common.{◌≡◌, ◌≢◌, ℕ, zero, suc, ◌+◌, ◌-◌, ◌<◌, ◌≤◌, List, [], ◌∷◌, ◌++◌, length, get_or, take, drop, map, Option, Bool, true, false, cond, sym, ◌∙◌, ap, refl, subst, arith, length-append, length-drop, sum_by, IsUtf8}
use Rattle.std.specs.Prelude.{None, Some, slice_get, T, ◌==◌, IfSome}
use Rattle.std.specs.Ordering.{nat_cmp, eq_by_cmp, is_lt}
use Rattle.std.specs.declared.cmp.Ordering.TheVariants.{Less, Equal, Greater}
use Rattle.std.specs.Cmp.Lexicographic.{slice_cmp, nat_list_cmp_total}
use Rattle.std.specs.FinMap.{put, find, get, insert, remove, get-insert, get-remove, same_map, same_entries_map, nat_cmp-IsAntisymmetric, slice_cmp-IsAntisymmetric, from_entries, from_sorted, keys, values, len, len-entries, empty, empty_of_len, entries-from_sorted, entries-insert}
use Rattle.std.specs.FinMap.Entries.{below_all, by_order, is_sorted-put}
use Rattle.std.specs.Cmp.{tied_itself, nat_cmp_total}
use Rattle.std.proofs.lemmas.Bool.Decides.{nat_tests}
use Rattle.std.proofs.lemmas.Option.{same_Some, none-some}
use Rattle.std.proofs.Math.Seq.{drop-cons}
use Rattle.std.proofs.lemmas.List.Sums.{sum_by-cons}
use Rattle.std.proofs.lemmas.Str.{IsUtf8-drop, IsCharBoundary-after_ascii}
use Rattle.std.specs.List.{filter_map, cons_option, AllByRecursion}
use Rattle.std.specs.Option.{option_to_list}
use Rattle.std.specs.List.Sorted.{IsStrictlySortedBy}
use Rattle.mol_base.specs.declared.file.File.{File}
use Rattle.mol_outside.specs.declared.span.Span.{Span}
use Rattle.mol_outside.specs.Contents.{Contents, path_below}
use Rattle.mol_outside.specs.Memory.{FilesState, entry_of, new_files}
use Rattle.mol_outside.specs.Stored.{StoredFile, Ascend, ComeBefore, HaveTexts, all_stored, filled, size_of, with_files}
use Rattle.mol_outside.proofs.Placing.{and_first, and_second, lt_less}

-- a put among the files is an insert into the map
pub contents-put : (files : List StoredFile) (path bytes : List ℕ) → Ascend files → from_sorted {R = slice_cmp nat_cmp} (put (slice_cmp nat_cmp) path bytes files) ≡ insert (from_sorted files) path bytes
contents-put files path bytes h =
    same_entries_map _ _ (entries-from_sorted (slice_cmp nat_cmp) _ (is_sorted-put (slice_cmp nat_cmp) nat_list_cmp_total path bytes files h)
    ∙ sym (entries-insert nat_list_cmp_total (from_sorted files) path bytes ∙ ap (put (slice_cmp nat_cmp) path bytes) (entries-from_sorted (slice_cmp nat_cmp) files h)))

hidden : {A : Type 0} (b : Bool) (x y z : A) → cond b x (cond b y z) ≡ cond b x z
hidden true x y z = refl
hidden false x y z = refl

-- an insert changes no other path
pub remove-insert : (files : Contents) (path bytes : List ℕ) → remove (insert files path bytes) path ≡ remove files path
remove-insert files path bytes =
    same_map nat_list_cmp_total (slice_cmp-IsAntisymmetric nat_cmp-IsAntisymmetric) _ _ (λ q.
    get-remove nat_list_cmp_total (insert files path bytes) path q
    ∙ ap (cond (eq_by_cmp (slice_cmp nat_cmp) q path) None) (get-insert nat_list_cmp_total files path bytes q)
    ∙ hidden (eq_by_cmp (slice_cmp nat_cmp) q path) None (Some bytes) (get files q)
    ∙ sym (get-remove nat_list_cmp_total files path q))

module _ (path : List ℕ) where
  pub find_found : (files : List StoredFile) (i : ℕ) (f : StoredFile) → ComeBefore path (take i files) → slice_get files i ≡ Some f → slice_cmp nat_cmp path f.0 ≡ Equal
      → find (slice_cmp nat_cmp) path files ≡ Some f.1
  find_found [] i f before at equal = absurd cc
  find_found (x ∷ xs) zero f before at equal =
      let e = same_Some x f at in
      rw (ap (λ (g : StoredFile). slice_cmp nat_cmp path g.0) e ∙ equal) (ap (λ (g : StoredFile). Some g.1) e)
  find_found (x ∷ xs) (suc i) f before at equal = rw before.0 (find_found xs i f before.1 at equal)

  find_none : (q : List ℕ) (files : List StoredFile) → slice_cmp nat_cmp path q ≡ Less → T (below_all (slice_cmp nat_cmp) q files) → find (slice_cmp nat_cmp) path files ≡ None
  find_none q [] less h = refl
  find_none q (x ∷ xs) less h =
      rw (nat_list_cmp_total.trans path q x.0 less (lt_less _ (and_first (is_lt (slice_cmp nat_cmp q x.0)) _ h))) (find_none q xs less (and_second (is_lt (slice_cmp nat_cmp q x.0)) _ h))

  pub find_absent : (files : List StoredFile) (i : ℕ) → Ascend files → i ≤ length files → ComeBefore path (take i files) → IfSome (slice_get files i) (λ f. slice_cmp nat_cmp path f.0 ≡ Less)
      → find (slice_cmp nat_cmp) path files ≡ None
  find_absent [] i h low before less = refl
  find_absent (x ∷ xs) zero h low before less = rw less (find_none x.0 xs less (and_first (below_all (slice_cmp nat_cmp) x.0 xs) _ h))
  find_absent (x ∷ xs) (suc i) h low before less = rw before.0 (find_absent xs i (and_second (below_all (slice_cmp nat_cmp) x.0 xs) _ h) (omega arith) before.1 less)

-- # What the map has

pub keys_sorted : (files : List StoredFile) → Ascend files → keys (from_sorted {R = slice_cmp nat_cmp} files) ≡ map (λ (f : StoredFile). f.0) files
keys_sorted files h = ap (map (λ (f : StoredFile). f.0)) (entries-from_sorted (slice_cmp nat_cmp) files h)

pub values_sorted : (files : List StoredFile) → Ascend files → values (from_sorted {R = slice_cmp nat_cmp} files) ≡ map (λ (f : StoredFile). f.1) files
values_sorted files h = ap (map (λ (f : StoredFile). f.1)) (entries-from_sorted (slice_cmp nat_cmp) files h)

pub len_sorted : (files : List StoredFile) → Ascend files → len (from_sorted {R = slice_cmp nat_cmp} files) ≡ length files
len_sorted files h = len-entries (from_sorted files) ∙ ap length (entries-from_sorted (slice_cmp nat_cmp) files h)

-- # Paths that are texts

pub texts-put : (path bytes : List ℕ) (files : List StoredFile) → IsUtf8 path → HaveTexts files → HaveTexts (put (slice_cmp nat_cmp) path bytes files)
texts-put path bytes [] text h = (text, tt)
texts-put path bytes (x ∷ xs) text h =
    elim (slice_cmp nat_cmp path x.0) as (λ o. HaveTexts (by_order o ((path, bytes) ∷ x ∷ xs) ((x.0, bytes) ∷ xs) (x ∷ put (slice_cmp nat_cmp) path bytes xs))) [
      | Less ↦ (text, h)
      | Equal ↦ (h.0, h.1)
      | Greater ↦ (h.0, texts-put path bytes xs text h.1)
    ]

pub text_at : (files : List StoredFile) (i : ℕ) (f : StoredFile) → HaveTexts files → slice_get files i ≡ Some f → IsUtf8 f.0
text_at [] i f h at = absurd cc
text_at (x ∷ xs) zero f h at = subst (λ (g : StoredFile). IsUtf8 g.0) (same_Some x f at) h.0
text_at (x ∷ xs) (suc i) f h at = text_at xs i f h.1 at

-- # Paths below a folder

cond_then : {A : Type 0} (b : Bool) (o : Option A) (y : A) → cond b o None ≡ Some y → (b ≡ true) × (o ≡ Some y)
cond_then true o y e = (refl, e)
cond_then false o y e = absurd (none-some y e)

same_first : (c d : ℕ) (p q : List ℕ) → c ≡ d → slice_cmp nat_cmp (c ∷ p) (d ∷ q) ≡ slice_cmp nat_cmp p q
same_first c d p q e = rw (e, tied_itself nat_cmp_total d) refl

same_test : (c d : ℕ) → (c == d) ≡ true → c ≡ d
same_test c d e = grind (arith, nat_tests)

-- a shared folder does not change the order
same_order : (folder p q a b : List ℕ) → path_below folder p ≡ Some a → path_below folder q ≡ Some b → slice_cmp nat_cmp p q ≡ slice_cmp nat_cmp a b
same_order [] [] q a b e f = absurd (none-some a e)
same_order [] (c ∷ p) [] a b e f = absurd (none-some b f)
same_order [] (c ∷ p) (d ∷ q) a b e f =
    let h = cond_then (c == 47) (Some p) a e in
    let k = cond_then (d == 47) (Some q) b f in
    same_first c d p q (same_test c 47 h.0 ∙ sym (same_test d 47 k.0)) ∙ (λ i. slice_cmp nat_cmp (same_Some p a h.1 i) (same_Some q b k.1 i))
same_order (x ∷ folder) [] q a b e f = absurd (none-some a e)
same_order (x ∷ folder) (c ∷ p) [] a b e f = absurd (none-some b f)
same_order (x ∷ folder) (c ∷ p) (d ∷ q) a b e f =
    let h = cond_then (x == c) (path_below folder p) a e in
    let k = cond_then (x == d) (path_below folder q) b f in
    same_first c d p q (sym (same_test x c h.0) ∙ same_test x d k.0) ∙ same_order folder p q a b h.1 k.1

-- one more file
pub below_more : (folder : List ℕ) (files : List StoredFile) (i : ℕ) (f : StoredFile) → slice_get files i ≡ Some f
    → filter_map (path_below folder) (map (λ (f : StoredFile). f.0) (take (suc i) files)) ≡ filter_map (path_below folder) (map (λ (f : StoredFile). f.0) (take i files)) ++ option_to_list (path_below folder f.0)
below_more folder [] i f at = absurd cc
below_more folder (x ∷ xs) zero f at = rw (same_Some x f at) (one (path_below folder f.0)) where
  one : (o : Option (List ℕ)) → cons_option o [] ≡ option_to_list o
  one None = refl
  one (Some y) = refl
below_more folder (x ∷ xs) (suc i) f at = rw (below_more folder xs i f at) (onto (path_below folder x.0) _ _) where
  onto : (o : Option (List ℕ)) (ys zs : List (List ℕ)) → cons_option o (ys ++ zs) ≡ cons_option o ys ++ zs
  onto None ys zs = refl
  onto (Some y) ys zs = refl

-- a path below a folder is the folder, a slash and the rest
split_below : (folder path rest : List ℕ) → path_below folder path ≡ Some rest → path ≡ folder ++ 47 ∷ rest
split_below [] [] rest e = absurd (none-some rest e)
split_below [] (c ∷ path) rest e =
    let h = cond_then (c == 47) (Some path) rest e in
    λ i. same_test c 47 h.0 i ∷ same_Some path rest h.1 i
split_below (f ∷ folder) [] rest e = absurd (none-some rest e)
split_below (f ∷ folder) (c ∷ path) rest e =
    let h = cond_then (f == c) (path_below folder path) rest e in
    λ i. sym (same_test f c h.0) i ∷ split_below folder path rest h.1 i

pub not_below : (folder path : List ℕ) → ((rest : List ℕ) → path ≢ folder ++ rest) → path_below folder path ≡ None
not_below folder path apart = by (path_below folder path) refl where
  by : (o : Option (List ℕ)) → path_below folder path ≡ o → o ≡ None
  by None e = refl
  by (Some rest) e = absurd (apart (47 ∷ rest) (split_below folder path rest e))

same_itself : (c : ℕ) → (c == c) ≡ true
same_itself c = grind (arith, nat_tests)

pub below-append : (folder rest : List ℕ) → path_below folder (folder ++ rest) ≡ path_below [] rest
below-append [] rest = refl
below-append (f ∷ folder) rest = rw (same_itself f) (below-append folder rest)

dropped : (folder rest : List ℕ) → drop (suc (length folder)) (folder ++ 47 ∷ rest) ≡ rest
dropped [] rest = refl
dropped (f ∷ folder) rest = dropped folder rest

slash_at : (folder rest : List ℕ) → get_or (folder ++ 47 ∷ rest) (length folder) 0 ≡ 47
slash_at [] rest = refl
slash_at (f ∷ folder) rest = slash_at folder rest

rest_text : (folder rest : List ℕ) → IsUtf8 (folder ++ 47 ∷ rest) → IsUtf8 rest
rest_text folder rest text =
    let low : length folder < length (folder ++ 47 ∷ rest) = omega (arith, length-append folder (47 ∷ rest)) in
    let past : length folder + 1 ≡ suc (length folder) = omega arith in
    subst IsUtf8 (ap (λ n. drop n (folder ++ 47 ∷ rest)) past ∙ dropped folder rest) (IsUtf8-drop (folder ++ 47 ∷ rest) (length folder + 1) text (IsCharBoundary-after_ascii (folder ++ 47 ∷ rest) (length folder) text low (omega (arith, slash_at folder rest))))

pub text_below : (folder path rest : List ℕ) → path_below folder path ≡ Some rest → IsUtf8 path → IsUtf8 rest
text_below folder path rest e text = rest_text folder rest (subst IsUtf8 (split_below folder path rest e) text)

all_below : (folder k a : List ℕ) (files : List StoredFile) → path_below folder k ≡ Some a → T (below_all (slice_cmp nat_cmp) k files)
    → AllByRecursion (λ y. slice_cmp nat_cmp a y ≡ Less) (filter_map (path_below folder) (map (λ (f : StoredFile). f.0) files))
all_below folder k a [] e h = tt
all_below folder k a (f ∷ files) e h = by (path_below folder f.0) refl (all_below folder k a files e (and_second (is_lt (slice_cmp nat_cmp k f.0)) _ h)) where
  by : (o : Option (List ℕ)) → path_below folder f.0 ≡ o → AllByRecursion (λ y. slice_cmp nat_cmp a y ≡ Less) (filter_map (path_below folder) (map (λ (f : StoredFile). f.0) files)) → AllByRecursion (λ y. slice_cmp nat_cmp a y ≡ Less) (cons_option o (filter_map (path_below folder) (map (λ (f : StoredFile). f.0) files)))
  by None is rest = rest
  by (Some b) is rest = (sym (same_order folder k f.0 a b e is) ∙ lt_less _ (and_first (is_lt (slice_cmp nat_cmp k f.0)) _ h), rest)

-- the paths below a folder ascend
pub below_sorted : (folder : List ℕ) (files : List StoredFile) → Ascend files → IsStrictlySortedBy (slice_cmp nat_cmp) (filter_map (path_below folder) (map (λ (f : StoredFile). f.0) files))
unfolding IsStrictlySortedBy
below_sorted folder [] h = tt
below_sorted folder (f ∷ files) h = by (path_below folder f.0) refl (below_sorted folder files (and_second (below_all (slice_cmp nat_cmp) f.0 files) _ h)) where
  by : (o : Option (List ℕ)) → path_below folder f.0 ≡ o → IsStrictlySortedBy (slice_cmp nat_cmp) (filter_map (path_below folder) (map (λ (f : StoredFile). f.0) files)) → IsStrictlySortedBy (slice_cmp nat_cmp) (cons_option o (filter_map (path_below folder) (map (λ (f : StoredFile). f.0) files)))
  by None is rest = rest
  by (Some a) is rest = (all_below folder f.0 a files is (and_first (below_all (slice_cmp nat_cmp) f.0 files) _ h), rest)

-- # Many puts

pub filled_more : (s : FilesState) (file : File) (files : List File)
    → filled s (file ∷ files) ≡ record (filled s files) { files = insert (filled s files).files file.path file.bytes; left = (filled s files).left - (length file.path + length file.bytes); places = (filled s files).places - 1 }
filled_more s file files =
    let left : s.left - sum_by size_of (file ∷ files) ≡ (s.left - sum_by size_of files) - size_of file = omega (arith, sum_by-cons size_of file files) in
    let places : s.places - length (file ∷ files) ≡ (s.places - length files) - 1 = omega arith in
    λ i. record s { files = insert (with_files s.files files) file.path file.bytes; left = left i; places = places i }

sum_drop : (files : List File) (n : ℕ) → sum_by size_of (drop n files) ≤ sum_by size_of files
sum_drop files zero = omega arith
sum_drop [] (suc n) = omega arith
sum_drop (file ∷ files) (suc n) = omega (arith, sum_drop files n, sum_by-cons size_of file files)

-- there is room for the next file
pub filled_room : (s : FilesState) (files : List File) (n : ℕ) (d : File) → n < length files → sum_by size_of files ≤ s.left → size_of (get_or files n d) ≤ (filled s (drop (suc n) files)).left
filled_room s files n d low room =
    omega (arith, sum_drop files n, sum_by-cons size_of (get_or files n d) (drop (suc n) files), ap (sum_by size_of) (drop-cons files n d low))

pub filled_places : (s : FilesState) (files : List File) (n : ℕ) → n < length files → length files ≤ s.places → 0 < (filled s (drop (suc n) files)).places
filled_places s files n low places = omega (arith, length-drop (suc n) files)

abbrev no_files : List StoredFile
no_files = []

nothing : from_sorted {R = slice_cmp nat_cmp} no_files ≡ empty
nothing = empty_of_len (from_sorted no_files) (len-entries (from_sorted no_files) ∙ ap length (entries-from_sorted (slice_cmp nat_cmp) no_files tt))

with_files-empty : (files : List File) → with_files empty files ≡ from_entries (map entry_of files)
with_files-empty [] = refl
with_files-empty (file ∷ files) = ap (λ (held : Contents). insert held file.path file.bytes) (with_files-empty files)

-- what a new store is, once its files were put
pub filled_new : (buffer : List ℕ) (spans : List Span) (files : List File) (failing numbers : List ℕ) (room all places : ℕ) → spans ≡ [] → failing ≡ numbers → all ≡ room + sum_by size_of files → places ≡ length files + 8192
    → filled (record { files = from_sorted (all_stored buffer spans); failing = failing; calls = 0; left = all; places = places; read_faults = 0; write_faults = 0 }) files ≡ new_files files numbers room
filled_new buffer spans files failing numbers room all places none same room_is places_are =
    let held : from_sorted {R = slice_cmp nat_cmp} (all_stored buffer spans) ≡ empty = ap (λ ss. from_sorted (all_stored buffer ss)) none ∙ nothing in
    let put : with_files (from_sorted (all_stored buffer spans)) files ≡ from_entries (map entry_of files) = ap (λ (start : Contents). with_files start files) held ∙ with_files-empty files in
    let left : all - sum_by size_of files ≡ room = omega (arith, room_is) in
    let free : places - length files ≡ 8192 = omega (arith, places_are) in
    λ i. record { files = put i; failing = same i; calls = 0; left = left i; places = free i; read_faults = 0; write_faults = 0 }
