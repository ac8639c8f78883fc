-- Files in one buffer, by spans that are sorted by path.
use Rattle.std.specs.Prelude.{◌≡◌, ℕ, ◌+◌, ◌-◌, ◌≤◌, List, [], ◌∷◌, map, slice_range, length, sum_by, T, IsUtf8}
use Rattle.std.specs.Ordering.{nat_cmp}
use Rattle.std.specs.declared.cmp.Ordering.TheVariants.{Greater}
use Rattle.std.specs.Cmp.Lexicographic.{slice_cmp}
use Rattle.std.specs.FinMap.{insert, is_sorted}
use Rattle.mol_base.specs.declared.file.File.{File}
use Rattle.mol_outside.specs.Contents.{Contents}
use Rattle.mol_outside.specs.Memory.{FilesState}
use Rattle.mol_outside.specs.declared.span.Span.{Span}

-- a path, and the bytes there
abbrev pub StoredFile : Type 0
StoredFile = List ℕ × List ℕ

-- the file that a span names
abbrev pub stored : List ℕ → Span → StoredFile
stored buffer s = (slice_range buffer s.start s.mid, slice_range buffer s.mid s.end)

abbrev pub all_stored : List ℕ → List Span → List StoredFile
all_stored buffer spans = map (stored buffer) spans

-- the span lies in a buffer of this length
abbrev pub IsWithin : ℕ → Span → Type 0
IsWithin len s = (s.start ≤ s.mid) × (s.mid ≤ s.end) × (s.end ≤ len)

abbrev pub AreWithin : ℕ → List Span → Type 0
AreWithin len [] = Unit {0}
AreWithin len (s ∷ spans) = IsWithin len s × AreWithin len spans

-- the paths strictly ascend
abbrev pub Ascend : List StoredFile → Type 0
Ascend files = T (is_sorted (slice_cmp nat_cmp) files)

-- each path is UTF-8
abbrev pub HaveTexts : List StoredFile → Type 0
HaveTexts [] = Unit {0}
HaveTexts (f ∷ files) = IsUtf8 f.0 × HaveTexts files

-- each of these files comes before the path
abbrev pub ComeBefore : List ℕ → List StoredFile → Type 0
ComeBefore path [] = Unit {0}
ComeBefore path (f ∷ files) = (slice_cmp nat_cmp path f.0 ≡ Greater) × ComeBefore path files

-- what a store over memory keeps
pub record IsStore (buffer : List ℕ) (spans : List Span) (buffer_len buffer_capacity spans_len spans_capacity left places : ℕ) : Type 0 where
  pub ascend : Ascend (all_stored buffer spans)
  pub texts : HaveTexts (all_stored buffer spans)
  pub within : AreWithin buffer_len spans
  pub room : buffer_len + left ≤ buffer_capacity
  pub spare : spans_len + places ≤ spans_capacity

-- the contents with files added, from the last to the first
abbrev pub with_files : Contents → List File → Contents
with_files held [] = held
with_files held (file ∷ files) = insert (with_files held files) file.path file.bytes

-- the bytes that a file takes, path and content
abbrev pub size_of : File → ℕ
size_of file = length file.path + length file.bytes

-- what is seen of a store after files were added, from the last to the first
abbrev pub filled : FilesState → List File → FilesState
filled s files = record s { files = with_files s.files files; left = s.left - sum_by size_of files; places = s.places - length files }
