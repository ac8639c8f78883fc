-- Files below a folder, and no files.
use Rattle.std.proofs.Common.{◌≡◌, ℕ, zero, suc, ◌<◌, List, [], ◌∷◌, ◌++◌, length, ◌∙◌, refl, subst, arith, length-append}
use Rattle.std.specs.Prelude.{codes}
use Rattle.std.specs.List.{All}
use Rattle.std.proofs.lemmas.List.{length-map, get_or-map, map_push}
use Rattle.std.proofs.lemmas.List.Elements.{All-append, All-map}
use Rattle.mol_base.specs.declared.file.File.{File}
use Rattle.mol_base.specs.Files.{file_pair, file_pairs, FilePair}
use Rattle.mol_log.specs.Written.{written}
use Rattle.mol_log.specs.declared.log.Log.{Log}
use Rattle.mol_top.specs.Carried.{IsInOut, IsInside, WritesInside, WritesOwn}
use Rattle.mol_top.specs.Command.{NamedPaths, joined}
use Rattle.mol_top.specs.Merging.{with_log}
use Rattle.mol_top.specs.Output.{AreNamed, below}
use Rattle.mol_top.specs.declared.output.Work.{Work}

abbrev Named : FilePair → Type 0
Named file = 0 < length file.0

-- a path below a folder has a byte
joined_some : (out path : List ℕ) → 0 < length (joined out path)
joined_some out path = rw (length-append out (47 ∷ path)) (omega arith)

all_below : (out : List ℕ) (pairs : List FilePair) → All Named (below out pairs)
all_below out pairs = All-map Named (λ (file : FilePair). (joined out file.0, file.1)) pairs (λ k d within. joined_some out _)

one_named : (out path bytes : List ℕ) → All Named ((joined out path, bytes) ∷ [])
one_named out path bytes zero d within = joined_some out path
one_named out path bytes (suc k) d within = absurd (omega (arith, within))

-- what holds of pairs holds of the files that are these
of_pairs : (P : FilePair → Type 0) (files : List File) (pairs : List FilePair) → file_pairs files ≡ pairs → All P pairs
    → All (λ file. P (file_pair file)) files
of_pairs P files pairs same all k d within =
    subst P (get_or-map file_pair files k d (file_pair d) within)
    (rw same (all k (file_pair d) (rw (← same, length-map files file_pair) within)))

-- files below a folder have names
pub named_below : (files : List File) (out : List ℕ) (pairs : List FilePair) → file_pairs files ≡ below out pairs → AreNamed files
named_below files out pairs same = of_pairs Named files (below out pairs) same (all_below out pairs)

-- and a log beside them
pub named_with : (files : List File) (out : List ℕ) (texts : List FilePair) (log : Log) → file_pairs files ≡ with_log out texts log
    → AreNamed files
named_with files out texts log same =
    of_pairs Named files (with_log out texts log) same
    (All-append Named _ _ (all_below out texts) (one_named out (codes "merged.mol") (written log)))

-- # Where files are written

abbrev Inside : List ℕ → FilePair → Type 0
Inside out file = IsInside out file.0

all_inside : (out : List ℕ) (pairs : List FilePair) → All (Inside out) (below out pairs)
all_inside out pairs = All-map (Inside out) (λ (file : FilePair). (joined out file.0, file.1)) pairs (λ k d within. (_, refl))

one_inside : (out path bytes : List ℕ) → All (Inside out) ((joined out path, bytes) ∷ [])
one_inside out path bytes zero d within = (path, refl)
one_inside out path bytes (suc k) d within = absurd (omega (arith, within))

-- files below a folder
pub inside_below : (work : Work) (out : List ℕ) (pairs : List FilePair) → file_pairs work.files.items ≡ below out pairs → WritesInside out work
inside_below work out pairs same = of_pairs (Inside out) work.files.items (below out pairs) same (all_inside out pairs)

-- and a log
pub inside_with : (work : Work) (out : List ℕ) (texts : List FilePair) (log : Log) → file_pairs work.files.items ≡ with_log out texts log
    → WritesInside out work
inside_with work out texts log same =
    of_pairs (Inside out) work.files.items (with_log out texts log) same
    (All-append (Inside out) _ _ (all_inside out texts) (one_inside out (codes "merged.mol") (written log)))

-- no files
pub none_inside : (work : Work) (out : List ℕ) → file_pairs work.files.items ≡ [] → WritesInside out work
none_inside work out same = of_pairs (Inside out) work.files.items [] same (λ k d within. absurd (omega (arith, within)))

pub none_written : (work : Work) (paths : NamedPaths) → file_pairs work.files.items ≡ [] → WritesOwn paths work
none_written work paths same =
    of_pairs (λ (file : FilePair). IsInOut paths file.0) work.files.items [] same (λ k d within. absurd (omega (arith, within)))

-- # A log behind files

pub with_push : (list : List File) (file : File) (out : List ℕ) (texts : List FilePair) (log : Log)
    → file_pairs list ≡ below out texts → file.path ≡ joined out (codes "merged.mol") → file.bytes ≡ written log
    → file_pairs (list ++ file ∷ []) ≡ with_log out texts log
with_push list file out texts log same path bytes = map_push file_pair list file ∙ rw (same, path, bytes) refl
