-- Reading file after file.
use Rattle.std.proofs.Common.{◌≡◌, ℕ, zero, suc, ◌+◌, ◌<◌, ◌≤◌, List, [], ◌∷◌, ◌++◌, length, get_or, take, drop, map, sym, ◌∙◌, ap, refl, arith, length-append}
use Rattle.std.specs.Prelude.{None, Some}
use Rattle.std.specs.FinMap.{get}
use Rattle.std.proofs.lemmas.List.{length-map, get_or-map, take_more, map_push, drop_more}
use Rattle.std.specs.List.{Contains}
use Rattle.std.proofs.lemmas.Grind.{common_steps}
use Rattle.std.proofs.lemmas.Bool.Decides.{nat_tests}
use Rattle.std.proofs.lemmas.List.Elements.{All-append}
use Rattle.mol_base.specs.Limits.{most}
use Rattle.mol_base.specs.declared.file.File.{File}
use Rattle.mol_base.specs.declared.limit.Which.TheVariants.{Files, FileBytes, SourceBytes}
use Rattle.mol_outside.specs.Contents.{Contents}
use Rattle.mol_base.specs.Files.{AreSmall, file_pair, file_pairs, file_paths, FilePair}
use Rattle.mol_top.specs.Files.{base_paths, bytes_at, files_at}
use Rattle.mol_top.specs.Command.{joined}
use Rattle.mol_top.specs.Refusals.{absent_input, files_refusal, reading_refusal, size_refusal}
use Rattle.mol_top.specs.Outside.{IfTold, OnlyReads, Store}
use Rattle.mol_top.proofs.Stopping.{OnlyReads-then}
use Rattle.mol_top.specs.declared.status.Status.{Status}

-- The files at the first of these paths are read, each of them and all together within the limits; what refuses all of the
-- paths refuses the rest of them after so many bytes, and the store was not written.
pub record HasRead (old now : Store) (base : List ℕ) (paths : List (List ℕ)) (done total : ℕ) (read : List File) : Type 0 where
  pub only_reads : OnlyReads old now
  pub paths_are : file_paths read ≡ take done paths
  pub count : length read ≡ length (take done paths)
  pub small : AreSmall read
  pub within : total ≤ most SourceBytes
  pub told : IfTold old.held (λ h. (files_refusal base h 0 paths ≡ files_refusal base h total (drop done paths)) × (file_pairs read ≡ files_at base h (take done paths)))

-- one more path, whose file is there
files-push : (base : List ℕ) (h : Contents) (paths : List (List ℕ)) (path bytes : List ℕ) → get h (joined base path) ≡ Some bytes → files_at base h (paths ++ path ∷ []) ≡ files_at base h paths ++ (path, bytes) ∷ []
files-push base h paths path bytes e = rw (map_push {Y = FilePair} (λ p. (p, bytes_at base h p)) paths path, e) refl

-- a file that is there and within the limits leaves the rest to refuse
refusal-rest : (base : List ℕ) (h : Contents) (total : ℕ) (path bytes : List ℕ) (rest : List (List ℕ)) → get h (joined base path) ≡ Some bytes → size_refusal total (length bytes) ≡ None
    → files_refusal base h total (path ∷ rest) ≡ files_refusal base h (total + length bytes) rest
refusal-rest base h total path bytes rest there fits = rw (there, fits) refl

small-push : (read : List File) (file : File) → AreSmall read → length file.bytes ≤ most FileBytes → AreSmall (read ++ file ∷ [])
small-push read file all small = All-append (λ (file : File). length file.bytes ≤ most FileBytes) read (file ∷ []) all last where
  last : AreSmall (file ∷ [])
  last zero d within = small
  last (suc k) d within = absurd (omega (arith, within))

pub HasRead-more : (old mid now : Store) (base : List ℕ) (paths : List (List ℕ)) (i total sum : ℕ) (read : List File) (file : File)
    → HasRead old mid base paths i total read → i < length paths → file.path ≡ get_or paths i file.path
    → OnlyReads mid now → IfTold mid.held (λ h. get h (joined base file.path) ≡ Some file.bytes)
    → size_refusal total (length file.bytes) ≡ None → sum ≡ total + length file.bytes → sum ≤ most SourceBytes → length file.bytes ≤ most FileBytes
    → HasRead old now base paths (i + 1) sum (read ++ file ∷ [])
HasRead-more old mid now base paths i total sum read file had within is reads there fits sums under small =
    let more : take (i + 1) paths ≡ take i paths ++ file.path ∷ [] = take_more paths i file.path within ∙ ap (λ x. take i paths ++ x ∷ []) (sym is) in
    let next : drop i paths ≡ file.path ∷ drop (i + 1) paths = drop_more paths i file.path within ∙ ap (λ x. x ∷ drop (i + 1) paths) (sym is) in
    record {
      only_reads = OnlyReads-then old mid now had.only_reads reads;
      paths_are = rw (map_push (λ (file : File). file.path) read file, more) (ap (λ all. all ++ file.path ∷ []) had.paths_are);
      count = rw more (length-append read (file ∷ []) ∙ ap (λ n. n + 1) had.count ∙ sym (length-append (take i paths) (file.path ∷ [])));
      small = small-push read file had.small small;
      within = under;
      told = λ h e.
          let t = had.told h e in
          let g = there h (had.only_reads.held ∙ e) in (
            t.0 ∙ ap (files_refusal base h total) next ∙ refusal-rest base h total file.path file.bytes (drop (i + 1) paths) g fits
                ∙ ap (λ n. files_refusal base h n (drop (i + 1) paths)) (sym sums),
            rw more (map_push file_pair read file ∙ ap (λ x. x ++ file_pair file ∷ []) t.1 ∙ sym (files-push base h (take i paths) file.path file.bytes g)),
          );
    }

-- the next file is absent
pub absent-next : (base : List ℕ) (h : Contents) (paths : List (List ℕ)) (i total : ℕ) (path : List ℕ) (s : Status)
    → files_refusal base h 0 paths ≡ files_refusal base h total (drop i paths) → i < length paths → path ≡ get_or paths i path
    → absent_input (joined base path) h ≡ Some s → files_refusal base h 0 paths ≡ Some s
absent-next base h paths i total path s rest within is stops =
    let next : drop i paths ≡ path ∷ drop (i + 1) paths = drop_more paths i path within ∙ ap (λ x. x ∷ drop (i + 1) paths) (sym is) in
    rest ∙ ap (files_refusal base h total) next ∙ rw stops refl

-- the next file is there and passes a limit
pub large-next : (base : List ℕ) (h : Contents) (paths : List (List ℕ)) (i total : ℕ) (path bytes : List ℕ) (s : Status)
    → files_refusal base h 0 paths ≡ files_refusal base h total (drop i paths) → i < length paths → path ≡ get_or paths i path
    → get h (joined base path) ≡ Some bytes → size_refusal total (length bytes) ≡ Some s → files_refusal base h 0 paths ≡ Some s
large-next base h paths i total path bytes s rest within is there stops =
    let next : drop i paths ≡ path ∷ drop (i + 1) paths = drop_more paths i path within ∙ ap (λ x. x ∷ drop (i + 1) paths) (sym is) in
    rest ∙ ap (files_refusal base h total) next ∙ rw (there, stops) refl

-- a path among others is below the base among theirs
pub Contains-joined : (base : List ℕ) (paths : List (List ℕ)) (path : List ℕ) → Contains paths path → Contains (map (joined base) paths) (joined base path)
Contains-joined base paths path among = (among.0, rw (length-map paths (joined base)) among.1, get_or-map (joined base) paths among.0 path (joined base path) among.1 ∙ ap (joined base) among.2)

-- what still refuses the reading of a base, once its paths are listed
pub reading-listed : (base : List ℕ) (h : Contents) (paths : List (List ℕ)) → base_paths base h ≡ paths → 0 < length paths → length paths ≤ most Files
    → reading_refusal base h ≡ files_refusal base h 0 paths
reading-listed base h paths is some few = grind (arith, common_steps, nat_tests)
