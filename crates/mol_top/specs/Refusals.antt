-- What refuses the reading of a base and of inputs over given contents, in the order of a run.
use Rattle.std.specs.Prelude.{◌≡◌, ℕ, ◌+◌, List, [], ◌∷◌, length, Option, None, Some, option_map, is_some, if◌then◌else◌, nat_eq, nat_lt, slice_get}
use Rattle.std.specs.Option.{option_or}
use Rattle.std.specs.FinMap.{get}
use Rattle.mol_base.specs.Limits.{most}
use Rattle.mol_base.specs.declared.file.File.{File}
use Rattle.mol_base.specs.declared.limit.Which.TheVariants.{Files, FileBytes, SourceBytes}
use Rattle.mol_outside.specs.Contents.{Contents, paths_below}
use Rattle.mol_base.specs.Files.{file_pairs}
use Rattle.mol_top.specs.Command.{joined}
use Rattle.mol_top.specs.Files.{base_files, base_paths, bytes_at, files_at}
use Rattle.mol_top.specs.declared.status.Status.{Status}
use Rattle.mol_top.specs.declared.status.Status.TheVariants.{Missing, OutInUse, Limit}

-- no listed file of the base ends in `.java`
abbrev pub no_base : List ℕ → Contents → Option Status
no_base base held = if nat_eq (length (base_paths base held)) 0 then Some (Missing base) else None

-- there are more files than the limit
abbrev pub too_many : List ℕ → Contents → Option Status
too_many base held =
    let count : ℕ = length (base_paths base held) in
    if nat_lt (most Files) count then Some (Limit Files count) else None

-- an input file is absent
abbrev pub absent_input : List ℕ → Contents → Option Status
absent_input path held = if is_some (get held path) then None else Some (Missing path)

-- a source of so many bytes is too large, or makes all of them too large together
abbrev pub size_refusal : ℕ → ℕ → Option Status
size_refusal before size =
    if nat_lt (most FileBytes) size then Some (Limit FileBytes size)
    else if nat_lt (most SourceBytes) (before + size) then Some (Limit SourceBytes (before + size)) else None

-- a listed file is absent or too large, after files of so many bytes
abbrev pub file_refusal : List ℕ → Contents → ℕ → List ℕ → Option Status
file_refusal base held before path =
    option_or (absent_input (joined base path) held) (size_refusal before (length (bytes_at base held path)))

-- the first refusal of these files, one after another
abbrev pub files_refusal : List ℕ → Contents → ℕ → List (List ℕ) → Option Status
files_refusal base held before [] = None
files_refusal base held before (path ∷ paths) =
    option_or (file_refusal base held before path) (files_refusal base held (before + length (bytes_at base held path)) paths)

-- the files are listed, counted, read and measured before one is looked into
abbrev pub reading_refusal : List ℕ → Contents → Option Status
reading_refusal base held =
    option_or (no_base base held) (option_or (too_many base held) (files_refusal base held 0 (base_paths base held)))

-- a path below OUT is there: the least
abbrev pub out_refusal : List ℕ → Contents → Option Status
out_refusal out held = option_map (λ path. OutInUse (joined out path)) (slice_get (paths_below out held) 0)

-- # What is read

-- nothing refuses the files at these paths below a folder, and they are these
pub record AreFilesAt (folder : List ℕ) (paths : List (List ℕ)) (held : Contents) (files : List File) : Type 0 where
  pub allowed : files_refusal folder held 0 paths ≡ None
  pub are : file_pairs files ≡ files_at folder held paths

-- nothing refuses the reading of a base, and these are its files
pub record AreBaseFiles (base : List ℕ) (held : Contents) (files : List File) : Type 0 where
  pub allowed : reading_refusal base held ≡ None
  pub are : file_pairs files ≡ base_files base held
