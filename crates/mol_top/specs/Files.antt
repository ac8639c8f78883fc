-- The files of a base over given contents of a store.
use Rattle.std.specs.Prelude.{ℕ, ◌-◌, Bool, ◌&&◌, List, [], length, drop, map, filter, codes, unwrap_or, nat_eq, nat_le}
use Rattle.std.specs.Cmp.Lexicographic.{pointwise}
use Rattle.std.specs.FinMap.{get}
use Rattle.mol_outside.specs.Contents.{Contents, paths_below}
use Rattle.mol_base.specs.Files.{FilePair}
use Rattle.mol_top.specs.Command.{joined}

-- the path ends in `.java`
abbrev pub is_java : List ℕ → Bool
is_java path = nat_le 5 (length path) && pointwise nat_eq (drop (length path - 5) path) (codes ".java")

-- the paths of a base, relative to it, ascending
abbrev pub base_paths : List ℕ → Contents → List (List ℕ)
base_paths base held = filter is_java (paths_below base held)

abbrev pub bytes_at : List ℕ → Contents → List ℕ → List ℕ
bytes_at folder held path = unwrap_or (get held (joined folder path)) []

-- the files at these paths below a folder
abbrev pub files_at : List ℕ → Contents → List (List ℕ) → List FilePair
files_at folder held paths = map (λ path. (path, bytes_at folder held path)) paths

abbrev pub base_files : List ℕ → Contents → List FilePair
base_files base held = files_at base held (base_paths base held)
