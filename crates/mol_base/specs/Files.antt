-- Source files as paths and bytes.
use Rattle.std.specs.Prelude.{◌≡◌, ◌≤◌, ℕ, List, length, map, Some, slice_get}
use Rattle.std.specs.List.{All}
use Rattle.mol_base.specs.Limits.{most}
use Rattle.mol_base.specs.declared.file.File.{File}
use Rattle.mol_base.specs.declared.limit.Which.TheVariants.{FileBytes}

-- a file as its path and its bytes
abbrev pub FilePair : Type 0
FilePair = List ℕ × List ℕ

-- a file of the code as such a pair
abbrev pub file_pair : File → FilePair
file_pair file = (file.path, file.bytes)

abbrev pub file_pairs : List File → List FilePair
file_pairs files = map file_pair files

abbrev pub file_paths : List File → List (List ℕ)
file_paths files = map (λ (file : File). file.path) files

-- each is within the limit of one source
abbrev pub AreSmall : List File → Type 0
AreSmall files = All (λ (file : File). length file.bytes ≤ most FileBytes) files

-- no two of them have one path
abbrev pub ArePathsApart : List FilePair → Type 0
ArePathsApart files = (number second : ℕ) (file other : FilePair) → slice_get files number ≡ Some file
    → slice_get files second ≡ Some other → file.0 ≡ other.0 → number ≡ second
