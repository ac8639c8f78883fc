-- What a store of files holds, what a sink was given, and how a count of faults moves.
use Rattle.std.specs.Prelude.{ℕ, ◌+◌, ◌-◌, ◌^◌, ◌≤◌, min, List, [], ◌∷◌, ◌++◌, Option, None, Some, option_map, if◌then◌else◌, ◌==◌}
use Rattle.std.specs.List.{filter_map}
use Rattle.std.specs.Ordering.{nat_cmp}
use Rattle.std.specs.Cmp.Lexicographic.{slice_cmp}
use Rattle.std.specs.FinMap.{FinMap, insert, remove, keys}

-- a finite map from paths, in the order of their bytes, to the bytes of the files there
abbrev pub Contents : Type 0
Contents = FinMap (slice_cmp nat_cmp) (List ℕ)

-- what is left of a path behind a folder and a slash (47), and nothing where the path does not begin with these
abbrev pub path_below : List ℕ → List ℕ → Option (List ℕ)
path_below [] (c ∷ rest) = if c == 47 then Some rest else None
path_below (f ∷ folder) (c ∷ rest) = if f == c then path_below folder rest else None
path_below folder path = None

-- the paths of all files below a folder, relative to it, ascending
abbrev pub paths_below : List ℕ → Contents → List (List ℕ)
paths_below folder files = filter_map (path_below folder) (keys files)

-- what is held once a file has been written whole, where it is told
abbrev pub written_at : List ℕ → List ℕ → Option Contents → Option Contents
written_at path bytes held = option_map (λ files. insert files path bytes) held

-- what is held at all other paths, where it is told
abbrev pub elsewhere : List ℕ → Option Contents → Option Contents
elsewhere path held = option_map (λ files. remove files path) held

-- what a sink has been given once a piece was added, where it is told
abbrev pub appended : List ℕ → Option (List ℕ) → Option (List ℕ)
appended piece given = option_map (λ bytes. bytes ++ piece) given

-- a count of 64 bits after one more: at its last value it stands still
abbrev pub raised : ℕ → ℕ
raised count = min (count + 1) (2 ^ 64 - 1)

-- a count rose: by one or more, or it stands at its last value
abbrev pub HasRisen : ℕ → ℕ → Type 0
HasRisen old new = raised old ≤ new

-- contents and bytes that are not told
abbrev pub untold : Option Contents
untold = None

abbrev pub untold_bytes : Option (List ℕ)
untold_bytes = None

-- what is seen of a store that tells nothing of its files
pub record FaultCounts : Type 0 where
  pub reads : ℕ
  pub writes : ℕ
