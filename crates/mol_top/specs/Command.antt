-- The words of a run.
use Rattle.std.specs.Prelude.{ℕ, ◌==◌, Bool, ◌&&◌, not, List, [], ◌∷◌, ◌++◌, length, codes, Option, None, Some, if◌then◌else◌, nat_eq}
use Rattle.std.specs.Cmp.Lexicographic.{pointwise}

-- `merge BASE LOG1 LOG2 OUT`
pub record MergeWords : Type 0 where
  pub base : List ℕ
  pub first : List ℕ
  pub second : List ℕ
  pub out : List ℕ

-- `check BASE`
pub record CheckWords : Type 0 where
  pub base : List ℕ

-- `fmt BASE OUT`
pub record FmtWords : Type 0 where
  pub base : List ℕ
  pub out : List ℕ

-- `ids BASE`
pub record IdsWords : Type 0 where
  pub base : List ℕ

-- `replay BASE LOG OUT`
pub record ReplayWords : Type 0 where
  pub base : List ℕ
  pub log : List ℕ
  pub out : List ℕ

-- a command with its words
pub data Command : Type 0 where
  merge : MergeWords → Command
  check : CheckWords → Command
  fmt : FmtWords → Command
  ids : IdsWords → Command
  replay : ReplayWords → Command

-- the word of a command
abbrev pub is_verb : List ℕ → List ℕ → Bool
is_verb word verb = pointwise nat_eq word verb

-- An empty word is no path: a path below it would begin with `/`, at the root of the file system.
abbrev pub is_path : List ℕ → Bool
is_path word = not (length word == 0)

-- The command that the words spell, if they spell one. Each of its paths is a path.
abbrev pub command : List (List ℕ) → Option Command
command (verb ∷ base ∷ []) =
    if is_verb verb (codes "check") && is_path base then Some (Command.check (record { base = base }))
    else if is_verb verb (codes "ids") && is_path base then Some (Command.ids (record { base = base })) else None
command (verb ∷ base ∷ out ∷ []) =
    if is_verb verb (codes "fmt") && is_path base && is_path out then Some (Command.fmt (record { base = base; out = out })) else None
command (verb ∷ base ∷ log ∷ out ∷ []) =
    if is_verb verb (codes "replay") && is_path base && is_path log && is_path out
    then Some (Command.replay (record { base = base; log = log; out = out })) else None
command (verb ∷ base ∷ first ∷ second ∷ out ∷ []) =
    if is_verb verb (codes "merge") && is_path base && is_path first && is_path second && is_path out
    then Some (Command.merge (record { base = base; first = first; second = second; out = out })) else None
command words = None

-- the two logs in the other order
abbrev pub swapped : MergeWords → MergeWords
swapped words = record words { first = words.second; second = words.first }

-- a path below a folder
abbrev pub joined : List ℕ → List ℕ → List ℕ
joined folder path = folder ++ 47 ∷ path

-- # Paths

-- the paths that the words of a command name: the base, the other inputs, and the folder in which files are written, where there is one
pub record NamedPaths : Type 0 where
  pub base : List ℕ
  pub inputs : List (List ℕ)
  pub out : Option (List ℕ)

abbrev pub merge_paths : MergeWords → NamedPaths
merge_paths words = record { base = words.base; inputs = words.first ∷ words.second ∷ []; out = Some words.out }

abbrev pub check_paths : CheckWords → NamedPaths
check_paths words = record { base = words.base; inputs = []; out = None }

abbrev pub fmt_paths : FmtWords → NamedPaths
fmt_paths words = record { base = words.base; inputs = []; out = Some words.out }

abbrev pub ids_paths : IdsWords → NamedPaths
ids_paths words = record { base = words.base; inputs = []; out = None }

abbrev pub replay_paths : ReplayWords → NamedPaths
replay_paths words = record { base = words.base; inputs = words.log ∷ []; out = Some words.out }

abbrev pub paths_of : Command → NamedPaths
paths_of (Command.merge words) = merge_paths words
paths_of (Command.check words) = check_paths words
paths_of (Command.fmt words) = fmt_paths words
paths_of (Command.ids words) = ids_paths words
paths_of (Command.replay words) = replay_paths words
