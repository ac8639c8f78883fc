-- Which paths and numbers an answer carries, whatever a store tells of what it holds.
use Rattle.std.specs.Prelude.{◌≡◌, ◌⊎◌, ◌<◌, ℕ, ⊤, List, [], Some, IsSomeAnd, true}
use Rattle.std.specs.List.{All, Contains}
use Rattle.mol_base.specs.Limits.{most}
use Rattle.mol_base.specs.declared.file.File.{File}
use Rattle.mol_top.specs.Answers.{store_status}
use Rattle.mol_top.specs.Command.{NamedPaths, joined}
use Rattle.mol_top.specs.Files.{is_java}
use Rattle.mol_top.specs.declared.fault.StoreFault.{StoreFault}
use Rattle.mol_top.specs.declared.output.Work.{Work}
use Rattle.mol_top.specs.declared.status.Status.{Status}
use Rattle.mol_top.specs.declared.status.Status.TheVariants.{ReadFailed, Missing, WriteFailed, OutInUse, Limit}

-- no path
abbrev pub NoPath : List ℕ → Type 0
NoPath path = ⊥

-- a path below a folder
abbrev pub IsInside : List ℕ → List ℕ → Type 0
IsInside folder path = (below : List ℕ) × (path ≡ joined folder below)

-- a base, or a path below it that ends in `.java`
abbrev pub IsSourcePath : List ℕ → List ℕ → Type 0
IsSourcePath base path = (path ≡ base) ⊎ ((below : List ℕ) × (is_java below ≡ true) × (path ≡ joined base below))

-- An answer carries such a path: one that was not read, an input that is missing, a file that is in use or whose write failed, for which the
-- empty path is that of what is printed; and a number above its limit.
abbrev pub Carries : (List ℕ → Type 0) → (List ℕ → Type 0) → (List ℕ → Type 0) → Status → Type 0
Carries reads inputs outs (ReadFailed path) = reads path
Carries reads inputs outs (Missing path) = inputs path
Carries reads inputs outs (OutInUse path) = outs path
Carries reads inputs outs (WriteFailed path) = (path ≡ []) ⊎ outs path
Carries reads inputs outs (Limit which number) = most which < number
Carries reads inputs outs status = ⊤

-- a fault of reading carries such a path
abbrev pub CarriesRead : (List ℕ → Type 0) → StoreFault → Type 0
CarriesRead paths fault = Carries paths paths NoPath (store_status fault)

-- # Paths of a command

-- a base or a source below it, or another input that the words name
abbrev pub IsInput : NamedPaths → List ℕ → Type 0
IsInput paths path = IsSourcePath paths.base path ⊎ Contains paths.inputs path

-- what is read: the inputs, and the listing of the folder in which files are written
abbrev pub IsRead : NamedPaths → List ℕ → Type 0
IsRead paths path = IsInput paths path ⊎ (paths.out ≡ Some path)

-- a path below that folder
abbrev pub IsInOut : NamedPaths → List ℕ → Type 0
IsInOut paths path = IsSomeAnd paths.out (λ out. IsInside out path)

-- an answer carries a path of its command
abbrev pub CarriesOwn : NamedPaths → Status → Type 0
CarriesOwn paths status = Carries (IsRead paths) (IsInput paths) (IsInOut paths) status

-- # What is written

-- all files that are written lie below a folder
abbrev pub WritesInside : List ℕ → Work → Type 0
WritesInside out work = All (λ (file : File). IsInside out file.path) work.files.items

-- all files that are written lie below the folder of their command
abbrev pub WritesOwn : NamedPaths → Work → Type 0
WritesOwn paths work = All (λ (file : File). IsInOut paths file.path) work.files.items
