-- Why a step of a run stops, and how a refusal is answered.
use Rattle.std.specs.Prelude.{◌≡◌, ◌≢◌, ◌<◌, ◌⊎◌, ⊤, ℕ, List, [], map, take, slice_get, Option, Some}
use Rattle.std.specs.List.{Contains}
use Rattle.mol_base.specs.declared.file.File.{File}
use Rattle.mol_outside.specs.Contents.{Contents, HasRisen, appended, elsewhere}
use Rattle.mol_base.specs.Files.{file_pairs, FilePair}
use Rattle.mol_top.specs.Answers.{store_status}
use Rattle.mol_top.specs.Command.{NamedPaths, joined}
use Rattle.mol_top.specs.Files.{base_paths}
use Rattle.mol_top.specs.Outside.{IfTold, Sink, State, Store}
use Rattle.mol_top.specs.Output.{written_all}
use Rattle.mol_top.specs.Refusals.{files_refusal, reading_refusal}
use Rattle.mol_top.specs.Report.{refusal_line}
use Rattle.mol_top.specs.declared.fault.StoreFault.{StoreFault}
use Rattle.mol_top.specs.declared.fault.StoreFault.TheVariants as faults
use Rattle.mol_top.specs.declared.output.Work.{Work}
use Rattle.mol_top.specs.declared.status.Status.{Status}
use Rattle.mol_top.specs.declared.status.Status.TheVariants.{Done, Conflicts, Usage, ReadFailed, WriteFailed, OutOfMemory}

-- # Stops before the first write

-- a path alone
abbrev pub Only : List ℕ → List ℕ → Type 0
Only path read = read ≡ path

-- one of these paths below a folder
abbrev pub IsAmong : List ℕ → List (List ℕ) → List ℕ → Type 0
IsAmong folder paths path = Contains (map (joined folder) paths) path

-- a base or a file of it
abbrev pub IsBelow : List ℕ → Option Contents → List ℕ → Type 0
IsBelow base held path = (path ≡ base) ⊎ IfTold held (λ h. IsAmong base (base_paths base h) path)

-- a path that the words of a command or the listing of its base name
abbrev pub IsNamed : NamedPaths → Option Contents → List ℕ → Type 0
IsNamed paths held path = IsBelow paths.base held path ⊎ (Contains paths.inputs path ⊎ (paths.out ≡ Some path))

-- a step stops: for want of memory, at a failed read of a path that it may read, or by what refuses these contents
abbrev pub Stops : (List ℕ → Type 0) → Store → Store → (Contents → Option Status) → StoreFault → Type 0
Stops reads old new refusal faults.OutOfMemory = ⊤
Stops reads old new refusal (faults.ReadFailed path) = HasRisen old.reads new.reads × reads path
Stops reads old new refusal fault = IfTold old.held (λ h. refusal h ≡ Some (store_status fault))

-- the reading of the files at these paths below a folder stops
abbrev pub StopsFiles : List ℕ → List (List ℕ) → Store → Store → StoreFault → Type 0
StopsFiles folder paths old new fault = Stops (IsAmong folder paths) old new (λ held. files_refusal folder held 0 paths) fault

-- the reading of a base stops
abbrev pub StopsBase : List ℕ → Store → Store → StoreFault → Type 0
StopsBase base old new fault = Stops (IsBelow base old.held) old new (reading_refusal base) fault

-- a command stops before the first write: for want of memory, at a failed read of a path that it names, or by what refuses it
abbrev pub StopsBy : (List ℕ → Type 0) → Store → Store → (Contents → Status → Type 0) → Status → Type 0
StopsBy reads old new refuses OutOfMemory = ⊤
StopsBy reads old new refuses (ReadFailed path) = HasRisen old.reads new.reads × reads path
StopsBy reads old new refuses Done = ⊥
StopsBy reads old new refuses (Conflicts count) = ⊥
StopsBy reads old new refuses Usage = ⊥
StopsBy reads old new refuses (WriteFailed path) = ⊥
StopsBy reads old new refuses status = IfTold old.held (λ h. refuses h status)

-- # Answers

-- a status that refuses
abbrev pub IsRefusal : Status → Type 0
IsRefusal Done = ⊥
IsRefusal (Conflicts count) = ⊥
IsRefusal (WriteFailed path) = ⊥
IsRefusal status = ⊤

-- a status that has an outcome
abbrev pub IsFinal : Status → Type 0
IsFinal Done = ⊤
IsFinal (Conflicts count) = ⊤
IsFinal status = ⊥

-- a write of a path or the put failed
abbrev pub IsWriteFailed : Status → Type 0
IsWriteFailed (WriteFailed path) = ⊤
IsWriteFailed status = ⊥

-- a refusal is answered, but where the sink fails
abbrev pub AnsweredAs : Sink → Sink → Status → Status → Type 0
AnsweredAs old new status (WriteFailed path) = (path ≡ []) × HasRisen old.puts new.puts
AnsweredAs old new status answer = answer ≡ status

-- what failed where no path is named is the put, else the write of a file
abbrev pub HasFailed : State → State → List ℕ → Type 0
HasFailed old new path = ((path ≢ []) × HasRisen old.store.writes new.store.writes) ⊎ ((path ≡ []) × HasRisen old.sink.puts new.sink.puts)

-- all was written and printed, or a write of a path or the put failed
abbrev pub IsCarriedOut : Work → State → State → Status → Type 0
IsCarriedOut work old new Done = work.conflicts ≡ 0
IsCarriedOut work old new (Conflicts count) = (count ≡ work.conflicts) × (0 < count)
IsCarriedOut work old new (WriteFailed path) = HasFailed old new path
IsCarriedOut work old new status = ⊥

-- # What a write that fails leaves

-- a sink gained a part of a piece from the front on
abbrev pub HasPart : List ℕ → Sink → Sink → Type 0
HasPart piece old new = (n : ℕ) × (new.given ≡ appended (take n piece) old.given)

-- a sink gained a piece, or a part of it where a put failed
abbrev pub IsPutOrCut : List ℕ → Sink → Sink → Type 0
IsPutOrCut piece old new = (new.given ≡ appended piece old.given) ⊎ (HasRisen old.puts new.puts × HasPart piece old new)

-- these files were written, and what is at a path is open: no other path has changed
abbrev pub IsWrittenBut : List FilePair → List ℕ → Store → Store → Type 0
IsWrittenBut files path old new = elsewhere path new.held ≡ elsewhere path (written_all files old.held)

-- these files were written, up to the one at a place, whose own path is open
abbrev pub StopsAt : List File → ℕ → Store → Store → Type 0
StopsAt files place old new =
    (file : File) × (slice_get files place ≡ Some file) × IsWrittenBut (file_pairs (take place files)) file.path old new

-- the files before one are written whole, what is at its own path is open, and no other path has changed. The sink has
-- the line that names it, or a part of it where the sink failed too
pub record IsCutAt (files : List FilePair) (path : List ℕ) (old new : State) : Type 0 where
  pub place : ℕ
  pub file : FilePair
  pub next : slice_get files place ≡ Some file
  pub named : file.0 ≡ path
  pub whole : IsWrittenBut (take place files) path old.store new.store
  pub line : IsPutOrCut (refusal_line (WriteFailed path)) old.sink new.sink

-- all files are written, and the put of the report failed
pub record IsUnreported (files : List FilePair) (report : List ℕ) (old new : State) : Type 0 where
  pub written : new.store.held ≡ written_all files old.store.held
  pub part : HasPart report old.sink new.sink

-- where not all was written and printed: at a path the files before it, else all files and a part of the report
abbrev pub IsLeft : Work → State → State → Status → Type 0
IsLeft work old new (WriteFailed path) =
    ((path ≢ []) × IsCutAt (file_pairs work.files.items) path old new)
    ⊎ ((path ≡ []) × IsUnreported (file_pairs work.files.items) work.report.items old new)
IsLeft work old new status = ⊤
