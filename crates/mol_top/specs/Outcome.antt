-- What a run answers, writes and prints.
use Rattle.std.specs.Prelude.{◌≡◌, ◌≢◌, ℕ, ◌<◌, ◌⊎◌, ⊤, Bool, true, false, List, [], Option, None, Some, IsSomeAnd}
use Rattle.mol_outside.specs.Contents.{Contents, appended, HasRisen}
use Rattle.mol_top.specs.Checking.{CheckRefuses, CheckComesTo}
use Rattle.mol_top.specs.Command.{Command, paths_of, swapped}
use Rattle.mol_top.specs.Formatting.{FmtRefuses, FmtComesTo}
use Rattle.mol_top.specs.Listing.{IdsRefuses, IdsComesTo}
use Rattle.mol_top.specs.Merging.{MergeRefuses, MergeComesTo}
use Rattle.mol_top.specs.Outside.{IfTold, State, Store}
use Rattle.mol_top.specs.Output.{Outcome, written_all}
use Rattle.mol_top.specs.Replaying.{ReplayRefuses, ReplayComesTo}
use Rattle.mol_top.specs.Report.{names_addresses, refusal_line}
use Rattle.mol_top.specs.Steps.{IsNamed, IsRefusal, IsFinal, HasFailed, HasPart, IsCutAt, IsUnreported}
use Rattle.mol_top.specs.UncleanLines.{IsProgramLine}
use Rattle.mol_top.specs.declared.status.Status.{Status}
use Rattle.mol_top.specs.declared.status.Status.TheVariants.{Done, Conflicts, Usage, ReadFailed, WriteFailed, OutOfMemory}

-- # What a command comes to

-- what refuses a command over given contents
abbrev pub Refuses : Command → Contents → Status → Type 0
Refuses (Command.merge words) held status = MergeRefuses words held status
Refuses (Command.check words) held status = CheckRefuses words held status
Refuses (Command.fmt words) held status = FmtRefuses words held status
Refuses (Command.ids words) held status = IdsRefuses words held status
Refuses (Command.replay words) held status = ReplayRefuses words held status

-- nothing refuses it, and it comes to this
abbrev pub ComesTo : Command → Contents → Outcome → Type 0
ComesTo (Command.merge words) held outcome = MergeComesTo words held outcome
ComesTo (Command.check words) held outcome = CheckComesTo words held outcome
ComesTo (Command.fmt words) held outcome = FmtComesTo words held outcome
ComesTo (Command.ids words) held outcome = IdsComesTo words held outcome
ComesTo (Command.replay words) held outcome = ReplayComesTo words held outcome

-- the line of a refusal that names addresses of the base
abbrev pub IsAddressesLine : Command → Contents → Status → List ℕ → Type 0
IsAddressesLine (Command.merge words) held status line = IsProgramLine words.base held status line
IsAddressesLine (Command.check words) held status line = IsProgramLine words.base held status line
IsAddressesLine (Command.fmt words) held status line = IsProgramLine words.base held status line
IsAddressesLine (Command.ids words) held status line = IsProgramLine words.base held status line
IsAddressesLine (Command.replay words) held status line = IsProgramLine words.base held status line

-- the words spell a command, and over what the store held, where it tells, it comes to what is so
abbrev pub Comes : Option Command → Store → (Outcome → Type 0) → Type 0
Comes c store P = IsSomeAnd c (λ c. IfTold store.held (λ h. (outcome : Outcome) × ComesTo c h outcome × P outcome))

-- # Causes of answers

-- each answer has its cause, in the words and what the store holds, or in what the store and the sink did. Where the
-- store does not tell what it holds, nothing is said of causes that lie there
abbrev pub HasCause : Option Command → State → State → Status → Type 0
HasCause c old new OutOfMemory = ⊤
HasCause c old new (ReadFailed path) =
    IsSomeAnd c (λ c. HasRisen old.store.reads new.store.reads × IsNamed (paths_of c) old.store.held path)
HasCause c old new (WriteFailed path) = HasFailed old new path
HasCause c old new Usage = c ≡ None
HasCause c old new Done = Comes c old.store (λ outcome. outcome.conflicts ≡ 0)
HasCause c old new (Conflicts count) = Comes c old.store (λ outcome. (count ≡ outcome.conflicts) × (0 < count))
HasCause c old new status = IsSomeAnd c (λ c. IfTold old.store.held (λ h. Refuses c h status))

-- # What is left of the store and the sink

-- nothing was written to the store
abbrev pub WritesNothing : Status → Type 0
WritesNothing Done = ⊥
WritesNothing (WriteFailed path) = ⊥
WritesNothing status = ⊤

-- so is the line of a refusal. Where it names addresses, the words spell a command, and they are those of its base over what
-- the store held, where it tells
abbrev pub ByNames : Bool → Option Command → Store → Status → (List ℕ → Type 0) → Type 0
ByNames true c store status P =
    IsSomeAnd c (λ c. IfTold store.held (λ h. (line : List ℕ) × IsAddressesLine c h status line × P line))
ByNames false c store status P = P (refusal_line status)

abbrev pub HasLine : Option Command → Store → Status → (List ℕ → Type 0) → Type 0
HasLine c store status P = ByNames (names_addresses status) c store status P

-- the sink gained exactly the line of a refusal
abbrev pub Says : Option Command → State → State → Status → Type 0
Says c old new status = IsRefusal status → HasLine c old.store status (λ line. new.sink.given ≡ appended line old.sink.given)

-- the store has the files that an outcome writes, and the sink its report
pub record HasOutcome (old new : State) (outcome : Outcome) : Type 0 where
  pub files : new.store.held ≡ written_all outcome.files old.store.held
  pub report : new.sink.given ≡ appended outcome.report old.sink.given

-- where all was written and printed, or logs conflict, the store and the sink have what the command comes to
abbrev pub Leaves : Option Command → State → State → Status → Type 0
Leaves c old new status = IsFinal status → Comes c old.store (HasOutcome old new)

-- # A write that fails

-- the run was to end with a refusal, whose line was not put whole; nothing was written
pub record WasRefusing (c : Option Command) (old new : State) : Type 0 where
  pub status : Status
  pub refuses : IsRefusal status
  pub cause : HasCause c old new status
  pub kept : new.store.held ≡ old.store.held
  pub part : HasLine c old.store status (λ line. HasPart line old.sink new.sink)

-- where a write failed, what is left is a prefix of what was to be written and printed. Where the answer names a path, it was
-- the write of that file; where it names none, the put of what is printed
abbrev pub IsPrefix : Option Command → State → State → Status → Type 0
IsPrefix c old new (WriteFailed path) =
    (path ≢ [] → Comes c old.store (λ outcome. IsCutAt outcome.files path old new))
    × (path ≡ [] → Comes c old.store (λ outcome. IsUnreported outcome.files outcome.report old new) ⊎ WasRefusing c old new)
IsPrefix c old new status = ⊤

-- # Either order

-- what a merge comes to, it comes to with its two logs in the other order
abbrev pub IsSameInEitherOrder : Command → Contents → Type 0
IsSameInEitherOrder (Command.merge words) held =
    (outcome : Outcome) → MergeComesTo words held outcome → MergeComesTo (swapped words) held outcome
IsSameInEitherOrder command held = ⊤
