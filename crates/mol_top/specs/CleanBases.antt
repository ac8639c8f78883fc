-- What is read of a base that is a program, and what stops the reading.
use Rattle.std.specs.Prelude.{◌≡◌, ℕ, Bool, true, false, List, length}
use Rattle.mol_base.specs.Files.{FilePair}
use Rattle.mol_outside.specs.Contents.{Contents}
use Rattle.mol_program.specs.Programs.{IsReadAs}
use Rattle.mol_top.specs.Bases.{BaseRefuses, IsBaseOf}
use Rattle.mol_top.specs.Carried.{Carries, IsSourcePath, NoPath}
use Rattle.mol_top.specs.Files.{base_files}
use Rattle.mol_top.specs.Outside.{IfTold, Store}
use Rattle.mol_top.specs.Report.{line_bytes, names_addresses, refusal_line}
use Rattle.mol_top.specs.Steps.{IsBelow, StopsBy}
use Rattle.mol_top.specs.UncleanLines.{IsProgramLine}
use Rattle.mol_top.specs.declared.clean_base.BaseProgram.{BaseProgram}
use Rattle.mol_top.specs.declared.refusal.Refusal.{Refusal}
use Rattle.mol_top.specs.declared.status.Status.{Status}

-- it is the program that these files read as, and their number
pub record IsProgramOf (files : List FilePair) (read : BaseProgram) : Type 0 where
  pub read_as : IsReadAs files read.table
  pub count : read.files ≡ length files

-- it is the program of a base, and the number of its files
pub record IsReadOf (base : List ℕ) (held : Contents) (read : BaseProgram) : Type 0 where
  pub program : IsBaseOf base held read.table
  pub files : read.files ≡ length (base_files base held)

-- the line of a refusal of a base, over what a store holds, where it tells: of one that names addresses, over the program of the base
abbrev pub HasBaseLineBy : Bool → List ℕ → Store → Refusal → Type 0
HasBaseLineBy true base store refusal = IfTold store.held (λ held. IsProgramLine base held refusal.status (line_bytes refusal.line))
HasBaseLineBy false base store refusal = line_bytes refusal.line ≡ refusal_line refusal.status

abbrev pub HasBaseLine : List ℕ → Store → Refusal → Type 0
HasBaseLine base store refusal = HasBaseLineBy (names_addresses refusal.status) base store refusal

-- the reading of a base stops, and this is its refusal
pub record IsBaseStopped (base : List ℕ) (old new : Store) (refusal : Refusal) : Type 0 where
  pub cause : StopsBy (IsBelow base old.held) old new (BaseRefuses base) refusal.status
  pub line : HasBaseLine base old refusal

-- an answer to the reading of a base carries a path of the base
abbrev pub CarriesBase : List ℕ → Status → Type 0
CarriesBase base status = Carries (IsSourcePath base) (IsSourcePath base) NoPath status
