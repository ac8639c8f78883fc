-- The lines of a log that are left, read one after the other.
use Rattle.std.specs.Prelude.{◌≡◌, ◌≢◌, ℕ, ◌+◌, List, [], ◌∷◌, Option, None, Some, Result, Ok, Err}
use Rattle.mol_base.specs.declared.ident.Stamp.{Stamp}
use Rattle.mol_log_rows.specs.lines.Lines.{Line, lines_left}
use Rattle.mol_log_rows.specs.lines.Stamps.{Knows}
use Rattle.mol_log_rows.specs.declared.lines.fault.LogFault.{LogFault}
use Rattle.mol_log_rows.specs.declared.lines.fault.LogFault.TheVariants.{OutOfMemory}
use Rattle.mol_log_rows.specs.rows.RowLine.{SaysNext, IsNextFault}
use Rattle.mol_log_rows.specs.declared.rows.row.Recorded.{Recorded}
use Rattle.mol_log_rows.specs.declared.rows.rows.Rows.{Rows}

-- what the code stands on: these lines, the first of which has this number, after rows with these stamps
pub record StandsOn (rows : Rows) (tags : List (List ℕ)) (earlier : List Stamp) (number : ℕ) (lines : List Line) : Type 0 where
  pub knows : Knows rows.last tags earlier
  pub counted : rows.number ≡ number
  pub left : lines_left rows.rest ≡ lines

-- the next line says the row, and the code then stands behind it
pub record Takes (tags : List (List ℕ)) (earlier : List Stamp) (number : ℕ) (lines : List Line) (found : Recorded) (new : Rows)
    : Type 0 where
  pub line : Line
  pub more : List Line
  pub cut : lines ≡ line ∷ more
  pub says : SaysNext tags earlier number line found
  pub behind : StandsOn new tags (found.stamp ∷ earlier) (number + 1) more

-- the next line has this fault, unless memory ran out, and the code then stands behind it
pub record Passes (tags : List (List ℕ)) (earlier : List Stamp) (number : ℕ) (lines : List Line) (fault : LogFault) (new : Rows)
    : Type 0 where
  pub line : Line
  pub more : List Line
  pub cut : lines ≡ line ∷ more
  pub has : fault ≢ OutOfMemory → IsNextFault tags earlier number line fault
  pub behind : StandsOn new tags earlier (number + 1) more

-- what the next line says, if there is one
abbrev pub IsNext : List (List ℕ) → List Stamp → ℕ → List Line → Result (Option Recorded) LogFault → Rows → Type 0
IsNext tags earlier number lines (Ok None) new = (lines ≡ []) × StandsOn new tags earlier number []
IsNext tags earlier number lines (Ok (Some found)) new = Takes tags earlier number lines found new
IsNext tags earlier number lines (Err fault) new = Passes tags earlier number lines fault new
