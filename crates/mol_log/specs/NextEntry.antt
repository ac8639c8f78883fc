-- The lines of a log that are left, read one after the other as entries.
use Rattle.std.specs.Prelude.{◌≡◌, ℕ, ◌+◌, List, [], ◌∷◌, Option, None, Some}
use Rattle.mol_base.specs.declared.ident.Stamp.{Stamp}
use Rattle.mol_log_rows.specs.lines.Lines.{Line}
use Rattle.mol_log_rows.specs.rows.NextRow.{StandsOn}
use Rattle.mol_log_rows.specs.declared.rows.rows.Rows.{Rows}
use Rattle.mol_log.specs.declared.entries.entry.Entry.{Entry}
use Rattle.mol_log.specs.LogLines.{SaysEntry}

-- the code stands on some lines, after entries with some stamps
pub record Stands (rows : Rows) : Type 0 where
  pub tags : List (List ℕ)
  pub earlier : List Stamp
  pub number : ℕ
  pub lines : List Line
  pub on : StandsOn rows tags earlier number lines

-- the next line says the entry, and the code then stands behind it
pub record TakesEntry (tags : List (List ℕ)) (earlier : List Stamp) (number : ℕ) (lines : List Line) (entry : Entry) (new : Rows)
    : Type 0 where
  pub line : Line
  pub more : List Line
  pub cut : lines ≡ line ∷ more
  pub says : SaysEntry tags earlier number line entry
  pub behind : StandsOn new tags (entry.stamp ∷ earlier) (number + 1) more

-- the entry that the next line says, if there is one
abbrev pub IsNextEntry : List (List ℕ) → List Stamp → ℕ → List Line → Rows → Option Entry → Type 0
IsNextEntry tags earlier number lines new None = lines ≡ []
IsNextEntry tags earlier number lines new (Some entry) = TakesEntry tags earlier number lines entry new
