-- The lines of a log after the first, as the entries that they say, and the first fault of lines that say none.
use Rattle.std.specs.Prelude.{ℕ, suc, List, [], ◌∷◌}
use Rattle.mol_base.specs.declared.ident.Stamp.{Stamp}
use Rattle.mol_log_rows.specs.lines.Lines.{Line}
use Rattle.mol_log_rows.specs.declared.lines.fault.LogFault.{LogFault}
use Rattle.mol_log_rows.specs.declared.lines.fault.LogFault.TheVariants.{BadBody}
use Rattle.mol_log_rows.specs.rows.RowLine.{SaysNext, IsNextFault}
use Rattle.mol_log_rows.specs.declared.rows.row.Recorded.{Recorded}
use Rattle.mol_log.specs.entries.Entries.{SpellsEntry}
use Rattle.mol_log.specs.entries.Trees.{Bad}
use Rattle.mol_log.specs.declared.entries.entry.Entry.{Entry}

-- # One line, after entries with these stamps, the latest one first

-- the line of this number says a row that may follow them, and the row spells the entry
pub record SaysEntry (tags : List (List ℕ)) (earlier : List Stamp) (number : ℕ) (line : Line) (entry : Entry) : Type 0 where
  pub row : Recorded
  pub next : SaysNext tags earlier number line row
  pub spelled : SpellsEntry row entry

-- Why the line says no entry, the first of these that holds. A list of words is looked at last: the fault names the first word of
-- the first list up to which there is no tree.
pub data IsEntryFault (tags : List (List ℕ)) (earlier : List Stamp) (number : ℕ) (line : Line) : LogFault → Type 0 where
  no_row : {fault : LogFault} → IsNextFault tags earlier number line fault → IsEntryFault tags earlier number line fault
  no_trees : {row : Recorded} {word : ℕ} → SaysNext tags earlier number line row → Bad row.row word
      → IsEntryFault tags earlier number line (BadBody number word)

-- # Lines, the first of which has this number

-- they say these entries, each of which may follow those before it
pub data SayEntries (tags : List (List ℕ)) : List Stamp → ℕ → List Line → List Entry → Type 0 where
  no_lines : {earlier : List Stamp} {number : ℕ} → SayEntries tags earlier number [] []
  more_lines : {earlier : List Stamp} {number : ℕ} {line : Line} {lines : List Line} {entry : Entry} {entries : List Entry}
      → SaysEntry tags earlier number line entry
      → SayEntries tags (entry.stamp ∷ earlier) (suc number) lines entries
      → SayEntries tags earlier number (line ∷ lines) (entry ∷ entries)

-- the first of them that says no entry has this fault
pub data HaveFault (tags : List (List ℕ)) : List Stamp → ℕ → List Line → LogFault → Type 0 where
  here : {earlier : List Stamp} {number : ℕ} {line : Line} {lines : List Line} {fault : LogFault}
      → IsEntryFault tags earlier number line fault
      → HaveFault tags earlier number (line ∷ lines) fault
  later : {earlier : List Stamp} {number : ℕ} {line : Line} {lines : List Line} {entry : Entry} {fault : LogFault}
      → SaysEntry tags earlier number line entry
      → HaveFault tags (entry.stamp ∷ earlier) (suc number) lines fault
      → HaveFault tags earlier number (line ∷ lines) fault
