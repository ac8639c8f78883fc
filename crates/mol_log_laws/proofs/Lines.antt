-- The lines of a log say a header and entries, or have a first fault.
use Rattle.std.proofs.Common.{◌≡◌, ◌⊎◌, inl, inr, ℕ, suc, ◌<◌, ◌≤◌, Bool, true, false, List, [], ◌∷◌, length, Option, None, Some, Result, Ok, Err, refl, sym, ◌∙◌}
use Rattle.std.proofs.lemmas.Bool.{cases_lt}
use Rattle.serde_json.specs.Data.{Data}
use Rattle.mol_base.specs.Limits.{most}
use Rattle.mol_base.specs.declared.ident.Stamp.{Stamp}
use Rattle.mol_base.specs.declared.limit.Which.TheVariants.{LogBytes, Operations}
use Rattle.mol_log_laws.proofs.Operations.{entry_of}
use Rattle.mol_log_laws.proofs.Words.{parts_told}
use Rattle.mol_log_rows.proofs.lines_lemmas.HeaderLaws.{header_found, header_read}
use Rattle.mol_log_rows.proofs.rows_lemmas.RowsFound.{recorded_found}
use Rattle.mol_log_rows.proofs.rows_lemmas.RowsRead.{recorded_read}
use Rattle.mol_log_rows.specs.lines.HeaderReader.{header_from}
use Rattle.mol_log_rows.specs.lines.Lines.{IsShort, IsSizeFault, Line, counted_entries, line_data, lines_of, many_bytes, many_entries}
use Rattle.mol_log_rows.specs.lines.Stamps.{may_follow}
use Rattle.mol_log_rows.specs.declared.lines.fault.LogFault.{LogFault}
use Rattle.mol_log_rows.specs.declared.lines.fault.LogFault.TheVariants.{BadBody, BadHeader, BadOp, BadStamp, TooLong}
use Rattle.mol_log_rows.specs.declared.lines.header.Header.{Header}
use Rattle.mol_log_rows.specs.rows.FirstLine as start
use Rattle.mol_log_rows.specs.rows.FirstLine.{IsFirstFault, IsHeaderFault, SaysFirst, SaysHeader}
use Rattle.mol_log_rows.specs.rows.RowLine as rows
use Rattle.mol_log_rows.specs.rows.RowLine.{IsNextFault, IsRowFault, SaysNext, SaysRow}
use Rattle.mol_log_rows.specs.rows.RowReader.{recorded_from}
use Rattle.mol_log_rows.specs.declared.rows.row.Recorded.{Recorded}
use Rattle.mol_log.specs.LogLines as log_lines
use Rattle.mol_log.specs.LogLines.{HaveFault, IsEntryFault, SayEntries, SaysEntry, here, later, more_lines, no_lines}
use Rattle.mol_log.specs.entries.Trees.{AreGood, HaveBad, parts}
use Rattle.mol_log.specs.declared.entries.entry.Entry.{Entry}

-- what is said, or a fault
abbrev Told : (X : Type 0) → (X → Type 0) → (LogFault → Type 0) → Type 0
Told X Says HasFault = ((x : X) × Says x) ⊎ ((fault : LogFault) × HasFault fault)

some_and_none : {A : Type 0} {o : Option A} {a : A} → o ≡ Some a → o ≡ None → ⊥
some_and_none is none = let no = sym is ∙ none in cc

-- # The first line

header_told : (line : Line) → Told Header (SaysHeader line) (IsHeaderFault line)
header_told line = by (line_data 1 line) refl where
  by_data : (said : Data) → line_data 1 line ≡ Ok said → (o : Option Header) → header_from said ≡ o
      → Told Header (SaysHeader line) (IsHeaderFault line)
  by_data said text (Some header) is = inl (header, record { said = said; text = text; is = header_found said header is })
  by_data said text None none = inr (BadHeader, start.no_header text (λ header is. some_and_none (header_read said header is) none))

  by : (r : Result Data LogFault) → line_data 1 line ≡ r → Told Header (SaysHeader line) (IsHeaderFault line)
  by (Ok said) text = by_data said text (header_from said) refl
  by (Err fault) is = inr (fault, start.unread is)

size_told : (bytes : List ℕ) → IsShort bytes ⊎ ((fault : LogFault) × IsSizeFault bytes fault)
size_told bytes = by (cases_lt (most LogBytes) (length bytes)) (cases_lt (most Operations) (counted_entries bytes)) where
  by : (most LogBytes < length bytes) ⊎ (length bytes ≤ most LogBytes)
      → (most Operations < counted_entries bytes) ⊎ (counted_entries bytes ≤ most Operations)
      → IsShort bytes ⊎ ((fault : LogFault) × IsSizeFault bytes fault)
  by (inl many) entries = inr (TooLong LogBytes (length bytes), many_bytes many)
  by (inr few) (inl many) = inr (TooLong Operations (counted_entries bytes), many_entries few many)
  by (inr few) (inr also) = inl (record { size = few; entries = also })

-- a header and the lines after it
abbrev pub Start : Type 0
Start = Header × List Line

pub start_told : (bytes : List ℕ) → Told Start (λ begun. SaysFirst bytes begun.0 begun.1) (IsFirstFault bytes)
start_told bytes = by_size (size_told bytes) where
  by_header : IsShort bytes → (first : Line) (rest : List Line) → lines_of bytes ≡ first ∷ rest
      → Told Header (SaysHeader first) (IsHeaderFault first) → Told Start (λ begun. SaysFirst bytes begun.0 begun.1) (IsFirstFault bytes)
  by_header short first rest lines (inl header) =
      inl ((header.0, rest), record { short = short; first = first; lines = lines; says = header.1 })
  by_header short first rest lines (inr fault) = inr (fault.0, start.bad_line short lines fault.1)

  by_lines : IsShort bytes → (lines : List Line) → lines_of bytes ≡ lines
      → Told Start (λ begun. SaysFirst bytes begun.0 begun.1) (IsFirstFault bytes)
  by_lines short [] none = inr (BadHeader, start.no_line short none)
  by_lines short (first ∷ rest) lines = by_header short first rest lines (header_told first)

  by_size : IsShort bytes ⊎ ((fault : LogFault) × IsSizeFault bytes fault)
      → Told Start (λ begun. SaysFirst bytes begun.0 begun.1) (IsFirstFault bytes)
  by_size (inl short) = by_lines short (lines_of bytes) refl
  by_size (inr fault) = inr (fault.0, start.too_long fault.1)

-- # A further line

row_told : (number : ℕ) (line : Line) → Told Recorded (SaysRow number line) (IsRowFault number line)
row_told number line = by (line_data number line) refl where
  by_data : (said : Data) → line_data number line ≡ Ok said → (o : Option Recorded) → recorded_from said ≡ o
      → Told Recorded (SaysRow number line) (IsRowFault number line)
  by_data said text (Some found) is = inl (found, record { said = said; text = text; is = recorded_found said found is })
  by_data said text None none = inr (BadOp number, rows.no_row text (λ stamp row is. some_and_none (recorded_read said stamp row is) none))

  by : (r : Result Data LogFault) → line_data number line ≡ r → Told Recorded (SaysRow number line) (IsRowFault number line)
  by (Ok said) text = by_data said text (recorded_from said) refl
  by (Err fault) is = inr (fault, rows.unread is)

module _ (tags : List (List ℕ)) where
  module _ (earlier : List Stamp) (number : ℕ) (line : Line) where
    next_told : Told Recorded (SaysNext tags earlier number line) (IsNextFault tags earlier number line)
    next_told = by (row_told number line) where
      by_stamp : (found : Recorded) → SaysRow number line found → (follows : Bool) → may_follow tags earlier found.stamp ≡ follows
          → Told Recorded (SaysNext tags earlier number line) (IsNextFault tags earlier number line)
      by_stamp found says true follows = inl (found, record { says = says; follows = follows })
      by_stamp found says false fails = inr (BadStamp number, rows.no_follower says fails)

      by : Told Recorded (SaysRow number line) (IsRowFault number line)
          → Told Recorded (SaysNext tags earlier number line) (IsNextFault tags earlier number line)
      by (inl row) = by_stamp row.0 row.1 (may_follow tags earlier row.0.stamp) refl
      by (inr fault) = inr (fault.0, rows.bad_line fault.1)

    entry_told : Told Entry (SaysEntry tags earlier number line) (IsEntryFault tags earlier number line)
    entry_told = by next_told where
      by_words : (found : Recorded) → SaysNext tags earlier number line found
          → AreGood (parts found.row) ⊎ ((word : ℕ) × HaveBad (parts found.row) word)
          → Told Entry (SaysEntry tags earlier number line) (IsEntryFault tags earlier number line)
      by_words found next (inl good) =
          let entry = entry_of found next.says.is.stamped next.says.is.formed good in
          inl (entry.0, record { row = found; next = next; spelled = entry.1 })
      by_words found next (inr bad) = inr (BadBody number bad.0, log_lines.no_trees next bad.1)

      by : Told Recorded (SaysNext tags earlier number line) (IsNextFault tags earlier number line)
          → Told Entry (SaysEntry tags earlier number line) (IsEntryFault tags earlier number line)
      by (inl next) = by_words next.0 next.1 (parts_told (parts next.0.row))
      by (inr fault) = inr (fault.0, log_lines.no_row fault.1)

  -- # Further lines

  pub entries_told : (earlier : List Stamp) (number : ℕ) (lines : List Line)
      → Told (List Entry) (SayEntries tags earlier number lines) (HaveFault tags earlier number lines)
  entries_told earlier number [] = inl ([], no_lines)
  entries_told earlier number (line ∷ lines) =
      by (λ (entry : Entry). entries_told (entry.stamp ∷ earlier) (suc number) lines) (entry_told earlier number line) where
        more : (entry : Entry) → SaysEntry tags earlier number line entry
            → Told (List Entry) (SayEntries tags (entry.stamp ∷ earlier) (suc number) lines) (HaveFault tags (entry.stamp ∷ earlier) (suc number) lines)
            → Told (List Entry) (SayEntries tags earlier number (line ∷ lines)) (HaveFault tags earlier number (line ∷ lines))
        more entry says (inl rest) = inl (entry ∷ rest.0, more_lines says rest.1)
        more entry says (inr fault) = inr (fault.0, later says fault.1)

        by : ((entry : Entry)
            → Told (List Entry) (SayEntries tags (entry.stamp ∷ earlier) (suc number) lines)
            (HaveFault tags (entry.stamp ∷ earlier) (suc number) lines))
            → Told Entry (SaysEntry tags earlier number line) (IsEntryFault tags earlier number line)
            → Told (List Entry) (SayEntries tags earlier number (line ∷ lines)) (HaveFault tags earlier number (line ∷ lines))
        by behind (inl entry) = more entry.0 entry.1 (behind entry.0)
        by behind (inr fault) = inr (fault.0, here fault.1)
