-- The written form of a log: a line for the header, and a line for each entry.
use Rattle.std.specs.Prelude.{◌≡◌, ℕ, List, [], ◌∷◌, ◌++◌, map, Ok}
use Rattle.std.specs.List.{concat}
use Rattle.serde_json.specs.Data.{Data}
use Rattle.serde_json.specs.Written.{compact_text}
use Rattle.mol_log_rows.specs.lines.Headers.{header_data}
use Rattle.mol_log_rows.specs.lines.Lines.{ended, line_data}
use Rattle.mol_log_rows.specs.rows.RowData.{row_data}
use Rattle.mol_log.specs.entries.RowsOf.{row_of}
use Rattle.mol_log.specs.declared.entries.entry.Entry.{Entry}
use Rattle.mol_log.specs.Form.{header_of}
use Rattle.mol_log.specs.declared.log.Log.{Log}

-- the object's compact text (RFC 8259 without white space, keys in the order of their bytes), and LF
unfoldable pub line_text : Data → List ℕ
line_text d = compact_text d ++ 10 ∷ []

-- the object of an entry
abbrev pub entry_data : Entry → Data
entry_data entry = row_data entry.stamp (row_of entry.op)

abbrev pub entry_text : Entry → List ℕ
entry_text entry = line_text (entry_data entry)

abbrev pub written : Log → List ℕ
written log = line_text (header_data (header_of log)) ++ concat (map entry_text log.entries)

-- the compact text of an object is read as the object, as a line of whatever number
abbrev pub IsReadBack : Data → Type 0
IsReadBack d = (number : ℕ) → line_data number (ended (compact_text d)) ≡ Ok d
