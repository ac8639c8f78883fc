-- A log as lines: what one is, how long it may be, and the JSON text of one line.
use Rattle.std.specs.Prelude.{ℕ, ◌-◌, ◌==◌, ◌<◌, ◌≤◌, Bool, true, false, not, if◌then◌else◌, List, [], ◌∷◌, length, count_by, Option, None, Some, Result, Ok, Err}
use Rattle.std.specs.List.{slice_split}
use Rattle.std.specs.Str.{is_utf8}
use Rattle.serde_json.specs.Data.{Data}
use Rattle.serde_json.specs.Read.{read}
use Rattle.mol_base.specs.Limits.{most}
use Rattle.mol_base.specs.declared.limit.Which.TheVariants.{LogBytes, Operations}
use Rattle.mol_log_rows.specs.declared.lines.lines.Line.{Line as LineSlice}
use Rattle.mol_log_rows.specs.declared.lines.lines.Lines.{Lines as LineCursor}
use Rattle.mol_log_rows.specs.declared.lines.fault.LogFault.{LogFault}
use Rattle.mol_log_rows.specs.declared.lines.fault.LogFault.TheVariants.{TooLong, Torn, NotUtf8, NotJson}

-- # Lines

-- a line, and whether LF ends it
pub record Line : Type 0 where
  pub bytes : List ℕ
  pub ends : Bool

abbrev pub ended : List ℕ → Line
ended bytes = record { bytes = bytes; ends = true }

abbrev pub torn : List ℕ → Line
torn bytes = record { bytes = bytes; ends = false }

-- a line of the code
abbrev pub seen : LineSlice → Line
seen line = record { bytes = line.bytes.now; ends = line.ends }

abbrev pub is_end : ℕ → Bool
is_end byte = byte == 10

-- what stands after the last LF: a torn line, and none where it has no byte
abbrev pub last_line : List ℕ → List Line
last_line [] = []
last_line (byte ∷ bytes) = torn (byte ∷ bytes) ∷ []

-- each piece before LF is a line
abbrev pub lines_from : List (List ℕ) → List Line
lines_from [] = []
lines_from (piece ∷ []) = last_line piece
lines_from (piece ∷ next ∷ more) = ended piece ∷ lines_from (next ∷ more)

-- the lines of a log
abbrev pub lines_of : List ℕ → List Line
lines_of bytes = lines_from (slice_split is_end bytes)

-- the lines that are not taken yet
abbrev pub lines_left : LineCursor → List Line
lines_left lines = lines_of lines.rest.now

-- how many lines after the first end in LF: so many entries are counted, whatever stands there
abbrev pub counted_entries : List ℕ → ℕ
counted_entries bytes = count_by is_end bytes - 1

-- no more bytes, and no more entries, than a log may have
pub record IsShort (bytes : List ℕ) : Type 0 where
  pub size : length bytes ≤ most LogBytes
  pub entries : counted_entries bytes ≤ most Operations

-- more bytes than a log may have, and else more entries
pub data IsSizeFault (bytes : List ℕ) : LogFault → Type 0 where
  many_bytes : most LogBytes < length bytes → IsSizeFault bytes (TooLong LogBytes (length bytes))
  many_entries : length bytes ≤ most LogBytes → most Operations < counted_entries bytes
      → IsSizeFault bytes (TooLong Operations (counted_entries bytes))

-- # The text of a line

abbrev pub or_fault : {A : Type 0} → LogFault → Option A → Result A LogFault
or_fault fault None = Err fault
or_fault fault (Some a) = Ok a

-- What the text of the line of this number says (RFC 8259): numbers, texts, lists and objects. Else the first of these: it has no
-- LF, it is not UTF-8, it is no JSON text that nests at most 127 deep.
abbrev pub line_data : ℕ → Line → Result Data LogFault
line_data number line =
    if not line.ends then Err (Torn number)
    else if not (is_utf8 line.bytes) then Err (NotUtf8 number)
    else or_fault (NotJson number) (read line.bytes)
