-- A log that passes a limit has a number above it.
use Rattle.std.proofs.Common.{◌≡◌, ℕ, Bool, true, false, List, Option, Some, None, Err}
use Rattle.std.specs.Prelude.{◌<◌, ⊤, not, if◌then◌else◌}
use Rattle.std.specs.Str.{is_utf8}
use Rattle.serde_json.specs.Data.{Data}
use Rattle.serde_json.specs.Read.{read}
use Rattle.mol_base.specs.Limits.{most}
use Rattle.mol_base.specs.declared.ident.Stamp.{Stamp}
use Rattle.mol_log.specs.Form.{IsLogFault, no_entry, no_start}
use Rattle.mol_log.specs.LogLines as log_lines
use Rattle.mol_log.specs.LogLines.{HaveFault, IsEntryFault}
use Rattle.mol_log_rows.specs.declared.lines.fault.LogFault.{LogFault}
use Rattle.mol_log_rows.specs.declared.lines.fault.LogFault.TheVariants.{NotJson, NotUtf8, TooLong, Torn}
use Rattle.mol_log_rows.specs.lines.Lines as sizes
use Rattle.mol_log_rows.specs.lines.Lines.{IsSizeFault, Line, line_data, or_fault}
use Rattle.mol_log_rows.specs.rows.FirstLine as start
use Rattle.mol_log_rows.specs.rows.FirstLine.{IsFirstFault, IsHeaderFault}
use Rattle.mol_log_rows.specs.rows.RowLine as next
use Rattle.mol_log_rows.specs.rows.RowLine.{IsNextFault, IsRowFault}

-- a number above its limit, where a limit is passed
abbrev pub HasAbove : LogFault → Type 0
HasAbove (TooLong which number) = most which < number
HasAbove fault = ⊤

-- the text of a line passes none
no_limit : (number : ℕ) (ends utf8 : Bool) (said : Option Data) (fault : LogFault)
    → (if not ends then Err (Torn number) else if not utf8 then Err (NotUtf8 number) else or_fault (NotJson number) said) ≡ Err fault
    → HasAbove fault
no_limit number false utf8 said (TooLong which count) is = absurd cc
no_limit number true false said (TooLong which count) is = absurd cc
no_limit number true true None (TooLong which count) is = absurd cc
no_limit number true true (Some d) (TooLong which count) is = absurd cc
no_limit number ends utf8 said fault is = tt

of_line : (number : ℕ) (line : Line) (fault : LogFault) → line_data number line ≡ Err fault → HasAbove fault
of_line number line fault is = no_limit number line.ends (is_utf8 line.bytes) (read line.bytes) fault is

of_header : {line : Line} (fault : LogFault) → IsHeaderFault line fault → HasAbove fault
of_header {line} fault (start.unread is) = of_line 1 line fault is
of_header fault (start.no_header text none) = tt

of_size : {bytes : List ℕ} (fault : LogFault) → IsSizeFault bytes fault → HasAbove fault
of_size fault (sizes.many_bytes above) = above
of_size fault (sizes.many_entries short above) = above

of_first : {bytes : List ℕ} (fault : LogFault) → IsFirstFault bytes fault → HasAbove fault
of_first fault (start.too_long size) = of_size fault size
of_first fault (start.no_line short none) = tt
of_first fault (start.bad_line short lines wrong) = of_header fault wrong

of_row : {number : ℕ} {line : Line} (fault : LogFault) → IsRowFault number line fault → HasAbove fault
of_row {number} {line} fault (next.unread is) = of_line number line fault is
of_row fault (next.no_row text none) = tt

of_next : {tags : List (List ℕ)} {earlier : List Stamp} {number : ℕ} {line : Line} (fault : LogFault)
    → IsNextFault tags earlier number line fault
    → HasAbove fault
of_next fault (next.bad_line wrong) = of_row fault wrong
of_next fault (next.no_follower says fails) = tt

of_entry : {tags : List (List ℕ)} {earlier : List Stamp} {number : ℕ} {line : Line} (fault : LogFault)
    → IsEntryFault tags earlier number line fault
    → HasAbove fault
of_entry fault (log_lines.no_row wrong) = of_next fault wrong
of_entry fault (log_lines.no_trees says bad) = tt

of_lines : {tags : List (List ℕ)} {earlier : List Stamp} {number : ℕ} {lines : List Line} (fault : LogFault)
    → HaveFault tags earlier number lines fault
    → HasAbove fault
of_lines fault (log_lines.here wrong) = of_entry fault wrong
of_lines fault (log_lines.later says wrong) = of_lines fault wrong

pub log_above : (bytes : List ℕ) (fault : LogFault) → IsLogFault bytes fault → HasAbove fault
log_above bytes fault (no_start wrong) = of_first fault wrong
log_above bytes fault (no_entry first wrong) = of_lines fault wrong
