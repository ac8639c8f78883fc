-- What bytes spell as a log is what the type of a log keeps, and so is a log without entries.
use Rattle.std.proofs.Common.{◌≡◌, ℕ, ◌+◌, ◌≤◌, List, [], ◌∷◌, length, Bool, true, false, cond, Ok, Err, refl, sym, ap, ◌∙◌, subst}
use Rattle.std.proofs.Common.{arith}
use Rattle.std.specs.Prelude.{◌&&◌, if◌then◌else◌, not, count_by}
use Rattle.std.specs.Str.{is_utf8}
use Rattle.std.specs.List.{slice_split}
use Rattle.std.proofs.lemmas.List.Splits.{length-slice_split}
use Rattle.serde_json.specs.Data.{Data}
use Rattle.serde_json.specs.Read.{read}
use Rattle.mol_base.proofs.Spelled.{is_tag-to}
use Rattle.mol_base.specs.Tag.{IsTag}
use Rattle.mol_base.specs.declared.ident.Stamp.{Stamp}
use Rattle.mol_log_rows.specs.lines.Lines.{Line, is_end, last_line, lines_from, lines_of, line_data, or_fault}
use Rattle.mol_log_rows.specs.lines.Stamps.{may_follow}
use Rattle.mol_log_rows.specs.declared.lines.fault.LogFault.TheVariants.{Torn, NotUtf8, NotJson}
use Rattle.mol_log.specs.declared.entries.entry.Entry.{Entry}
use Rattle.mol_log_rows.specs.rows.FirstLine.{SaysFirst}
use Rattle.mol_log_rows.specs.declared.lines.header.Header.{Header}
use Rattle.mol_log.specs.LogForms.{Follow, IsLog}
use Rattle.mol_log.specs.LogLines.{SayEntries, no_lines, more_lines}

-- ---- lines that say something end in LF

whole : (number : ℕ) (line : Line) (d : Data) → line_data number line ≡ Ok d → line.ends ≡ true
whole number line d is = by line.ends is where
  by : (ends : Bool)
      → (if not ends then Err (Torn number)
      else if not (is_utf8 line.bytes) then Err (NotUtf8 number)
      else or_fault (NotJson number) (read line.bytes)) ≡ Ok d
      → ends ≡ true
  by true is = refl
  by false is = absurd cc

-- how many of the lines end so
abbrev ended_count : List Line → ℕ
ended_count [] = 0
ended_count (line ∷ lines) = cond line.ends 1 0 + ended_count lines

last-count : (piece : List ℕ) → ended_count (last_line piece) ≡ 0
last-count [] = refl
last-count (byte ∷ bytes) = refl

pieces-count : (piece : List ℕ) (more : List (List ℕ)) → ended_count (lines_from (piece ∷ more)) ≤ length more
pieces-count piece [] = omega (arith, last-count piece)
pieces-count piece (next ∷ more) = omega (arith, pieces-count next more)

-- as many as there are LF
count-of : (bytes : List ℕ) → ended_count (lines_of bytes) ≤ count_by is_end bytes
count-of bytes = by (slice_split is_end bytes) (length-slice_split is_end bytes) where
  by : (pieces : List (List ℕ)) → length pieces ≡ count_by is_end bytes + 1 → ended_count (lines_from pieces) ≤ count_by is_end bytes
  by [] e = absurd (omega (arith, e))
  by (piece ∷ pieces) e = omega (arith, e, pieces-count piece pieces)

-- ---- the entries that the lines say

all-whole : {tags : List (List ℕ)} {earlier : List Stamp} {number : ℕ} {lines : List Line} {entries : List Entry}
    → SayEntries tags earlier number lines entries → ended_count lines ≡ length entries
all-whole no_lines = refl
all-whole {number = number} (more_lines {line = line} {lines = lines} {entry = entry} {entries = entries} says more) =
    let first = whole number line says.next.says.said says.next.says.text in
    let count : ended_count (line ∷ lines) ≡ 1 + ended_count lines = ap (λ b. cond b 1 0 + ended_count lines) first in
    omega (arith, count, all-whole more)

all-follow : {tags : List (List ℕ)} {earlier : List Stamp} {number : ℕ} {lines : List Line} {entries : List Entry}
    → SayEntries tags earlier number lines entries → Follow tags earlier entries
all-follow no_lines = tt
all-follow {tags = tags} {earlier = earlier} (more_lines {entry = entry} says more) =
    (ap (may_follow tags earlier) says.spelled.stamp ∙ says.next.follows, all-follow more)

-- what bytes spell is a log
pub kept : (bytes : List ℕ) (header : Header) (rest : List Line) (entries : List Entry) → SaysFirst bytes header rest
    → SayEntries header.tags [] 2 rest entries → IsLog header.tags entries
kept bytes header rest entries first says =
    let head = whole 1 first.first first.says.said first.says.text in
    let count : ended_count (lines_of bytes) ≡ 1 + ended_count rest =
    ap ended_count first.lines ∙ ap (λ b. cond b 1 0 + ended_count rest) head in
    record {
      tagged = first.says.is.tags;
      few = omega (arith, count, count-of bytes, all-whole says, first.short.entries);
      follow = all-follow says;
    }

-- ---- a log without entries

pub no_entries : (tag : List ℕ) (tags : List (List ℕ)) (entries : List Entry) → tags ≡ tag ∷ [] → entries ≡ [] → IsTag tag
    → IsLog tags entries
no_entries tag tags entries one none is =
    let empty : IsLog (tag ∷ []) [] = record {
      tagged = ap (λ b. (true && (b && true)) && true) (is_tag-to tag is);
      few = omega arith;
      follow = tt;
    } in
    subst (λ (p : List (List ℕ) × List Entry). IsLog p.0 p.1) (λ i. (sym one i, sym none i)) empty
