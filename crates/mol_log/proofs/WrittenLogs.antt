-- The written form of a log spells it, where each line of it is read as what was written there.
use Rattle.std.proofs.Common.{◌≡◌, ℕ, suc, ◌+◌, ◌≤◌, List, [], ◌∷◌, ◌++◌, map, length, Bool, true, false, refl, ap, ◌∙◌, arith}
use Rattle.std.proofs.Common.{append_assoc}
use Rattle.std.proofs.Math.Logic.{∥∥₁_prop, ∥∥₁_map, ∥∥₁_elim}
use Rattle.std.specs.Prelude.{not, count_by}
use Rattle.std.specs.List.{concat, slice_split, onto_first}
use Rattle.std.proofs.lemmas.List.Splits.{slice_split-cons_no, slice_split-cons_yes, length-slice_split}
use Rattle.serde_json.specs.Data.{Data}
use Rattle.serde_json.specs.Written.{compact_text}
use Rattle.mol_base.proofs.Tags.{both_true}
use Rattle.mol_base.specs.Limits.{most}
use Rattle.mol_base.specs.declared.ident.Stamp.{Stamp}
use Rattle.mol_base.specs.declared.limit.Which.TheVariants.{LogBytes}
use Rattle.mol_log_rows.specs.lines.Headers.{IsDigest, header_data}
use Rattle.mol_log_rows.specs.lines.Lines.{Line, IsShort, ended, is_end, lines_from, lines_of}
use Rattle.mol_log.specs.entries.Entries.{recorded_of}
use Rattle.mol_log.specs.entries.EntryForms.{IsEntry}
use Rattle.mol_log.specs.declared.entries.entry.Entry.{Entry}
use Rattle.mol_log_objects.proofs.DataTexts.{is_inner, is_line}
use Rattle.mol_log.proofs.RowTexts.{header-line, row-line}
use Rattle.mol_log.specs.Form.{IsLogText, header_of}
use Rattle.mol_log.specs.LogForms.{Follow, IsLog}
use Rattle.mol_log.specs.LogLines.{SayEntries, no_lines, more_lines}
use Rattle.mol_log.specs.Written.{IsReadBack, line_text, entry_data, entry_text, written}
use Rattle.mol_log.specs.declared.log.Log.{Log}

-- ---- lines that were written are cut apart

untrue : (b : Bool) → not b ≡ true → b ≡ false
untrue true is = absurd cc
untrue false is = refl

split-text : (text rest : List ℕ) → is_line text ≡ true → slice_split is_end (text ++ 10 ∷ rest) ≡ text ∷ slice_split is_end rest
split-text [] rest is = slice_split-cons_yes is_end 10 rest refl
split-text (byte ∷ text) rest is =
    let parts = both_true (is_inner byte) (is_line text) is in
    slice_split-cons_no is_end byte (text ++ 10 ∷ rest) (untrue (is_end byte) parts.0) ∙ ap (onto_first byte) (split-text text rest parts.1)

-- a piece before LF is a line
piece-line : (piece more : List ℕ) → lines_from (piece ∷ slice_split is_end more) ≡ ended piece ∷ lines_of more
piece-line piece more = by (slice_split is_end more) (length-slice_split is_end more) where
  by : (pieces : List (List ℕ)) → length pieces ≡ count_by is_end more + 1 → lines_from (piece ∷ pieces) ≡ ended piece ∷ lines_from pieces
  by [] e = absurd (omega (arith, e))
  by (next ∷ pieces) e = refl

cut-text : (text rest : List ℕ) → is_line text ≡ true → lines_of (text ++ 10 ∷ rest) ≡ ended text ∷ lines_of rest
cut-text text rest is = ap lines_from (split-text text rest is) ∙ piece-line text rest

one-more : (text rest : List ℕ) → is_line text ≡ true → count_by is_end (text ++ 10 ∷ rest) ≡ count_by is_end rest + 1
one-more text rest is =
    let pieces = ap length (split-text text rest is) in
    omega (arith, pieces, length-slice_split is_end (text ++ 10 ∷ rest), length-slice_split is_end rest)

line-before : (d : Data) (rest : List ℕ) → line_text d ++ rest ≡ compact_text d ++ 10 ∷ rest
unfolding line_text
line-before d rest = append_assoc (compact_text d) (10 ∷ []) rest

-- the line that is written for an entry
abbrev line_of : Entry → Line
line_of entry = ended (compact_text (entry_data entry))

abbrev pub text_of : List Entry → List ℕ
text_of entries = concat (map entry_text entries)

inner : (entry : Entry) → is_line (compact_text (entry_data entry)) ≡ true
inner entry = (row-line (recorded_of entry).stamp (recorded_of entry).row).line

lines-of-all : (entries : List Entry) → lines_of (text_of entries) ≡ map line_of entries
lines-of-all [] = refl
lines-of-all (entry ∷ entries) =
    ap lines_of (line-before (entry_data entry) (text_of entries))
    ∙ cut-text (compact_text (entry_data entry)) (text_of entries) (inner entry)
    ∙ ap (λ lines. line_of entry ∷ lines) (lines-of-all entries)

count-of-all : (entries : List Entry) → count_by is_end (text_of entries) ≡ length entries
count-of-all [] = refl
count-of-all (entry ∷ entries) =
    let first = ap (count_by is_end) (line-before (entry_data entry) (text_of entries)) in
    omega (arith, first, one-more (compact_text (entry_data entry)) (text_of entries) (inner entry), count-of-all entries)

-- ---- each line says its entry

abbrev pub AreReadBack : List Entry → Type 0
AreReadBack [] = Unit {0}
AreReadBack (entry ∷ entries) = IsReadBack (entry_data entry) × AreReadBack entries

abbrev AreEntries : List Entry → Type 0
AreEntries [] = Unit {0}
AreEntries (entry ∷ entries) = IsEntry entry.stamp entry.op × AreEntries entries

are-entries : (entries : List Entry) → ∥ AreEntries entries ∥₁
are-entries [] = ∣ tt ∣₁
are-entries (entry ∷ entries) =
    ∥∥₁_elim entry.formed ∥∥₁_prop (λ first. ∥∥₁_map (are-entries entries) (λ more. (first, more)))

say-entries : (tags : List (List ℕ)) (earlier : List Stamp) (number : ℕ) (entries : List Entry) → AreEntries entries
    → Follow tags earlier entries → AreReadBack entries → SayEntries tags earlier number (map line_of entries) entries
say-entries tags earlier number [] are follow read = no_lines
say-entries tags earlier number (entry ∷ entries) are follow read =
    more_lines (record {
      row = recorded_of entry;
      next = record {
        says = record {
          said = entry_data entry;
          text = read.0 number;
          is = record { is = refl; stamped = are.0.stamped; formed = are.0.formed };
        };
        follows = follow.0;
      };
      spelled = record { stamp = refl; op = are.0.trees };
    }) (say-entries tags (entry.stamp ∷ earlier) (suc number) entries are.1 follow.1 read.1)

-- ---- the whole

module _ (log : Log) (digest : IsDigest log.base_digest) (read : IsReadBack (header_data (header_of log))) (each : AreReadBack log.entries)
    (size : length (written log) ≤ most LogBytes) where
  head-inner : is_line (compact_text (header_data (header_of log))) ≡ true
  head-inner = (header-line (header_of log)).line

  bytes-are : written log ≡ compact_text (header_data (header_of log)) ++ 10 ∷ text_of log.entries
  bytes-are = line-before (header_data (header_of log)) (text_of log.entries)

  short : IsLog log.tags log.entries → IsShort (written log)
  short is = record {
    size = size;
    entries =
        let all = ap (count_by is_end) bytes-are in
        let more = one-more (compact_text (header_data (header_of log))) (text_of log.entries) head-inner in
        omega (arith, all, more, count-of-all log.entries, is.few);
  }

  lines : lines_of (written log) ≡ ended (compact_text (header_data (header_of log))) ∷ map line_of log.entries
  lines =
      ap lines_of bytes-are ∙ cut-text (compact_text (header_data (header_of log))) (text_of log.entries) head-inner
      ∙ ap (λ rest. ended (compact_text (header_data (header_of log))) ∷ rest) (lines-of-all log.entries)

  spells : IsLog log.tags log.entries → AreEntries log.entries → IsLogText (written log) log
  spells is are = record {
    rest = map line_of log.entries;
    first = record {
      short = short is;
      first = ended (compact_text (header_data (header_of log)));
      lines = lines;
      says = record {
        said = header_data (header_of log);
        text = read 1;
        is = record { is = refl; digest = digest; tags = is.tagged };
      };
    };
    entries = say-entries log.tags [] 2 log.entries are is.follow each;
  }

  pub written-spells : ∥ IsLogText (written log) log ∥₁
  written-spells = ∥∥₁_elim log.formed ∥∥₁_prop (λ is. ∥∥₁_map (are-entries log.entries) (spells is))
