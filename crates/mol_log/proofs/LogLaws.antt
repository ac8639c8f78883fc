-- Bytes spell at most one log and have at most one first fault, and not both.
use mathlib.Core.HLevel.{is_prop→PathP}
use Rattle.std.proofs.Math.Logic.{∥∥₁_prop}
use Rattle.std.proofs.Common.{◌≡◌, ℕ, suc, List, [], ◌∷◌, true, false, Ok, Some, sym, ap, ◌∙◌, subst, refl, arith}
use Rattle.serde_json.specs.Data.{Data}
use Rattle.mol_base.specs.declared.ident.Stamp.{Stamp}
use Rattle.mol_log_rows.specs.lines.Headers.{IsHeader}
use Rattle.mol_log_rows.specs.lines.Lines as sizes
use Rattle.mol_log_rows.specs.lines.Lines.{Line, IsShort, IsSizeFault, lines_of, line_data}
use Rattle.mol_log_rows.specs.lines.Stamps.{may_follow}
use Rattle.mol_log_rows.specs.declared.lines.fault.LogFault.{LogFault}
use Rattle.mol_log_rows.specs.declared.lines.fault.LogFault.TheVariants.{BadBody}
use Rattle.mol_log_rows.specs.declared.lines.header.Header.{Header}
use Rattle.mol_log_rows.proofs.lines_lemmas.HeaderLaws.{header_read}
use Rattle.mol_log_rows.specs.rows.FirstLine as start
use Rattle.mol_log_rows.specs.rows.FirstLine.{SaysHeader, IsHeaderFault, SaysFirst, IsFirstFault}
use Rattle.mol_log_rows.specs.rows.RowData.{IsRow}
use Rattle.mol_log_rows.specs.rows.RowLine as next
use Rattle.mol_log_rows.specs.rows.RowLine.{SaysRow, IsRowFault, SaysNext, IsNextFault}
use Rattle.mol_log_rows.specs.rows.RowReader.{recorded_of}
use Rattle.mol_log_rows.specs.declared.rows.row.Recorded.{Recorded}
use Rattle.mol_log_rows.specs.declared.rows.row.Row.{Row}
use Rattle.mol_log_rows.proofs.rows_lemmas.RowsRead.{recorded_read}
use Rattle.mol_log.proofs.entries_lemmas.GoodParts.{clash, one_bad}
use Rattle.mol_log.proofs.entries_lemmas.OneEntry.{one_entry as same_entry}
use Rattle.mol_log.specs.entries.Entries.{SpellsEntry}
use Rattle.mol_log.specs.entries.Trees.{Bad}
use Rattle.mol_log.specs.declared.entries.entry.Entry.{Entry}
use Rattle.mol_log.specs.Form.{IsLogText, IsLogFault, no_start, no_entry, header_of}
use Rattle.mol_log.specs.LogForms.{IsLog}
use Rattle.mol_log.specs.LogLines as log_lines
use Rattle.mol_log.specs.LogLines.{SaysEntry, IsEntryFault, SayEntries, HaveFault, no_lines, more_lines, here, later}
use Rattle.mol_log.specs.declared.log.Log.{Log}

-- ---- one object

some_is : {A : Type 0} {a b : A} → Some a ≡ Some b → a ≡ b
some_is e = cc

-- an object is of one stamp and one row
one_row : {said : Data} {stamp stamp' : Stamp} {row row' : Row} → IsRow said stamp row → IsRow said stamp' row'
    → recorded_of stamp row ≡ recorded_of stamp' row'
one_row {said} {stamp} {stamp'} {row} {row'} a b =
    some_is (sym (recorded_read said stamp row a) ∙ recorded_read said stamp' row' b)

-- an object is of one header
one_header : {said : Data} {header header' : Header} → IsHeader said header → IsHeader said header' → header ≡ header'
one_header {said} {header} {header'} a b = some_is (sym (header_read said header a) ∙ header_read said header' b)

same_said : (number : ℕ) (line : Line) {said said' : Data} → line_data number line ≡ Ok said → line_data number line ≡ Ok said'
    → said ≡ said'
same_said number line a b = cc

moved : {said said' : Data} {stamp : Stamp} {row : Row} → said ≡ said' → IsRow said stamp row → IsRow said' stamp row
moved {stamp} {row} same is = subst (λ d. IsRow d stamp row) same is

-- ---- the first line

header_line : {line : Line} {header header' : Header} → SaysHeader line header → SaysHeader line header' → header ≡ header'
header_line {header} a b = one_header (subst (λ d. IsHeader d header) (same_said _ _ a.text b.text) a.is) b.is

one_header_fault : {line : Line} {fault fault' : LogFault} → IsHeaderFault line fault → IsHeaderFault line fault' → fault ≡ fault'
one_header_fault (start.unread a) (start.unread b) = cc
one_header_fault (start.unread a) (start.no_header b n) = absurd cc
one_header_fault (start.no_header a n) (start.unread b) = absurd cc
one_header_fault (start.no_header a n) (start.no_header b m) = refl

no_header_fault : {line : Line} {fault : LogFault} {header : Header} → SaysHeader line header → IsHeaderFault line fault → ⊥
no_header_fault a (start.unread b) = let text = a.text in cc
no_header_fault {header} a (start.no_header b n) = n header (subst (λ d. IsHeader d header) (same_said _ _ a.text b) a.is)

one_size : {bytes : List ℕ} {fault fault' : LogFault} → IsSizeFault bytes fault → IsSizeFault bytes fault' → fault ≡ fault'
one_size (sizes.many_bytes a) (sizes.many_bytes b) = refl
one_size (sizes.many_bytes a) (sizes.many_entries b c) = absurd (omega (arith, a, b))
one_size (sizes.many_entries a c) (sizes.many_bytes b) = absurd (omega (arith, a, b))
one_size (sizes.many_entries a c) (sizes.many_entries b d) = refl

short_size : {bytes : List ℕ} {fault : LogFault} → IsShort bytes → IsSizeFault bytes fault → ⊥
short_size short (sizes.many_bytes a) = omega (arith, a, short.size)
short_size short (sizes.many_entries a b) = omega (arith, b, short.entries)

one_line : (bytes : List ℕ) {first first' : Line} {rest rest' : List Line} → lines_of bytes ≡ first ∷ rest
    → lines_of bytes ≡ first' ∷ rest' → first ≡ first'
one_line bytes a b = cc

one_rest : (bytes : List ℕ) {first first' : Line} {rest rest' : List Line} → lines_of bytes ≡ first ∷ rest
    → lines_of bytes ≡ first' ∷ rest' → rest ≡ rest'
one_rest bytes a b = cc

none_and_some : (bytes : List ℕ) {first : Line} {rest : List Line} → lines_of bytes ≡ [] → lines_of bytes ≡ first ∷ rest → ⊥
none_and_some bytes a b = cc

one_first_fault : {bytes : List ℕ} {fault fault' : LogFault} → IsFirstFault bytes fault → IsFirstFault bytes fault' → fault ≡ fault'
one_first_fault (start.too_long a) (start.too_long b) = one_size a b
one_first_fault (start.too_long a) (start.no_line short none) = absurd (short_size short a)
one_first_fault (start.too_long a) (start.bad_line short some h) = absurd (short_size short a)
one_first_fault (start.no_line short none) (start.too_long b) = absurd (short_size short b)
one_first_fault (start.no_line short none) (start.no_line short' none') = refl
one_first_fault {bytes} (start.no_line short none) (start.bad_line short' some h) = absurd (none_and_some bytes none some)
one_first_fault (start.bad_line short some h) (start.too_long b) = absurd (short_size short b)
one_first_fault {bytes} (start.bad_line short some h) (start.no_line short' none) = absurd (none_and_some bytes none some)
one_first_fault {bytes} {fault} (start.bad_line short some h) (start.bad_line short' some' h') =
    one_header_fault (subst (λ l. IsHeaderFault l fault) (one_line bytes some some') h) h'

-- a header and the lines after it
one_start : {bytes : List ℕ} {header header' : Header} {rest rest' : List Line} → SaysFirst bytes header rest
    → SaysFirst bytes header' rest'
    → (header ≡ header') × (rest ≡ rest')
one_start {bytes} {header} a b =
    (header_line (subst (λ l. SaysHeader l header) (one_line bytes a.lines b.lines) a.says) b.says, one_rest bytes a.lines b.lines)

no_first_fault : {bytes : List ℕ} {header : Header} {rest : List Line} {fault : LogFault} → SaysFirst bytes header rest
    → IsFirstFault bytes fault → ⊥
no_first_fault a (start.too_long b) = short_size a.short b
no_first_fault {bytes} a (start.no_line short none) = none_and_some bytes none a.lines
no_first_fault {bytes} {header} a (start.bad_line short some h) =
    no_header_fault (subst (λ l. SaysHeader l header) (one_line bytes a.lines some) a.says) h

-- ---- a further line

one_found : {number : ℕ} {line : Line} {found found' : Recorded} → SaysRow number line found → SaysRow number line found' → found ≡ found'
one_found a b = one_row (moved (same_said _ _ a.text b.text) a.is) b.is

one_row_fault : {number : ℕ} {line : Line} {fault fault' : LogFault} → IsRowFault number line fault → IsRowFault number line fault'
    → fault ≡ fault'
one_row_fault (next.unread a) (next.unread b) = cc
one_row_fault (next.unread a) (next.no_row b n) = absurd cc
one_row_fault (next.no_row a n) (next.unread b) = absurd cc
one_row_fault (next.no_row a n) (next.no_row b m) = refl

no_row_fault : {number : ℕ} {line : Line} {found : Recorded} {fault : LogFault} → SaysRow number line found
    → IsRowFault number line fault → ⊥
no_row_fault a (next.unread b) = let text = a.text in cc
no_row_fault {found} a (next.no_row b n) = n found.stamp found.row (moved (same_said _ _ a.text b) a.is)

-- a stamp may follow or not
follow_clash : (tags : List (List ℕ)) (earlier : List Stamp) {found found' : Recorded} → found ≡ found'
    → may_follow tags earlier found.stamp ≡ false
    → may_follow tags earlier found'.stamp ≡ true
    → ⊥
follow_clash tags earlier same fails holds =
    let both = sym fails ∙ ap (λ (r : Recorded). may_follow tags earlier r.stamp) same ∙ holds in cc

one_next_fault : {tags : List (List ℕ)} {earlier : List Stamp} {number : ℕ} {line : Line} {fault fault' : LogFault}
    → IsNextFault tags earlier number line fault
    → IsNextFault tags earlier number line fault'
    → fault ≡ fault'
one_next_fault (next.bad_line a) (next.bad_line b) = one_row_fault a b
one_next_fault (next.bad_line a) (next.no_follower b f) = absurd (no_row_fault b a)
one_next_fault (next.no_follower a f) (next.bad_line b) = absurd (no_row_fault a b)
one_next_fault (next.no_follower a f) (next.no_follower b g) = refl

no_next_fault : {tags : List (List ℕ)} {earlier : List Stamp} {number : ℕ} {line : Line} {found : Recorded} {fault : LogFault}
    → SaysNext tags earlier number line found
    → IsNextFault tags earlier number line fault
    → ⊥
no_next_fault a (next.bad_line b) = no_row_fault a.says b
no_next_fault {tags} {earlier} a (next.no_follower b f) = follow_clash tags earlier (one_found b a.says) f a.follows

-- ---- an entry

one_entry : {tags : List (List ℕ)} {earlier : List Stamp} {number : ℕ} {line : Line} {entry entry' : Entry}
    → SaysEntry tags earlier number line entry → SaysEntry tags earlier number line entry' → entry ≡ entry'
one_entry {entry' = entry'} a b =
    same_entry a.spelled (subst (λ row. SpellsEntry row entry') (sym (one_found a.next.says b.next.says)) b.spelled)

one_entry_fault : {tags : List (List ℕ)} {earlier : List Stamp} {number : ℕ} {line : Line} {fault fault' : LogFault}
    → IsEntryFault tags earlier number line fault → IsEntryFault tags earlier number line fault' → fault ≡ fault'
one_entry_fault (log_lines.no_row a) (log_lines.no_row b) = one_next_fault a b
one_entry_fault (log_lines.no_row a) (log_lines.no_trees b w) = absurd (no_next_fault b a)
one_entry_fault (log_lines.no_trees a w) (log_lines.no_row b) = absurd (no_next_fault a b)
one_entry_fault {number} (log_lines.no_trees {word = word} a w) (log_lines.no_trees {row = row} {word = word'} b v) =
    let w' = subst (λ (r : Recorded). Bad r.row word) (one_found a.says b.says) w in
    ap (BadBody number) (one_bad row.row word word' w' v)

-- an entry has no fault
no_entry_fault : {tags : List (List ℕ)} {earlier : List Stamp} {number : ℕ} {line : Line} {fault : LogFault} {entry : Entry}
    → SaysEntry tags earlier number line entry → IsEntryFault tags earlier number line fault → ⊥
no_entry_fault a (log_lines.no_row b) = no_next_fault a.next b
no_entry_fault a (log_lines.no_trees {word = word} b w) =
    clash a.spelled.op (subst (λ (r : Recorded). Bad r.row word) (one_found b.says a.next.says) w)

-- ---- the lines after the first

one_entries : {tags : List (List ℕ)} {earlier : List Stamp} {number : ℕ} {lines : List Line} {entries entries' : List Entry}
    → SayEntries tags earlier number lines entries → SayEntries tags earlier number lines entries' → entries ≡ entries'
one_entries no_lines no_lines = refl
one_entries {tags} {earlier} {number} (more_lines {lines} {entry} a more) (more_lines {entry = entry'} {entries = entries'} b more') =
    let same : entry ≡ entry' = one_entry a b in
    let more'' = subst (λ (e : Entry). SayEntries tags (e.stamp ∷ earlier) (suc number) lines entries') (sym same) more' in
    let rest = one_entries more more'' in
    λ i. same i ∷ rest i

one_line_fault : {tags : List (List ℕ)} {earlier : List Stamp} {number : ℕ} {lines : List Line} {fault fault' : LogFault}
    → HaveFault tags earlier number lines fault → HaveFault tags earlier number lines fault' → fault ≡ fault'
one_line_fault (here a) (here b) = one_entry_fault a b
one_line_fault (here a) (later b more) = absurd (no_entry_fault b a)
one_line_fault (later a more) (here b) = absurd (no_entry_fault a b)
one_line_fault {tags} {earlier} {number} {fault'} (later {lines} {entry} a more) (later {entry = entry'} b more') =
    let moved' = subst (λ (e : Entry). HaveFault tags (e.stamp ∷ earlier) (suc number) lines fault') (sym (one_entry a b)) more' in
    one_line_fault more moved'

no_line_fault : {tags : List (List ℕ)} {earlier : List Stamp} {number : ℕ} {lines : List Line} {entries : List Entry} {fault : LogFault}
    → SayEntries tags earlier number lines entries → HaveFault tags earlier number lines fault → ⊥
no_line_fault no_lines has = elim has [ ]
no_line_fault (more_lines a more) (here b) = no_entry_fault a b
no_line_fault {tags} {earlier} {number} {fault} (more_lines {lines} {entry} a more) (later {entry = entry'} b more') =
    let moved' = subst (λ (e : Entry). HaveFault tags (e.stamp ∷ earlier) (suc number) lines fault) (sym (one_entry a b)) more' in
    no_line_fault more moved'

-- ---- the whole

-- the lines after the first, by another header and rest that the bytes begin with
same_lines : {tags tags' : List (List ℕ)} {rest rest' : List Line} {entries : List Entry} → tags ≡ tags' → rest ≡ rest'
    → SayEntries tags [] 2 rest entries → SayEntries tags' [] 2 rest' entries
same_lines {entries = entries} t r says = subst (λ (p : List (List ℕ) × List Line). SayEntries p.0 [] 2 p.1 entries) (λ i. (t i, r i)) says

same_fault : {tags tags' : List (List ℕ)} {rest rest' : List Line} {fault : LogFault} → tags ≡ tags' → rest ≡ rest'
    → HaveFault tags [] 2 rest fault → HaveFault tags' [] 2 rest' fault
same_fault {fault = fault} t r has = subst (λ (p : List (List ℕ) × List Line). HaveFault p.0 [] 2 p.1 fault) (λ i. (t i, r i)) has

-- bytes have one first fault
pub one_fault : (bytes : List ℕ) (fault fault' : LogFault) → IsLogFault bytes fault → IsLogFault bytes fault' → fault ≡ fault'
one_fault bytes fault fault' (no_start a) (no_start b) = one_first_fault a b
one_fault bytes fault fault' (no_start a) (no_entry b more) = absurd (no_first_fault b a)
one_fault bytes fault fault' (no_entry a more) (no_start b) = absurd (no_first_fault a b)
one_fault bytes fault fault' (no_entry a more) (no_entry b more') =
    let same = one_start a b in
    one_line_fault (same_fault (ap (λ (h : Header). h.tags) same.0) same.1 more) more'

-- what a log keeps of its tags and entries has one proof
same_log : (log log' : Log) → header_of log ≡ header_of log' → log.entries ≡ log'.entries → log ≡ log'
same_log log log' header entries = λ i. record {
  base_digest = (header i).base_digest;
  tags = (header i).tags;
  entries = entries i;
  formed = is_prop→PathP (λ j. ∥ IsLog (header j).tags (entries j) ∥₁) (λ j. ∥∥₁_prop) log.formed log'.formed i;
}

-- bytes spell one log
pub one_log : (bytes : List ℕ) (log log' : Log) → IsLogText bytes log → IsLogText bytes log' → log ≡ log'
one_log bytes log log' a b =
    let same = one_start a.first b.first in
    same_log log log' same.0 (one_entries (same_lines (ap (λ (h : Header). h.tags) same.0) same.1 a.entries) b.entries)

-- a log has no fault
pub no_fault : (bytes : List ℕ) (log : Log) (fault : LogFault) → IsLogText bytes log → IsLogFault bytes fault → ⊥
no_fault bytes log fault a (no_start b) = no_first_fault a.first b
no_fault bytes log fault a (no_entry b more) =
    let same = one_start a.first b in
    no_line_fault (same_lines (ap (λ (h : Header). h.tags) same.0) same.1 a.entries) more
