-- Indexes in which later writers are noted, one cell after the other.
use Rattle.std.proofs.Common.{◌≡◌, ◌∙◌, ◌+◌, ◌<◌, ◌≤◌, ℕ, refl, sym, ap, List, [], ◌∷◌, length, drop, get_or}
use Rattle.std.proofs.lemmas.List.{at_drop_more, at_drop_all}
use Rattle.std.specs.Cmp.{IsTotalOrder}
use Rattle.std.specs.FinMap.{IsAntisymmetric, from_entries, get, get-from_entries, get-insert}
use Rattle.std.specs.List.{list_any}
use Rattle.std.specs.Map.{lookup}
use Rattle.std.specs.Option.{option_or}
use Rattle.std.specs.Ordering.{eq_by_cmp}
use Rattle.std.specs.Prelude.{◌||◌, Bool, true, false, cond, map, Option, None, Some, if◌then◌else◌}
use Rattle.std.specs.declared.cmp.Ordering.{Ordering}
use Rattle.mol_base.specs.declared.ident.Stamp.{Stamp}
use Rattle.mol_log.specs.declared.entries.entry.Entry.{Entry}
use Rattle.mol_log_rules.specs.Logs.{change_of, history_of}
use Rattle.mol_log_rules.specs.Writers.{last_writer, writes_some}
use Rattle.mol_log_writers.specs.Cells.{written_cells}
use Rattle.mol_log_writers.specs.LastWriters.{AreLastWriters, AreNoted, noted, stamp_in}
use Rattle.mol_op.specs.ChangeLaws.{or-assoc, or-cond, or-none}
use Rattle.mol_op.specs.Changes.{Write}
use Rattle.mol_values_types.proofs.Lookups.{inserted}
use Rattle.mol_values_types.specs.declared.cell.Cell.{Cell}

-- the later one of two cells is noted last
pub if-or : {X : Type 0} (first later : Bool) (x was : X)
    → (if later then x else (if first then x else was)) ≡ (if (first || later) then x else was)
if-or true true x was = refl
if-or true false x was = refl
if-or false later x was = refl

pub or-no : (b : Bool) → (b || false) ≡ b
or-no true = refl
or-no false = refl

any-mapped : (passes : Cell → Bool) (writes : List Write)
    → list_any passes (map (λ (write : Write). write.0) writes) ≡ list_any (λ (write : Write). passes write.0) writes
any-mapped passes [] = refl
any-mapped passes (write ∷ writes) = ap (λ more. passes write.0 || more) (any-mapped passes writes)

module _ {K : Type 0} (compare : K → K → Ordering) (counts : K → Cell → Bool) where
  -- what is left to be noted
  abbrev pub IsToNote : List Cell → Stamp → List (K × Stamp) → List Cell → List (K × Stamp) → Type 0
  IsToNote cells stamp was rest entries = (key : K) → noted compare counts rest stamp entries key ≡ noted compare counts cells stamp was key

  abbrev pub IsOneNoted : Cell → Stamp → List (K × Stamp) → List (K × Stamp) → Type 0
  IsOneNoted at stamp was entries = (key : K)
      → stamp_in compare entries key ≡ (if counts key at then Some stamp else stamp_in compare was key)

  pub one-noted : (at : Cell) (stamp : Stamp) (was entries : List (K × Stamp)) → IsOneNoted at stamp was entries
      → AreNoted compare counts (at ∷ []) stamp was entries
  one-noted at stamp was entries one key =
      one key ∙ ap (λ is. if is then Some stamp else stamp_in compare was key) (sym (or-no (counts key at)))

  pub noted-one : (at : Cell) (stamp : Stamp) (was entries : List (K × Stamp)) → AreNoted compare counts (at ∷ []) stamp was entries
      → IsOneNoted at stamp was entries
  noted-one at stamp was entries one key =
      one key ∙ ap (λ is. if is then Some stamp else stamp_in compare was key) (or-no (counts key at))

  pub noted-further : (cells : List Cell) (i : ℕ) (at : Cell) (stamp : Stamp) (was old new : List (K × Stamp)) → i < length cells
      → at ≡ get_or cells i at → IsToNote cells stamp was (drop i cells) old → IsOneNoted at stamp old new
      → IsToNote cells stamp was (drop (i + 1) cells) new
  noted-further cells i at stamp was old new within is so_far next key =
      let rest = drop (i + 1) cells in
      ap (λ (stamped : Option Stamp). if list_any (counts key) rest then Some stamp else stamped) (next key)
      ∙ if-or (counts key at) (list_any (counts key) rest) (Some stamp) (stamp_in compare old key)
      ∙ ap (λ (q : Cell). noted compare counts (q ∷ rest) stamp old key) is
      ∙ sym (at_drop_more (λ (left : List Cell). noted compare counts left stamp old key) cells i at within)
      ∙ so_far key

  pub noted-whole : (cells : List Cell) (i : ℕ) (stamp : Stamp) (was entries : List (K × Stamp)) → length cells ≤ i
      → IsToNote cells stamp was (drop i cells) entries → AreNoted compare counts cells stamp was entries
  noted-whole cells i stamp was entries past so_far key =
      sym (at_drop_all (λ (left : List Cell). noted compare counts left stamp entries key) cells i past) ∙ so_far key

  -- ---- entry by entry

  -- what an index comes to with the last writers of more entries
  abbrev pub with_entries : List Entry → List (K × Stamp) → K → Option Stamp
  with_entries rest index key = option_or (last_writer (counts key) (history_of rest)) (stamp_in compare index key)

  abbrev pub IsToIndex : List Entry → List Entry → List (K × Stamp) → Type 0
  IsToIndex entries rest index = (key : K) → with_entries rest index key ≡ last_writer (counts key) (history_of entries)

  pub index-none : IsTotalOrder compare → (entries : List Entry) (index : List (K × Stamp)) → index ≡ [] → IsToIndex entries entries index
  index-none total entries index none key =
      ap (λ (some : List (K × Stamp)). with_entries entries some key) none
      ∙ ap (option_or (last_writer (counts key) (history_of entries))) (get-from_entries total [] key)
      ∙ or-none (last_writer (counts key) (history_of entries))

  one-entry : (entry : Entry) (rest : List Entry) (old new : List (K × Stamp)) (key : K)
      → stamp_in compare new key ≡ noted compare counts (written_cells entry.op) entry.stamp old key
      → with_entries rest new key ≡ with_entries (entry ∷ rest) old key
  one-entry entry rest old new key next =
      let later = last_writer (counts key) (history_of rest) in
      let before = stamp_in compare old key in
      let writes = writes_some (counts key) (change_of entry) in
      ap (option_or later) (next
      ∙ ap (λ (any : Bool). if any then Some entry.stamp else before) (any-mapped (counts key) (change_of entry).writes)
      ∙ sym (or-cond writes entry.stamp before))
      ∙ sym (or-assoc later (cond writes (Some entry.stamp) None) before)

  pub index-further : (entries : List Entry) (i : ℕ) (entry : Entry) (cells : List Cell) (old new : List (K × Stamp)) → i < length entries
      → entry ≡ get_or entries i entry → cells ≡ written_cells entry.op → IsToIndex entries (drop i entries) old
      → AreNoted compare counts cells entry.stamp old new → IsToIndex entries (drop (i + 1) entries) new
  index-further entries i entry cells old new within is these so_far next key =
      let rest = drop (i + 1) entries in
      one-entry entry rest old new key (next key ∙ ap (λ (all : List Cell). noted compare counts all entry.stamp old key) these)
      ∙ ap (λ (first : Entry). with_entries (first ∷ rest) old key) is
      ∙ sym (at_drop_more (λ (left : List Entry). with_entries left old key) entries i entry within)
      ∙ so_far key

  pub index-whole : (entries : List Entry) (i : ℕ) (index : List (K × Stamp)) → length entries ≤ i
      → IsToIndex entries (drop i entries) index → AreLastWriters compare counts (history_of entries) index
  index-whole entries i index past so_far key =
      sym (at_drop_all (λ (left : List Entry). with_entries left index key) entries i past) ∙ so_far key

  -- ---- a key that is put

  pub put : IsTotalOrder compare → IsAntisymmetric compare → (eq : K → K → Bool) → ((x y : K) → eq x y ≡ eq_by_cmp compare x y)
      → (k : K) (stamp : Stamp) (old new : List (K × Stamp))
      → ((q : K) → lookup (eq q) new ≡ cond (eq k q) (Some stamp) (lookup (eq q) old))
      → (q : K) → stamp_in compare new q ≡ (if eq_by_cmp compare q k then Some stamp else stamp_in compare old q)
  put total same eq ties k stamp old new updates q =
      ap (λ entries. get entries q) (inserted compare eq ties total same k stamp old new updates)
      ∙ get-insert total (from_entries {R = compare} old) k stamp q
