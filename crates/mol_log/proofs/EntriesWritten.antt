-- A log is written line after line.
use Rattle.std.proofs.Common.{◌≡◌, ℕ, ◌+◌, ◌<◌, ◌≤◌, List, [], ◌∷◌, ◌++◌, length, take, get_or, Bool, true, false, Result, Ok, Err, refl}
use Rattle.std.proofs.Common.{sym, ap, ◌∙◌, subst, arith, lit<}
use Rattle.std.specs.Prelude.{OnOk, All, nat_lt, slice_index}
use Rattle.std.proofs.lemmas.Bool.Decides.{nat_tests}
use Rattle.std.proofs.Common.{append_assoc, append-nil}
use Rattle.std.proofs.lemmas.List.{take_more, take_all, get_or_past}
use Rattle.serde_json.specs.Data.{Data}
use Rattle.mol_log_rows.specs.lines.Headers.{IsDigest}
use Rattle.mol_log.specs.declared.entries.entry.Entry.{Entry}
use Rattle.mol_log.proofs.WrittenLogs.{AreReadBack, text_of}
use Rattle.mol_log.specs.Written.{IsReadBack, line_text, entry_data, entry_text}

text-more : (done : List Entry) (entry : Entry) → text_of (done ++ entry ∷ []) ≡ text_of done ++ entry_text entry
text-more [] entry = append-nil (entry_text entry)
text-more (first ∷ done) entry =
    ap (λ rest. entry_text first ++ rest) (text-more done entry) ∙ sym (append_assoc (entry_text first) (text_of done) (entry_text entry))

read-more : (done : List Entry) (entry : Entry) → AreReadBack done → IsReadBack (entry_data entry) → AreReadBack (done ++ entry ∷ [])
read-more [] entry are is = (is, tt)
read-more (first ∷ done) entry are is = (are.0, read-more done entry are.1 is)

module _ (entries : List Entry) (at : ℕ) (entry : Entry) (within : at < length entries) (here : get_or entries at entry ≡ entry) where
  grown : take (at + 1) entries ≡ take at entries ++ entry ∷ []
  grown = take_more entries at entry within ∙ ap (λ e. take at entries ++ e ∷ []) here

  -- the text with one more entry
  pub add-entry : (head : List ℕ) → (head ++ text_of (take at entries)) ++ entry_text entry ≡ head ++ text_of (take (at + 1) entries)
  add-entry head =
      append_assoc head (text_of (take at entries)) (entry_text entry)
      ∙ ap (λ rest. head ++ rest) (sym (text-more (take at entries) entry) ∙ ap text_of (sym grown))

  -- and what is read of its lines
  pub add-read : AreReadBack (take at entries) → IsReadBack (entry_data entry) → AreReadBack (take (at + 1) entries)
  add-read are is = subst AreReadBack (sym grown) (read-more (take at entries) entry are is)

-- at the end all entries are written
module _ (entries : List Entry) (at : ℕ) (end : length entries ≤ at) where
  pub all-written : (head text : List ℕ) → text ≡ head ++ text_of (take at entries) → text ≡ head ++ text_of entries
  all-written head text is = is ∙ ap (λ es. head ++ text_of es) (take_all at entries end)

  pub all-read : AreReadBack (take at entries) → AreReadBack entries
  all-read are = subst AreReadBack (take_all at entries end) are

-- ---- a line by what is known of its object

pub line_of : {E : Type 0} (result : Result (Unit {0}) E) (new old : List ℕ) (d d' : Data) → d ≡ d'
    → OnOk result (new ≡ old ++ line_text d) → OnOk result (new ≡ old ++ line_text d')
line_of (Ok u) new old d d' same is = is ∙ ap (λ (e : Data). old ++ line_text e) same
line_of (Err fault) new old d d' same is = tt

pub read_of : {E : Type 0} (result : Result (Unit {0}) E) (d d' : Data) → d ≡ d' → OnOk result (IsReadBack d)
    → OnOk result (IsReadBack d')
read_of (Ok u) d d' same is = subst IsReadBack same is
read_of (Err fault) d d' same is = tt

-- 32 bytes are a digest
pub digest_of : (digest : List ℕ) → length digest ≡ 32 → All (λ b. b < 256) digest → IsDigest digest
digest_of digest size all = record { size = size; bytes = λ i. by i (nat_lt i (length digest)) refl } where
  by : (i : ℕ) (within : Bool) → nat_lt i (length digest) ≡ within → slice_index digest i < 256
  by i true is = all i 0 (grind (arith, nat_tests, is))
  by i false is = let past : length digest ≤ i = grind (arith, nat_tests, is) in rw (get_or_past digest i 0 past) (lit< tt)
