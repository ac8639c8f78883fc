-- A log is cut after its first LF.
use Rattle.std.proofs.Common.{◌≡◌, ℕ, suc, ◌+◌, ◌<◌, List, [], ◌∷◌, length, get_or, take, drop, Bool, true, false, cond, Some, None, refl, sym, ap, ◌∙◌, arith}
use Rattle.std.specs.Prelude.{◌==◌, nat_lt, count_by}
use Rattle.std.specs.List.{slice_split, onto_first, position, position_or_len, before_first, after_first}
use Rattle.std.proofs.lemmas.Bool.Decides.{nat_tests}
use Rattle.std.proofs.lemmas.List.Splits.{slice_split-cons_no, slice_split_first, length-slice_split}
use Rattle.std.proofs.lemmas.List.Sums.{fails_before_first}
use Rattle.mol_log_rows.specs.lines.Lines.{ended, torn, is_end, last_line, lines_from, lines_of}

-- without bytes there are no lines
pub no_lines : (bytes : List ℕ) → (length bytes == 0) ≡ true → lines_of bytes ≡ []
no_lines [] none = refl
no_lines (byte ∷ bytes) none = absurd (grind (arith, nat_tests, none))

-- a piece before LF is a line
lines_more : (piece more : List ℕ) → lines_from (piece ∷ slice_split is_end more) ≡ ended piece ∷ lines_of more
lines_more piece more = by (slice_split is_end more) (length-slice_split is_end more) where
  by : (pieces : List (List ℕ)) → length pieces ≡ count_by is_end more + 1 → lines_from (piece ∷ pieces) ≡ ended piece ∷ lines_from pieces
  by [] e = absurd (omega (arith, e))
  by (next ∷ pieces) e = refl

-- the line before the first LF, and those after it
pub cut_at : (bytes : List ℕ) (at : ℕ) → position is_end bytes ≡ Some at → lines_of bytes ≡ ended (take at bytes) ∷ lines_of (drop (at + 1) bytes)
cut_at bytes at found = by (nat_lt (position_or_len is_end bytes) (length bytes)) refl found where
  by : (b : Bool) → nat_lt (position_or_len is_end bytes) (length bytes) ≡ b → cond b (Some (position_or_len is_end bytes)) None ≡ Some at
      → lines_of bytes ≡ ended (take at bytes) ∷ lines_of (drop (at + 1) bytes)
  by true low e =
      let same : position_or_len is_end bytes ≡ at = cc in
      ap lines_from (slice_split_first is_end bytes 0 (grind (arith, nat_tests, low)))
      ∙ lines_more (before_first is_end bytes) (after_first is_end bytes)
      ∙ ap (λ n. ended (take n bytes) ∷ lines_of (drop (n + 1) bytes)) same
  by false low e = absurd cc

no_end : (bytes : List ℕ) → ((k : ℕ) → k < length bytes → is_end (get_or bytes k 0) ≡ false) → slice_split is_end bytes ≡ bytes ∷ []
no_end [] lacks = refl
no_end (byte ∷ bytes) lacks =
    slice_split-cons_no is_end byte bytes (lacks 0 (omega arith))
    ∙ ap (onto_first byte) (no_end bytes (λ k low. lacks (suc k) (omega (arith, low))))

-- without LF there is one torn line, or none
pub cut_none : (bytes : List ℕ) → position is_end bytes ≡ None → lines_of bytes ≡ last_line bytes
cut_none bytes found = by (nat_lt (position_or_len is_end bytes) (length bytes)) refl found where
  by : (b : Bool) → nat_lt (position_or_len is_end bytes) (length bytes) ≡ b → cond b (Some (position_or_len is_end bytes)) None ≡ None
      → lines_of bytes ≡ last_line bytes
  by true low e = absurd cc
  by false low e = ap lines_from (no_end bytes (λ k within. fails_before_first is_end bytes k 0 (grind (arith, nat_tests, low, within))))

-- by a line and the bytes after it
pub cut_line : (bytes line more : List ℕ) (at : ℕ) → position is_end bytes ≡ Some at → line ≡ take at bytes → more ≡ drop (at + 1) bytes
    → lines_of bytes ≡ ended line ∷ lines_of more
cut_line bytes line more at found is rest = cut_at bytes at found ∙ (λ i. ended (sym is i) ∷ lines_of (sym rest i))

pub torn_rest : (bytes more : List ℕ) → position is_end bytes ≡ None → (bytes ≡ [] → ⊥) → more ≡ [] → lines_of bytes ≡ torn bytes ∷ lines_of more
torn_rest bytes more found some rest = cut_none bytes found ∙ last bytes some ∙ ap (λ m. torn bytes ∷ lines_of m) (sym rest) where
  last : (bytes : List ℕ) → (bytes ≡ [] → ⊥) → last_line bytes ≡ torn bytes ∷ []
  last [] some = absurd (some refl)
  last (byte ∷ more) some = refl
