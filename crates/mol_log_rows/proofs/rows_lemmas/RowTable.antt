-- The row of an operation, by the operation's name.
use Rattle.std.proofs.Common.{◌≡◌, ℕ, List, [], ◌∷◌, Bool, true, false, Result, Some, None, codes, refl, sym, ap, ◌∙◌, subst}
use Rattle.std.specs.Prelude.{if◌then◌else◌}
use Rattle.std.specs.Str.{bytes_eq}
use Rattle.std.specs.Cmp.Lexicographic.{same_text}
use Rattle.serde_json.specs.Data.{Members}
use Rattle.mol_log_rows.specs.lines.Reader.{Reads}
use Rattle.mol_log_rows.specs.declared.lines.object_fault.ObjectFault.{ObjectFault}
use Rattle.mol_values_types.specs.declared.kind.MethodKind.TheVariants.{Instance, Static}
use Rattle.mol_log_rows.specs.rows.RowReader.{NamedReader, row_in, row_named, kind_of}
use Rattle.mol_log_rows.specs.declared.rows.row.Row.{Row}

-- another text
unequal : (x y : List ℕ) → (x ≡ y → ⊥) → bytes_eq x y ≡ false
unequal x y differ = by (bytes_eq x y) refl where
  by : (b : Bool) → bytes_eq x y ≡ b → bytes_eq x y ≡ false
  by true is = absurd (differ (same_text x y (sym is)))
  by false is = is

-- at its name the row is read
pub row_at : (name known : List ℕ) (ms new : Members) (result : Result Row ObjectFault) → name ≡ known
    → Reads (row_named known ms) result new
    → Reads (row_named name ms) result new
row_at name known ms new result same reads = subst (λ n. Reads (row_named n ms) result new) (sym same) reads

-- no operation has the name
abbrev pub Unnamed : List NamedReader → List ℕ → Type 0
Unnamed [] name = Unit {0}
Unnamed (entry ∷ table) name = (name ≡ codes entry.0 → ⊥) × Unnamed table name

pub no_row : (table : List NamedReader) (name : List ℕ) (ms : Members) → Unnamed table name → row_in table name ms ≡ None
no_row [] name ms unnamed = refl
no_row (entry ∷ table) name ms unnamed =
    ap (λ b. if b then entry.1 ms else row_in table name ms) (unequal name (codes entry.0) unnamed.0) ∙ no_row table name ms unnamed.1

-- a kind by its name
pub kind_at : (text known : List ℕ) → text ≡ known → kind_of text ≡ kind_of known
kind_at text known same = ap kind_of same

-- a text that is neither kind
pub no_kind : (text : List ℕ) → (text ≡ codes "instance" → ⊥) → (text ≡ codes "static" → ⊥) → kind_of text ≡ None
no_kind text instance static =
    ap (λ b. if b then Some Instance else if bytes_eq text (codes "static") then Some Static else None)
    (unequal text (codes "instance") instance)
    ∙ ap (λ b. if b then Some Static else None) (unequal text (codes "static") static)
