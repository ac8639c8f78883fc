-- A compact text is read back as a line.
use mathlib.Core.Bool.{Bool-set}
use Rattle.std.proofs.Common.{◌≡◌, ℕ, List, true, Ok, Err, Some, subst}
use Rattle.std.proofs.Math.Logic.{∥∥₁_elim}
use Rattle.std.proofs.lemmas.Str.{is_utf8-from_IsUtf8}
use Rattle.std.specs.Prelude.{IsUtf8, if◌then◌else◌, not}
use Rattle.std.specs.Str.{is_utf8}
use Rattle.serde_json.specs.Data.{Data}
use Rattle.serde_json.specs.Read.{read}
use Rattle.serde_json.specs.Written.{compact_text}
use Rattle.mol_log_rows.specs.lines.Lines.{ended, line_data, or_fault}
use Rattle.mol_log_rows.specs.declared.lines.fault.LogFault.TheVariants.{NotUtf8, NotJson}

pub read-back : (bytes : List ℕ) (d : Data) (number : ℕ) → ∥ IsUtf8 bytes ∥₁ → bytes ≡ compact_text d → read bytes ≡ Some d
    → line_data number (ended (compact_text d)) ≡ Ok d
read-back bytes d number ok is reads =
    let utf8 : is_utf8 bytes ≡ true = ∥∥₁_elim ok (Bool-set (is_utf8 bytes) true) (is_utf8-from_IsUtf8 bytes) in
    let said : line_data number (ended bytes) ≡ Ok d =
    λ i. if not (utf8 i) then Err (NotUtf8 number) else or_fault (NotJson number) (reads i) in
    subst (λ text. line_data number (ended text) ≡ Ok d) is said
