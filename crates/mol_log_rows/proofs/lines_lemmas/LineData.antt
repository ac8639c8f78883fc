-- What a line says, from what is known of it.
use Rattle.std.proofs.Common.{◌≡◌, ℕ, Bool, true, false, Err, refl}
use Rattle.std.specs.Prelude.{IsUtf8}
use Rattle.std.specs.Str.{is_utf8}
use Rattle.std.proofs.lemmas.Str.{IsUtf8-from_is_utf8, is_utf8-from_IsUtf8}
use Rattle.serde_json.specs.Read.{read}
use Rattle.mol_log_rows.specs.lines.Lines.{Line, or_fault, line_data}
use Rattle.mol_log_rows.specs.declared.lines.fault.LogFault.TheVariants.{NotUtf8, NotJson}

pub not_utf8 : (number : ℕ) (line : Line) → line.ends ≡ true → (IsUtf8 line.bytes → ⊥) → line_data number line ≡ Err (NotUtf8 number)
not_utf8 number line ends bad = by (is_utf8 line.bytes) refl where
  by : (b : Bool) → is_utf8 line.bytes ≡ b → line_data number line ≡ Err (NotUtf8 number)
  by true is = absurd (bad (IsUtf8-from_is_utf8 line.bytes is))
  by false is = rw (ends, is) refl

pub utf8_said : (number : ℕ) (line : Line) → line.ends ≡ true → IsUtf8 line.bytes → line_data number line ≡ or_fault (NotJson number) (read line.bytes)
utf8_said number line ends is = rw (ends, is_utf8-from_IsUtf8 line.bytes is) refl
