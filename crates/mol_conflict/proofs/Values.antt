-- What a history leaves in a cell that it writes, and values that differ.
use Rattle.std.proofs.Common.{◌≡◌, ◌≢◌, Bool, true, false, refl, sym, ap, ◌∙◌, true≢false}
use Rattle.std.specs.FinMap.{get}
use Rattle.std.specs.Option.{option_or}
use Rattle.std.specs.Prelude.{◌↔◌, not, IsTrue, Some}
use Rattle.mol_conflict.proofs.Parts.{not-true}
use Rattle.mol_conflict.specs.Found.{differ}
use Rattle.mol_log_rules.specs.Histories.{History, after, changes, last}
use Rattle.mol_op.specs.EntryLaws.{get-leaves}
use Rattle.mol_table_rules.proofs.Values.{same_value-is}
use Rattle.mol_table_rules.specs.Program.{Program}
use Rattle.mol_table_rules.specs.Values.{same_value}
use Rattle.mol_values_types.specs.declared.cell.Cell.{Cell}
use Rattle.mol_values_types.specs.declared.value.Value.{Value}

pub held : (base : Program) (history : History) (at : Cell) (value : Value) → last history at ≡ Some value
    → get (after base history).cells at ≡ Some value
held base history at value is = get-leaves (changes history) base at ∙ ap (λ o. option_or o (get base.cells at)) is

pub differ-is : (first second : Value) → first ≢ second → differ (Some first) (Some second) ≡ true
differ-is first second apart = not-true (same_value first second) (λ is. apart ((same_value-is first second).0 is))

pub differ-apart : (first second : Value) → differ (Some first) (Some second) ≡ true → first ≢ second
differ-apart first second is same = true≢false (sym is ∙ ap not ((same_value-is first second).1 same))

-- two tests of one thing are one
pub tests-same : {P : Type 0} (a b : Bool) → IsTrue a ↔ P → IsTrue b ↔ P → a ≡ b
tests-same true true first second = refl
tests-same true false first second = absurd (true≢false (sym (second.1 (first.0 refl))))
tests-same false true first second = absurd (true≢false (sym (first.1 (second.0 refl))))
tests-same false false first second = refl
