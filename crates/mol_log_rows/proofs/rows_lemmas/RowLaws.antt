-- What a call that reads a row says.
use Rattle.std.proofs.Common.{◌≡◌, Result, Ok, Err, sym, ◌∙◌}
use Rattle.std.specs.Prelude.{IfOk, IfErr}
use Rattle.serde_json.specs.Data.{Data}
use Rattle.mol_base.specs.declared.ident.Stamp.{Stamp}
use Rattle.mol_log_rows.specs.lines.Reader.{Gives}
use Rattle.mol_log_rows.specs.declared.lines.object_fault.ObjectFault.{ObjectFault}
use Rattle.mol_log_rows.specs.declared.lines.object_fault.ObjectFault.TheVariants.{WrongForm}
use Rattle.mol_log_rows.specs.rows.RowReader.{recorded_from}
use Rattle.mol_log_rows.specs.rows.RowData.{IsRow}
use Rattle.mol_log_rows.specs.declared.rows.row.Recorded.{Recorded}
use Rattle.mol_log_rows.specs.declared.rows.row.Row.{Row}
use Rattle.mol_log_rows.proofs.rows_lemmas.RowsFound.{recorded_found}
use Rattle.mol_log_rows.proofs.rows_lemmas.RowsRead.{recorded_read}

pub row_is : (said : Data) (result : Result Recorded ObjectFault) → Gives (recorded_from said) result
    → IfOk result (λ found. IsRow said found.stamp found.row)
row_is said (Ok found) gives = recorded_found said found gives
row_is said (Err fault) gives = tt

pub no_row : (said : Data) (result : Result Recorded ObjectFault) → Gives (recorded_from said) result
    → IfErr result (λ fault. fault ≡ WrongForm → (stamp : Stamp) (row : Row) → IsRow said stamp row → ⊥)
no_row said (Ok found) gives = tt
no_row said (Err fault) gives = λ wrong stamp row is. let clash = sym (gives wrong) ∙ recorded_read said stamp row is in cc
