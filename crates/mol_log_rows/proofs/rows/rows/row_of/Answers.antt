use Rattle.serde_json.specs.View.{view}
use Rattle.mol_log_rows.specs.lines.Lines.{seen}
use Rattle.mol_log_rows.specs.rows.RowLine as line
use Rattle.mol_log_rows.specs.rows.RowLine.{IsRowFault}
use Rattle.mol_log_rows.proofs.rows_lemmas.LineFaults.{answers_err}
use Rattle.mol_log_rows.proofs.rows.rows.row_of.Goals as goal

pub returns-in_err-value : goal.returns-in_err-value
returns-in_err-value c =
    answers_err _ (IsRowFault c.args.number (seen c.args.line)) c.from_residual.result _ c.from_residual.ensures.1
    (λ enough. line.unread (c.in_err-value.ensures enough))

pub returns-in-Ok : goal.returns-in-Ok
returns-in-Ok c = record { said = view c.in_ok-value.value; text = c.in_ok-value.ensures; is = c.in-Ok.ensures.is }

pub returns-in-Err-WrongForm : goal.returns-in-Err-WrongForm
returns-in-Err-WrongForm c = λ enough. line.no_row c.in_ok-value.ensures (c.in-Err-WrongForm.ensures.none c.in-Err-WrongForm.field-0-is)
