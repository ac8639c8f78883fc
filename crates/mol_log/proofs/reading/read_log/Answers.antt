use Rattle.mol_log_rows.proofs.rows_lemmas.LineFaults.{answers_err}
use Rattle.mol_log_rows.specs.lines.Lines.{lines_left}
use Rattle.mol_log.proofs.LogAnswers.{log-read}
use Rattle.mol_log.proofs.LogKept.{kept}
use Rattle.mol_log.specs.Form.{IsLogText, IsLogFault, no_start, no_entry}
use Rattle.mol_log.proofs.reading.read_log.Goals as goal

pub returns-in_err-start : goal.returns-in_err-start
returns-in_err-start c =
    let bytes = c.args.bytes.now in
    log-read bytes _ (answers_err (IsLogText bytes) (IsLogFault bytes) c.from_residual.result _ c.from_residual.ensures.1
    (λ enough. no_start (c.in_err-start.ensures enough)))

pub returns-in_err-entries : goal.returns-in_err-entries
returns-in_err-entries c =
    let bytes = c.args.bytes.now in
    log-read bytes _ (answers_err (IsLogText bytes) (IsLogFault bytes) c.from_residual-in_err-entries.result _
    c.from_residual-in_err-entries.ensures.1
    (λ enough. no_entry c.in_ok-start.ensures (c.in_err-entries.ensures enough)))

pub invariant_of-result : goal.invariant_of-result
invariant_of-result c =
    let start = c.in_ok-start.start in
    record {
      formed =
          ∣ kept c.args.bytes.now start.header (lines_left start.rest) c.in_ok-entries.entries c.in_ok-start.ensures
          c.in_ok-entries.ensures ∣₁;
    }

pub returns : goal.returns
returns c =
    log-read c.args.bytes.now _
    (record { rest = lines_left c.in_ok-start.start.rest; first = c.in_ok-start.ensures; entries = c.in_ok-entries.ensures })
