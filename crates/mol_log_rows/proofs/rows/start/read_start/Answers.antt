use Rattle.std.proofs.Common.{sym, ◌∙◌}
use Rattle.mol_log_rows.specs.lines.Lines.{seen}
use Rattle.mol_log_rows.specs.rows.FirstLine as line
use Rattle.mol_log_rows.specs.rows.FirstLine.{SaysFirst, IsFirstFault}
use Rattle.mol_log_rows.proofs.rows_lemmas.FirstLines.{tags_ascend, few_lines}
use Rattle.mol_log_rows.proofs.rows_lemmas.LineFaults.{answers_err}
use Rattle.mol_log_rows.proofs.rows.start.read_start.Goals as goal

pub returns-in_err-check_size : goal.returns-in_err-check_size
returns-in_err-check_size c =
    answers_err _ (IsFirstFault c.args.bytes.now) c.from_residual.result _ c.from_residual.ensures.1
    (λ enough. line.too_long c.in_err-check_size.ensures.err)

pub returns-in_default : goal.returns-in_default
returns-in_default c = λ enough. line.no_line c.in_ok-check_size.ensures.ok (sym c.of-rest.ensures ∙ c.in_default.ensures.0)

pub returns-in_err-header : goal.returns-in_err-header
returns-in_err-header c =
    answers_err _ (IsFirstFault c.args.bytes.now) c.from_residual-in_err-header.result _ c.from_residual-in_err-header.ensures.1
    (λ enough. line.bad_line c.in_ok-check_size.ensures.ok (sym c.of-rest.ensures ∙ c.in-Some.ensures) (c.in_err-header.ensures enough))

pub invariant_of-result-clause-ascending : goal.invariant_of-result-clause-ascending
invariant_of-result-clause-ascending c = tags_ascend c.in_ok-header.header.tags c.in_ok-header.ensures.is.tags

pub invariant_of-result-clause-few : goal.invariant_of-result-clause-few
invariant_of-result-clause-few c =
    few_lines c.args.bytes.now (seen c.in-Some.first) _ c.in_ok-check_size.ensures.ok (sym c.of-rest.ensures ∙ c.in-Some.ensures)

pub returns : goal.returns
returns c = record {
  short = c.in_ok-check_size.ensures.ok;
  first = seen c.in-Some.first;
  lines = sym c.of-rest.ensures ∙ c.in-Some.ensures;
  says = c.in_ok-header.ensures;
}
