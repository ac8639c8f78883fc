use Rattle.std.proofs.Common.{codes}
use Rattle.mol_log_rows.proofs.lines_lemmas.Refused.{reads_err}
use Rattle.mol_log_rows.proofs.lines_lemmas.Taken.{reads_with, part_without}
use Rattle.mol_log_rows.specs.rows.RowReader.{params_from}
use Rattle.mol_log_rows.proofs.rows.parts.params.Goals as goal

pub returns-in_err-value : goal.returns-in_err-value
returns-in_err-value c =
    reads_err _ c.from_residual.result _ _ c.from_residual.ensures.1
    (λ wrong. part_without (codes "params") params_from _ c.in_err-value.ensures)

pub returns : goal.returns
returns c = reads_with (codes "params") params_from _ _ _ c.listed_params.result c.in_ok-value.ensures c.listed_params.ensures
