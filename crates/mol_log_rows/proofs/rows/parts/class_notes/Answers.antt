use Rattle.std.proofs.Common.{codes}
use Rattle.mol_log_rows.proofs.lines_lemmas.Refused.{reads_err}
use Rattle.mol_log_rows.proofs.lines_lemmas.Taken.{reads_with, part_without}
use Rattle.mol_log_rows.specs.rows.RowReader.{class_notes_from}
use Rattle.mol_log_rows.proofs.rows.parts.class_notes.Goals as goal

pub returns-in_err-value : goal.returns-in_err-value
returns-in_err-value c =
    reads_err _ c.from_residual.result _ _ c.from_residual.ensures.1
    (λ wrong. part_without (codes "notes") class_notes_from _ c.in_err-value.ensures)

pub returns : goal.returns
returns c = reads_with (codes "notes") class_notes_from _ _ _ c.notes_of_class.result c.in_ok-value.ensures c.notes_of_class.ensures
