use Rattle.std.proofs.Common.{Ok, Some, codes, sym}
use Rattle.mol_log_rows.proofs.lines_lemmas.Refused.{reads_err}
use Rattle.mol_log_rows.proofs.lines_lemmas.Taken.{reads_and, part_and_without}
use Rattle.mol_log_rows.specs.rows.RowReader.{comments_from, front_only, notes_of}
use Rattle.mol_log_rows.proofs.rows.parts.notes.Goals as goal

pub returns-in_err-comments : goal.returns-in_err-comments
returns-in_err-comments c =
    reads_err _ c.from_residual.result _ _ c.from_residual.ensures.1
    (λ wrong. part_and_without (codes "notes") comments_from front_only _ (c.in_err-comments.ensures wrong))

pub returns : goal.returns
returns c =
    let front = c.in_ok-comments.field-0 in
    reads_and (codes "notes") comments_from front_only _ front _ (Ok (notes_of front c.new.result c.new-2.result)) c.in_ok-comments.ensures
    (λ i. Some (notes_of front (sym c.new.ensures i) (sym c.new-2.ensures i)))
