use Rattle.std.proofs.Common.{codes}
use Rattle.mol_log_rows.specs.lines.Headers.{are_tags}
use Rattle.mol_log_rows.specs.lines.Reader.{passing, texts_from}
use Rattle.mol_log_rows.proofs.lines_lemmas.Refused.{reads_err}
use Rattle.mol_log_rows.proofs.lines_lemmas.Taken.{reads_and, part_and_without, gives_same}
use Rattle.mol_log_rows.proofs.lines.header.tags.Goals as goal

pub returns-in_err-texts : goal.returns-in_err-texts
returns-in_err-texts c =
    reads_err _ c.from_residual.result _ _ c.from_residual.ensures.1
    (λ wrong. part_and_without (codes "tags") texts_from (passing are_tags) _ (c.in_err-texts.ensures wrong))

pub returns : goal.returns
returns c =
    reads_and (codes "tags") texts_from (passing are_tags) _ _ _ c.tags_of.result c.in_ok-texts.ensures
    (gives_same (passing are_tags) _ _ c.tags_of.result c.items.ensures c.tags_of.ensures)
