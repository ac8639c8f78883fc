use Rattle.std.proofs.Common.{codes}
use Rattle.mol_log_rows.specs.lines.HeaderReader.{digest_from}
use Rattle.mol_log_rows.proofs.lines_lemmas.Refused.{reads_err}
use Rattle.mol_log_rows.proofs.lines_lemmas.Taken.{reads_with, part_without}
use Rattle.mol_log_rows.proofs.lines.header.base_digest.Goals as goal

pub returns-in_err-part : goal.returns-in_err-part
returns-in_err-part c =
    reads_err _ c.from_residual.result _ _ c.from_residual.ensures.1 (λ wrong. part_without (codes "base") digest_from _ c.in_err-part.ensures)

pub returns : goal.returns
returns c = reads_with (codes "base") digest_from _ _ _ c.digest.result c.in_ok-part.ensures c.digest.ensures
