use Rattle.serde_json.specs.Find.{as_str}
use Rattle.mol_log_rows.proofs.lines_lemmas.Refused.{reads_err}
use Rattle.mol_log_rows.proofs.lines_lemmas.Taken.{reads_with, part_without}
use Rattle.mol_log_rows.proofs.lines.members.Members.text.Goals as goal

pub returns-in_err-part : goal.returns-in_err-part
returns-in_err-part c =
    reads_err _ c.from_residual.result _ _ c.from_residual.ensures.1 (λ wrong. part_without c.args.key.now as_str _ c.in_err-part.ensures)

pub returns : goal.returns
returns c = reads_with c.args.key.now as_str _ _ _ c.text.result c.in_ok-part.ensures c.text.ensures
