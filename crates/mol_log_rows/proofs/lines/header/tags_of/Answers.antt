use Rattle.mol_log_rows.proofs.lines_lemmas.Refused.{gives_err}
use Rattle.mol_log_rows.proofs.lines_lemmas.TagLists.{tags_refused}
use Rattle.mol_log_rows.proofs.lines.header.tags_of.Goals as goal

pub returns-in_err-tags : goal.returns-in_err-tags
returns-in_err-tags c =
    gives_err _ c.from_residual.result _ c.from_residual.ensures.1 (λ wrong. tags_refused c.args.texts.now (c.in_err-tags.ensures wrong))
