use Rattle.std.proofs.Common.{◌∙◌}
use Rattle.mol_log_rows.proofs.lines_lemmas.Refused.{reads_err}
use Rattle.mol_log_rows.proofs.rows_lemmas.Steps.{and_on, and_off}
use Rattle.mol_log_rows.proofs.rows.read.rename_class.Goals as goal

pub returns-in_err-class : goal.returns-in_err-class
returns-in_err-class c =
    reads_err _ c.from_residual.result _ _ c.from_residual.ensures.1
    (λ wrong. and_off _ _ (c.in_err-class.ensures wrong))

pub returns-in_err-name : goal.returns-in_err-name
returns-in_err-name c =
    reads_err _ c.from_residual-in_err-name.result _ _ c.from_residual-in_err-name.ensures.1
    (λ wrong. and_on _ _ _ _ c.in_ok-class.ensures
    ∙ and_off _ _ (c.in_err-name.ensures wrong))

pub returns-in_err-same_text : goal.returns-in_err-same_text
returns-in_err-same_text c =
    reads_err _ c.from_residual-in_err-same_text.result _ _ c.from_residual-in_err-same_text.ensures.1
    (λ wrong. and_on _ _ _ _ c.in_ok-class.ensures
    ∙ and_on _ _ _ _ c.in_ok-name.ensures
    ∙ and_off _ _ (c.in_err-same_text.ensures wrong))

pub returns : goal.returns
returns c =
    and_on _ _ _ _ c.in_ok-class.ensures
    ∙ and_on _ _ _ _ c.in_ok-name.ensures
    ∙ and_on _ _ _ _ c.in_ok-same_text.ensures
