use Rattle.std.proofs.Common.{◌∙◌}
use Rattle.mol_log_rows.proofs.lines_lemmas.Refused.{reads_err}
use Rattle.mol_log_rows.proofs.rows_lemmas.Steps.{and_on, and_off}
use Rattle.mol_log_rows.proofs.rows.read.set_value.Goals as goal

pub returns-in_err-field : goal.returns-in_err-field
returns-in_err-field c =
    reads_err _ c.from_residual.result _ _ c.from_residual.ensures.1
    (λ wrong. and_off _ _ (c.in_err-field.ensures wrong))

pub returns-in_err-same_text : goal.returns-in_err-same_text
returns-in_err-same_text c =
    reads_err _ c.from_residual-in_err-same_text.result _ _ c.from_residual-in_err-same_text.ensures.1
    (λ wrong. and_on _ _ _ _ c.in_ok-field.ensures
    ∙ and_off _ _ (c.in_err-same_text.ensures wrong))

pub returns-in_err-ty : goal.returns-in_err-ty
returns-in_err-ty c =
    reads_err _ c.from_residual-in_err-ty.result _ _ c.from_residual-in_err-ty.ensures.1
    (λ wrong. and_on _ _ _ _ c.in_ok-field.ensures
    ∙ and_on _ _ _ _ c.in_ok-same_text.ensures
    ∙ and_off _ _ (c.in_err-ty.ensures wrong))

pub returns-in_err-value : goal.returns-in_err-value
returns-in_err-value c =
    reads_err _ c.from_residual-in_err-value.result _ _ c.from_residual-in_err-value.ensures.1
    (λ wrong. and_on _ _ _ _ c.in_ok-field.ensures
    ∙ and_on _ _ _ _ c.in_ok-same_text.ensures
    ∙ and_on _ _ _ _ c.in_ok-ty.ensures
    ∙ and_off _ _ (c.in_err-value.ensures wrong))

pub returns : goal.returns
returns c =
    and_on _ _ _ _ c.in_ok-field.ensures
    ∙ and_on _ _ _ _ c.in_ok-same_text.ensures
    ∙ and_on _ _ _ _ c.in_ok-ty.ensures
    ∙ and_on _ _ _ _ c.in_ok-value.ensures
