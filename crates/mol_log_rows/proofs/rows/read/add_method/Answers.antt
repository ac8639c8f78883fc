use Rattle.std.proofs.Common.{◌∙◌}
use Rattle.mol_log_rows.proofs.lines_lemmas.Refused.{reads_err}
use Rattle.mol_log_rows.proofs.rows_lemmas.Steps.{and_on, and_off}
use Rattle.mol_log_rows.proofs.rows.read.add_method.Goals as goal

pub returns-in_err-body : goal.returns-in_err-body
returns-in_err-body c =
    reads_err _ c.from_residual.result _ _ c.from_residual.ensures.1
    (λ wrong. and_off _ _ (c.in_err-body.ensures wrong))

pub returns-in_err-decl : goal.returns-in_err-decl
returns-in_err-decl c =
    reads_err _ c.from_residual-in_err-decl.result _ _ c.from_residual-in_err-decl.ensures.1
    (λ wrong. and_on _ _ _ _ c.in_ok-body.ensures
    ∙ and_off _ _ (c.in_err-decl.ensures wrong))

pub returns-in_err-kind : goal.returns-in_err-kind
returns-in_err-kind c =
    reads_err _ c.from_residual-in_err-kind.result _ _ c.from_residual-in_err-kind.ensures.1
    (λ wrong. and_on _ _ _ _ c.in_ok-body.ensures
    ∙ and_on _ _ _ _ c.in_ok-decl.ensures
    ∙ and_off _ _ (c.in_err-kind.ensures wrong))

pub returns-in_err-method : goal.returns-in_err-method
returns-in_err-method c =
    reads_err _ c.from_residual-in_err-method.result _ _ c.from_residual-in_err-method.ensures.1
    (λ wrong. and_on _ _ _ _ c.in_ok-body.ensures
    ∙ and_on _ _ _ _ c.in_ok-decl.ensures
    ∙ and_on _ _ _ _ c.in_ok-kind.ensures
    ∙ and_off _ _ (c.in_err-method.ensures wrong))

pub returns-in_err-name : goal.returns-in_err-name
returns-in_err-name c =
    reads_err _ c.from_residual-in_err-name.result _ _ c.from_residual-in_err-name.ensures.1
    (λ wrong. and_on _ _ _ _ c.in_ok-body.ensures
    ∙ and_on _ _ _ _ c.in_ok-decl.ensures
    ∙ and_on _ _ _ _ c.in_ok-kind.ensures
    ∙ and_on _ _ _ _ c.in_ok-method.ensures
    ∙ and_off _ _ (c.in_err-name.ensures wrong))

pub returns-in_err-notes : goal.returns-in_err-notes
returns-in_err-notes c =
    reads_err _ c.from_residual-in_err-notes.result _ _ c.from_residual-in_err-notes.ensures.1
    (λ wrong. and_on _ _ _ _ c.in_ok-body.ensures
    ∙ and_on _ _ _ _ c.in_ok-decl.ensures
    ∙ and_on _ _ _ _ c.in_ok-kind.ensures
    ∙ and_on _ _ _ _ c.in_ok-method.ensures
    ∙ and_on _ _ _ _ c.in_ok-name.ensures
    ∙ and_off _ _ (c.in_err-notes.ensures wrong))

pub returns-in_err-same_text : goal.returns-in_err-same_text
returns-in_err-same_text c =
    reads_err _ c.from_residual-in_err-same_text.result _ _ c.from_residual-in_err-same_text.ensures.1
    (λ wrong. and_on _ _ _ _ c.in_ok-body.ensures
    ∙ and_on _ _ _ _ c.in_ok-decl.ensures
    ∙ and_on _ _ _ _ c.in_ok-kind.ensures
    ∙ and_on _ _ _ _ c.in_ok-method.ensures
    ∙ and_on _ _ _ _ c.in_ok-name.ensures
    ∙ and_on _ _ _ _ c.in_ok-notes.ensures
    ∙ and_off _ _ (c.in_err-same_text.ensures wrong))

pub returns-in_err-owner : goal.returns-in_err-owner
returns-in_err-owner c =
    reads_err _ c.from_residual-in_err-owner.result _ _ c.from_residual-in_err-owner.ensures.1
    (λ wrong. and_on _ _ _ _ c.in_ok-body.ensures
    ∙ and_on _ _ _ _ c.in_ok-decl.ensures
    ∙ and_on _ _ _ _ c.in_ok-kind.ensures
    ∙ and_on _ _ _ _ c.in_ok-method.ensures
    ∙ and_on _ _ _ _ c.in_ok-name.ensures
    ∙ and_on _ _ _ _ c.in_ok-notes.ensures
    ∙ and_on _ _ _ _ c.in_ok-same_text.ensures
    ∙ and_off _ _ (c.in_err-owner.ensures wrong))

pub returns-in_err-params : goal.returns-in_err-params
returns-in_err-params c =
    reads_err _ c.from_residual-in_err-params.result _ _ c.from_residual-in_err-params.ensures.1
    (λ wrong. and_on _ _ _ _ c.in_ok-body.ensures
    ∙ and_on _ _ _ _ c.in_ok-decl.ensures
    ∙ and_on _ _ _ _ c.in_ok-kind.ensures
    ∙ and_on _ _ _ _ c.in_ok-method.ensures
    ∙ and_on _ _ _ _ c.in_ok-name.ensures
    ∙ and_on _ _ _ _ c.in_ok-notes.ensures
    ∙ and_on _ _ _ _ c.in_ok-same_text.ensures
    ∙ and_on _ _ _ _ c.in_ok-owner.ensures
    ∙ and_off _ _ (c.in_err-params.ensures wrong))

pub returns-in_err-result : goal.returns-in_err-result
returns-in_err-result c =
    reads_err _ c.from_residual-in_err-result.result _ _ c.from_residual-in_err-result.ensures.1
    (λ wrong. and_on _ _ _ _ c.in_ok-body.ensures
    ∙ and_on _ _ _ _ c.in_ok-decl.ensures
    ∙ and_on _ _ _ _ c.in_ok-kind.ensures
    ∙ and_on _ _ _ _ c.in_ok-method.ensures
    ∙ and_on _ _ _ _ c.in_ok-name.ensures
    ∙ and_on _ _ _ _ c.in_ok-notes.ensures
    ∙ and_on _ _ _ _ c.in_ok-same_text.ensures
    ∙ and_on _ _ _ _ c.in_ok-owner.ensures
    ∙ and_on _ _ _ _ c.in_ok-params.ensures
    ∙ and_off _ _ (c.in_err-result.ensures wrong))

pub returns-in_err-words : goal.returns-in_err-words
returns-in_err-words c =
    reads_err _ c.from_residual-in_err-words.result _ _ c.from_residual-in_err-words.ensures.1
    (λ wrong. and_on _ _ _ _ c.in_ok-body.ensures
    ∙ and_on _ _ _ _ c.in_ok-decl.ensures
    ∙ and_on _ _ _ _ c.in_ok-kind.ensures
    ∙ and_on _ _ _ _ c.in_ok-method.ensures
    ∙ and_on _ _ _ _ c.in_ok-name.ensures
    ∙ and_on _ _ _ _ c.in_ok-notes.ensures
    ∙ and_on _ _ _ _ c.in_ok-same_text.ensures
    ∙ and_on _ _ _ _ c.in_ok-owner.ensures
    ∙ and_on _ _ _ _ c.in_ok-params.ensures
    ∙ and_on _ _ _ _ c.in_ok-result.ensures
    ∙ and_off _ _ (c.in_err-words.ensures wrong))

pub returns : goal.returns
returns c =
    and_on _ _ _ _ c.in_ok-body.ensures
    ∙ and_on _ _ _ _ c.in_ok-decl.ensures
    ∙ and_on _ _ _ _ c.in_ok-kind.ensures
    ∙ and_on _ _ _ _ c.in_ok-method.ensures
    ∙ and_on _ _ _ _ c.in_ok-name.ensures
    ∙ and_on _ _ _ _ c.in_ok-notes.ensures
    ∙ and_on _ _ _ _ c.in_ok-same_text.ensures
    ∙ and_on _ _ _ _ c.in_ok-owner.ensures
    ∙ and_on _ _ _ _ c.in_ok-params.ensures
    ∙ and_on _ _ _ _ c.in_ok-result.ensures
    ∙ and_on _ _ _ _ c.in_ok-words.ensures
