use Rattle.std.proofs.Common.{◌≡◌, true, false, Ok, Err, ap, sym, ◌∙◌}
use Rattle.mol_log_rows.specs.lines.Reader.{passing, texts_from}
use Rattle.mol_log_rows.specs.declared.lines.object_fault.ObjectFault.TheVariants.{WrongForm}
use Rattle.mol_log_rows.proofs.lines_lemmas.Refused.{reads_err}
use Rattle.mol_log_rows.proofs.lines_lemmas.Taken.{reads_and, part_and_without, passes, fails}
use Rattle.mol_values_types.specs.TokenForms.{are_comments}
use Rattle.mol_log_rows.proofs.rows.parts.comments.Goals as goal

pub returns-in_err-texts : goal.returns-in_err-texts
returns-in_err-texts c =
    reads_err _ c.from_residual.result _ _ c.from_residual.ensures.1
    (λ wrong. part_and_without c.args.key.now texts_from (passing are_comments) _ (c.in_err-texts.ensures wrong))

pub returns-then-are_comments : goal.returns-then-are_comments
returns-then-are_comments c =
    let are : are_comments c.in_ok-texts.texts ≡ true = ap are_comments (sym c.items.ensures) ∙ sym c.are_comments.ensures
    ∙ c.if-are_comments.true in
    reads_and c.args.key.now texts_from (passing are_comments) _ _ _ (Ok c.in_ok-texts.texts) c.in_ok-texts.ensures
    (passes are_comments c.in_ok-texts.texts are)

pub returns-else-are_comments : goal.returns-else-are_comments
returns-else-are_comments c =
    let arent : are_comments c.in_ok-texts.texts ≡ false = ap are_comments (sym c.items.ensures) ∙ sym c.are_comments.ensures
    ∙ c.if-are_comments.false in
    reads_and c.args.key.now texts_from (passing are_comments) _ _ _ (Err WrongForm) c.in_ok-texts.ensures
    (λ wrong. fails are_comments c.in_ok-texts.texts arent)
