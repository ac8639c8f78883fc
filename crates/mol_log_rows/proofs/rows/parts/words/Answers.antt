use Rattle.std.proofs.Common.{◌≡◌, true, false, Ok, Err, Some, None, ap, sym, ◌∙◌, codes}
use Rattle.std.specs.Prelude.{if◌then◌else◌}
use Rattle.mol_log_rows.specs.lines.Reader.{texts_from}
use Rattle.mol_log_rows.specs.declared.lines.object_fault.ObjectFault.TheVariants.{WrongForm}
use Rattle.mol_log_rows.proofs.lines_lemmas.Refused.{reads_err}
use Rattle.mol_log_rows.proofs.lines_lemmas.Taken.{reads_and, part_and_without}
use Rattle.mol_values_types.specs.Words.{are_words}
use Rattle.mol_log_rows.specs.rows.RowForms.{words_before}
use Rattle.mol_log_rows.specs.rows.RowReader.{words_of, words_made}
use Rattle.mol_log_rows.proofs.rows.parts.words.Goals as goal

pub returns-in_err-texts : goal.returns-in_err-texts
returns-in_err-texts c =
    reads_err _ c.from_residual.result _ _ c.from_residual.ensures.1
    (λ wrong. part_and_without (codes "words") texts_from (words_made (words_before c.args.of)) _ (c.in_err-texts.ensures wrong))

pub returns-then-are_words : goal.returns-then-are_words
returns-then-are_words c =
    let are : are_words (words_before c.args.of) c.in_ok-texts.texts ≡ true =
    ap (are_words (words_before c.args.of)) (sym c.items.ensures) ∙ sym c.are_words.ensures ∙ c.if-are_words.true in
    reads_and (codes "words") texts_from (words_made (words_before c.args.of)) _ _ _
    (Ok (words_of c.in_ok-texts.texts)) c.in_ok-texts.ensures
    (ap (λ b. if b then Some (words_of c.in_ok-texts.texts) else None) are)

pub returns-else-are_words : goal.returns-else-are_words
returns-else-are_words c =
    let arent : are_words (words_before c.args.of) c.in_ok-texts.texts ≡ false =
    ap (are_words (words_before c.args.of)) (sym c.items.ensures) ∙ sym c.are_words.ensures ∙ c.if-are_words.false in
    reads_and (codes "words") texts_from (words_made (words_before c.args.of)) _ _ _ (Err WrongForm) c.in_ok-texts.ensures
    (λ wrong. ap (λ b. if b then Some (words_of c.in_ok-texts.texts) else None) arent)
