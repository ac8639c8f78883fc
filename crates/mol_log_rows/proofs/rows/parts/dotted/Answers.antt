use Rattle.std.proofs.Common.{◌≡◌, true, false, Ok, Err, ap, sym, ◌∙◌}
use Rattle.serde_json.specs.Find.{as_str}
use Rattle.mol_log_rows.specs.lines.Reader.{passing}
use Rattle.mol_log_rows.specs.declared.lines.object_fault.ObjectFault.TheVariants.{WrongForm}
use Rattle.mol_log_rows.proofs.lines_lemmas.Refused.{reads_err}
use Rattle.mol_log_rows.proofs.lines_lemmas.Taken.{reads_and, part_and_without, passes, fails}
use Rattle.mol_values_types.specs.TokenForms.{is_dotted}
use Rattle.mol_log_rows.proofs.rows.parts.dotted.Goals as goal

pub returns-in_err-text : goal.returns-in_err-text
returns-in_err-text c =
    reads_err _ c.from_residual.result _ _ c.from_residual.ensures.1
    (λ wrong. part_and_without c.args.key.now as_str (passing is_dotted) _ (c.in_err-text.ensures wrong))

pub returns-then-is_dotted : goal.returns-then-is_dotted
returns-then-is_dotted c =
    let is : is_dotted c.in_ok-text.text ≡ true = ap is_dotted (sym c.bytes.ensures.bytes) ∙ sym c.is_dotted.ensures
    ∙ c.if-is_dotted.true in
    reads_and c.args.key.now as_str (passing is_dotted) _ _ _ (Ok c.in_ok-text.text) c.in_ok-text.ensures
    (passes is_dotted c.in_ok-text.text is)

pub returns-else-is_dotted : goal.returns-else-is_dotted
returns-else-is_dotted c =
    let isnt : is_dotted c.in_ok-text.text ≡ false = ap is_dotted (sym c.bytes.ensures.bytes) ∙ sym c.is_dotted.ensures
    ∙ c.if-is_dotted.false in
    reads_and c.args.key.now as_str (passing is_dotted) _ _ _ (Err WrongForm) c.in_ok-text.ensures
    (λ wrong. fails is_dotted c.in_ok-text.text isnt)
