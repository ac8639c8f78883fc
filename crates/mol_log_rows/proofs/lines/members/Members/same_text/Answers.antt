use Rattle.std.proofs.Common.{◌≡◌, true, false, ap, sym, ◌∙◌}
use Rattle.std.specs.Str.{bytes_eq}
use Rattle.serde_json.specs.Find.{as_str}
use Rattle.mol_log_rows.specs.lines.Reader.{passing}
use Rattle.mol_log_rows.proofs.lines_lemmas.Refused.{reads_known_err}
use Rattle.mol_log_rows.proofs.lines_lemmas.Taken.{part_and_without, part_is, part_is_not}
use Rattle.mol_log_rows.proofs.lines.members.Members.same_text.Goals as goal

pub returns-in_err-text : goal.returns-in_err-text
returns-in_err-text c =
    reads_known_err c.args.wanted.now _ c.from_residual.result _ _ c.from_residual.ensures.1
    (λ wrong. part_and_without c.args.key.now as_str (passing (λ found. bytes_eq found c.args.wanted.now)) _ (c.in_err-text.ensures wrong))

pub returns-then-eq : goal.returns-then-eq
returns-then-eq c =
    let same : bytes_eq c.in_ok-text.text c.args.wanted.now ≡ true = ap (λ bytes. bytes_eq bytes c.args.wanted.now) (sym c.as_str.ensures) ∙ sym c.eq.ensures ∙ c.if-eq.true in
    part_is c.args.key.now c.args.wanted.now _ c.in_ok-text.text _ c.in_ok-text.ensures same

pub returns : goal.returns
returns c = λ wrong.
    let other : bytes_eq c.in_ok-text.text c.args.wanted.now ≡ false = ap (λ bytes. bytes_eq bytes c.args.wanted.now) (sym c.as_str.ensures) ∙ sym c.eq.ensures ∙ c.if-eq.false in
    part_is_not c.args.key.now c.args.wanted.now _ c.in_ok-text.text _ c.in_ok-text.ensures other
