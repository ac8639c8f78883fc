use Rattle.std.proofs.Common.{◌≡◌, sym, subst}
use Rattle.std.proofs.lemmas.Result.{IfOk-weaker}
use Rattle.std.specs.Prelude.{IsOkAnd}
use Rattle.mol_spell_expr.specs.Parts.{over_operands}
use Rattle.mol_spell_expr.proofs.operators.over_operands.Goals as goal

pub returns : goal.returns
returns c =
    IfOk-weaker c.over_both.result _ _ (λ tree written.
    subst (λ r. IsOkAnd r (λ second. tree ≡ over_operands c.args.kind c.args.first second)) (sym c.in_ok-second.was) written)
    c.over_both.ensures
