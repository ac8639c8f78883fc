use Rattle.std.proofs.Common.{◌≡◌, Some, sym, subst}
use Rattle.std.proofs.lemmas.Result.{IfOk-weaker}
use Rattle.std.specs.Prelude.{IsOkAnd}
use Rattle.mol_spell_expr.specs.Calls.{call_node}
use Rattle.mol_spell_expr.proofs.trees.call_on.Goals as goal

pub returns : goal.returns
returns c =
    IfOk-weaker c.call.result _ _ (λ tree written.
    subst (λ r. IsOkAnd r (λ args. tree ≡ call_node (Some c.args.on) c.args.name.now args)) (sym c.in_ok-args.was) written)
    c.call.ensures
