use Rattle.std.proofs.Common.{None, refl}
use Rattle.std.proofs.lemmas.Result.{IfOk-weaker}
use Rattle.mol_resolve_expr.proofs.expr_reader.ExprReader.alone.Goals as goal

pub returns : goal.returns
returns g c = IfOk-weaker c.value.result _ _ (λ value read. read None refl) c.value.ensures
