use Rattle.std.proofs.lemmas.Result.{on_ok_weaker}
use Rattle.mol_log_expr.proofs.WrittenExpressions.{added_instance_of}
use Rattle.mol_log_expr.proofs.write_exprs.+write_expr.Goals as goal

pub add_expr-returns-in_ok-after-in-InstanceOf : goal.add_expr-returns-in_ok-after-in-InstanceOf
add_expr-returns-in_ok-after-in-InstanceOf t c =
    on_ok_weaker c.ty.result
    (added_instance_of _ _ _ _ _ _ _ c.in-InstanceOf.is c.get-in-InstanceOf.ensures c.in_ok-after-in-InstanceOf.ensures) c.ty.ensures
