use Rattle.std.proofs.Common.{◌∙◌}
use Rattle.std.proofs.lemmas.Result.{IfOk-weaker}
use Rattle.mol_resolve_expr.proofs.MadeOfParts.{chosen}
use Rattle.mol_resolve_expr.proofs.expr_reader.ExprReader.choice_of.Goals as goal
use Rattle.mol_resolve_readings.specs.meant.Kept.{view_part}

pub returns : goal.returns
returns g c = IfOk-weaker c.choice.result _ _ (λ value is.
    is ∙ chosen (g.N.Names.reader c.args.self.now.names.now) _ (view_part c.args.test) (view_part c.args.first) (view_part c.args.second)
    c.in_ok-common.ensures) c.choice.ensures
