use Rattle.std.proofs.Common.{◌∙◌, ap}
use Rattle.jav_tree.specs.declared.expr.ExprNode.TheVariants as node
use Rattle.mol_spell_rules.specs.SpelledExpressions.{made}
use Rattle.mol_spell_expr.proofs.expr_writer.ExprWriter.array_of.Goals as goal

pub returns : goal.returns
returns g c =
    c.made.ensures ∙ ap (λ ty. made (node.ArrayLit ty c.args.items)) c.in_ok-ty.ensures
