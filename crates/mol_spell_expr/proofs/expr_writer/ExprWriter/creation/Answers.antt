use Rattle.std.proofs.Common.{◌∙◌, ap}
use Rattle.jav_tree.specs.declared.expr.ExprNode.TheVariants as node
use Rattle.jav_tree.specs.declared.types.TypeName.TheVariants as types
use Rattle.mol_spell_rules.specs.SpelledExpressions.{made}
use Rattle.mol_spell_expr.proofs.expr_writer.ExprWriter.creation.Goals as goal

pub returns : goal.returns
returns g c =
    c.created.ensures ∙ ap (λ text. made (node.New (types.Named text) c.args.args)) c.in_ok-text.ensures
