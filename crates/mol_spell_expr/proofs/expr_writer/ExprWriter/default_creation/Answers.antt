use Rattle.std.proofs.Common.{◌∙◌}
use Rattle.jav_tree.specs.declared.expr.ExprNode.TheVariants as node
use Rattle.jav_tree.specs.declared.types.TypeName.TheVariants as types
use Rattle.mol_spell_rules.specs.SpelledExpressions.{made}
use Rattle.mol_spell_expr.proofs.expr_writer.ExprWriter.default_creation.Goals as goal

pub returns : goal.returns
returns g c =
    c.created.ensures ∙ (λ i. made (node.New (types.Named (c.in_ok-text.ensures i)) (c.new.ensures i)))
