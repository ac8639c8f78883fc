use Rattle.std.proofs.Common.{◌≡◌, sym, subst}
use Rattle.std.specs.Prelude.{IsOkAnd}
use Rattle.jav_tree.specs.declared.expr.ExprNode.TheVariants as node
use Rattle.mol_spell_rules.specs.SpelledExpressions.{made}
use Rattle.mol_spell_expr.proofs.operators.choice_of.Goals as goal

pub returns : goal.returns
returns c =
    subst (λ r. IsOkAnd r (λ second. c.made.result ≡ made (node.Cond c.args.test c.args.first second))) (sym c.in_ok-second.was)
    c.made.ensures
