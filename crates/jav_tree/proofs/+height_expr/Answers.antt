use Rattle.std.proofs.Common.{sym, ◌∙◌}
use Rattle.jav_tree.proofs.Heights.{of_expr_at, height_of_expression}
use Rattle.jav_tree.proofs.+height_expr.Goals as goal

pub expr::Expr::height-returns-clause-grammar : goal.expr::Expr::height-returns-clause-grammar
expr::Expr::height-returns-clause-grammar t c = λ limit level h ts p. c.height.ensures ∙ sym (of_expr_at c.args.self.now.at c.args.self.now.node) ∙ height_of_expression p
