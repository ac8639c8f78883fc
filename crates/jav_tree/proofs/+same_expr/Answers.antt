use Rattle.std.proofs.Common.{rules}
use Rattle.jav_tree.proofs.Parts.{decided, same-Dot, same-Call, same-SuperCall, same-New, same-NewArray, same-ArrayLit, same-Braces, same-Index, same-Unary, same-Post, same-Binary, same-Assign, same-Cond, same-Cast, same-InstanceOf, same-Paren}
use Rattle.jav_tree.proofs.+same_expr.Goals as goal

pub expr::ExprNode::same-returns-then-same_text : goal.expr::ExprNode::same-returns-then-same_text
expr::ExprNode::same-returns-then-same_text t c = decided c.in-Dot-Dot.is-0 c.in-Dot-Dot.is-1 (same-Dot _ _ _ _) (search rules)

pub expr::ExprNode::same-returns-then-same_on : goal.expr::ExprNode::same-returns-then-same_on
expr::ExprNode::same-returns-then-same_on t c = decided c.in-Call-Call.is-0 c.in-Call-Call.is-1 (same-Call _ _ _ _ _ _) (search rules)

pub expr::ExprNode::same-returns-else-same_on : goal.expr::ExprNode::same-returns-else-same_on
expr::ExprNode::same-returns-else-same_on t c = decided c.in-Call-Call.is-0 c.in-Call-Call.is-1 (same-Call _ _ _ _ _ _) (search rules)

pub expr::ExprNode::same-returns-then-same_text-3 : goal.expr::ExprNode::same-returns-then-same_text-3
expr::ExprNode::same-returns-then-same_text-3 t c = decided c.in-SuperCall-SuperCall.is-0 c.in-SuperCall-SuperCall.is-1 (same-SuperCall _ _ _ _) (search rules)

pub expr::ExprNode::same-returns-then-same_type : goal.expr::ExprNode::same-returns-then-same_type
expr::ExprNode::same-returns-then-same_type t c = decided c.in-New-New.is-0 c.in-New-New.is-1 (same-New _ _ _ _) (search rules)

pub expr::ExprNode::same-returns-then-same_type-2 : goal.expr::ExprNode::same-returns-then-same_type-2
expr::ExprNode::same-returns-then-same_type-2 t c = decided c.in-NewArray-NewArray.is-0 c.in-NewArray-NewArray.is-1 (same-NewArray _ _ _ _ _ _) (search rules)

pub expr::ExprNode::same-returns-then-same_type-3 : goal.expr::ExprNode::same-returns-then-same_type-3
expr::ExprNode::same-returns-then-same_type-3 t c = decided c.in-ArrayLit-ArrayLit.is-0 c.in-ArrayLit-ArrayLit.is-1 (same-ArrayLit _ _ _ _) (search rules)

pub expr::ExprNode::same-returns-in-Braces-Braces : goal.expr::ExprNode::same-returns-in-Braces-Braces
expr::ExprNode::same-returns-in-Braces-Braces t c = decided c.in-Braces-Braces.is-0 c.in-Braces-Braces.is-1 (same-Braces _ _) (search rules)

pub expr::ExprNode::same-returns-in-Paren-Paren : goal.expr::ExprNode::same-returns-in-Paren-Paren
expr::ExprNode::same-returns-in-Paren-Paren t c = decided c.in-Paren-Paren.is-0 c.in-Paren-Paren.is-1 (same-Paren _ _) (search rules)

pub expr::ExprNode::same-returns-then-same : goal.expr::ExprNode::same-returns-then-same
expr::ExprNode::same-returns-then-same t c = decided c.in-Index-Index.is-0 c.in-Index-Index.is-1 (same-Index _ _ _ _) (search rules)

pub expr::ExprNode::same-returns-else-same : goal.expr::ExprNode::same-returns-else-same
expr::ExprNode::same-returns-else-same t c = decided c.in-Index-Index.is-0 c.in-Index-Index.is-1 (same-Index _ _ _ _) (search rules)

pub expr::ExprNode::same-returns-then-same_text-4 : goal.expr::ExprNode::same-returns-then-same_text-4
expr::ExprNode::same-returns-then-same_text-4 t c = decided c.in-Unary-Unary.is-0 c.in-Unary-Unary.is-1 (same-Unary _ _ _ _) (search rules)

pub expr::ExprNode::same-returns-then-same_text-5 : goal.expr::ExprNode::same-returns-then-same_text-5
expr::ExprNode::same-returns-then-same_text-5 t c = decided c.in-Post-Post.is-0 c.in-Post-Post.is-1 (same-Post _ _ _ _) (search rules)

pub expr::ExprNode::same-returns-then-same-2 : goal.expr::ExprNode::same-returns-then-same-2
expr::ExprNode::same-returns-then-same-2 t c = decided c.in-Binary-Binary.is-0 c.in-Binary-Binary.is-1 (same-Binary _ _ _ _ _ _) (search rules)

pub expr::ExprNode::same-returns-else-same-2 : goal.expr::ExprNode::same-returns-else-same-2
expr::ExprNode::same-returns-else-same-2 t c = decided c.in-Binary-Binary.is-0 c.in-Binary-Binary.is-1 (same-Binary _ _ _ _ _ _) (search rules)

pub expr::ExprNode::same-returns-then-same-3 : goal.expr::ExprNode::same-returns-then-same-3
expr::ExprNode::same-returns-then-same-3 t c = decided c.in-Assign-Assign.is-0 c.in-Assign-Assign.is-1 (same-Assign _ _ _ _ _ _) (search rules)

pub expr::ExprNode::same-returns-else-same-3 : goal.expr::ExprNode::same-returns-else-same-3
expr::ExprNode::same-returns-else-same-3 t c = decided c.in-Assign-Assign.is-0 c.in-Assign-Assign.is-1 (same-Assign _ _ _ _ _ _) (search rules)

pub expr::ExprNode::same-returns-then-same-5 : goal.expr::ExprNode::same-returns-then-same-5
expr::ExprNode::same-returns-then-same-5 t c = decided c.in-Cond-Cond.is-0 c.in-Cond-Cond.is-1 (same-Cond _ _ _ _ _ _) (search rules)

pub expr::ExprNode::same-returns-else-same-5 : goal.expr::ExprNode::same-returns-else-same-5
expr::ExprNode::same-returns-else-same-5 t c = decided c.in-Cond-Cond.is-0 c.in-Cond-Cond.is-1 (same-Cond _ _ _ _ _ _) (search rules)

pub expr::ExprNode::same-returns-then-same_type-4 : goal.expr::ExprNode::same-returns-then-same_type-4
expr::ExprNode::same-returns-then-same_type-4 t c = decided c.in-Cast-Cast.is-0 c.in-Cast-Cast.is-1 (same-Cast _ _ _ _) (search rules)

pub expr::ExprNode::same-returns-then-same_type-5 : goal.expr::ExprNode::same-returns-then-same_type-5
expr::ExprNode::same-returns-then-same_type-5 t c = decided c.in-InstanceOf-InstanceOf.is-0 c.in-InstanceOf-InstanceOf.is-1 (same-InstanceOf _ _ _ _) (search rules)
