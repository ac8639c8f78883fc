-- The tree without parentheses: what stood in parentheses stands there by itself, at its own place.
use Rattle.std.specs.Prelude.{ℕ}
use Rattle.jav_tree.specs.declared.expr.Expr.{Expr, fold-Expr}
use Rattle.jav_tree.specs.declared.expr.ExprNode.{ExprNode, fold-ExprNode}
use Rattle.jav_tree.specs.declared.expr.ExprNode.TheVariants.{Lit, This, Name, Dot, Call, SuperCall, New, NewArray, ArrayLit, Braces, Index, Unary, Post, Binary, Assign, Cond, Cast, InstanceOf}
use Rattle.jav_tree.specs.declared.expr.ExprNode.TheOpen.{ExprNode-F, Expr-F}
use Rattle.jav_tree.specs.declared.stmt.Block.{Block}
use Rattle.jav_tree.specs.declared.unit.Member.{Member}
use Rattle.jav_tree.specs.declared.unit.Unit.{Unit as Source}
use Rattle.jav_tree.specs.Expressions.{expr_at}
use Rattle.jav_tree.specs.EachExpression.{map_block, map_member, map_unit}

-- A node becomes an expression once its place is known.
abbrev pub without_parens_node_step : ExprNode-F (ℕ → Expr) Expr → ℕ → Expr
without_parens_node_step (ExprNode-F.Lit text) at = expr_at at (Lit text)
without_parens_node_step ExprNode-F.This at = expr_at at This
without_parens_node_step (ExprNode-F.Name name) at = expr_at at (Name name)
without_parens_node_step (ExprNode-F.Dot e name) at = expr_at at (Dot e name)
without_parens_node_step (ExprNode-F.Call on name args) at = expr_at at (Call on name args)
without_parens_node_step (ExprNode-F.SuperCall name args) at = expr_at at (SuperCall name args)
without_parens_node_step (ExprNode-F.New ty args) at = expr_at at (New ty args)
without_parens_node_step (ExprNode-F.NewArray ty sizes open_pairs) at = expr_at at (NewArray ty sizes open_pairs)
without_parens_node_step (ExprNode-F.ArrayLit ty items) at = expr_at at (ArrayLit ty items)
without_parens_node_step (ExprNode-F.Braces items) at = expr_at at (Braces items)
without_parens_node_step (ExprNode-F.Index e i) at = expr_at at (Index e i)
without_parens_node_step (ExprNode-F.Unary op e) at = expr_at at (Unary op e)
without_parens_node_step (ExprNode-F.Post e op) at = expr_at at (Post e op)
without_parens_node_step (ExprNode-F.Binary a op b) at = expr_at at (Binary a op b)
without_parens_node_step (ExprNode-F.Assign a op b) at = expr_at at (Assign a op b)
without_parens_node_step (ExprNode-F.Cond test a b) at = expr_at at (Cond test a b)
without_parens_node_step (ExprNode-F.Cast ty e) at = expr_at at (Cast ty e)
without_parens_node_step (ExprNode-F.InstanceOf e ty) at = expr_at at (InstanceOf e ty)
without_parens_node_step (ExprNode-F.Paren inner) at = inner

abbrev pub without_parens_expr_step : Expr-F (ℕ → Expr) Expr → Expr
without_parens_expr_step e = e.node e.at

abbrev pub expr_node_without_parens : ExprNode → ℕ → Expr
expr_node_without_parens = fold-ExprNode (ℕ → Expr) Expr without_parens_node_step without_parens_expr_step

abbrev pub expr_without_parens : Expr → Expr
expr_without_parens = fold-Expr (ℕ → Expr) Expr without_parens_node_step without_parens_expr_step

abbrev pub block_without_parens : Block → Block
block_without_parens = map_block expr_without_parens

abbrev pub member_without_parens : Member → Member
member_without_parens = map_member expr_without_parens

abbrev pub unit_without_parens : Source → Source
unit_without_parens = map_unit expr_without_parens
