-- What the limit of number bounds: the greatest number of parameters, of arguments, and of pairs of brackets of a type or of a
-- creation of an array. Items in braces, variables, imports and what a `for` lists have no such limit.
use Rattle.std.specs.Prelude.{ℕ, suc, ◌+◌, max, List, length, Option, map, option_map}
use Rattle.jav_tree.specs.declared.types.TypeName.{TypeName, fold-TypeName}
use Rattle.jav_tree.specs.declared.types.TypeName.TheOpen.{TypeName-F}
use Rattle.jav_tree.specs.declared.expr.Expr.{Expr, fold-Expr}
use Rattle.jav_tree.specs.declared.expr.ExprNode.TheOpen.{ExprNode-F, Expr-F}
use Rattle.jav_tree.specs.declared.stmt.Declarator.{Declarator}
use Rattle.jav_tree.specs.declared.stmt.Let.{Let}
use Rattle.jav_tree.specs.declared.stmt.ForStart.{ForStart}
use Rattle.jav_tree.specs.declared.stmt.ForStart.TheVariants as for_start
use Rattle.jav_tree.specs.declared.stmt.Block.{Block, fold-Block}
use Rattle.jav_tree.specs.declared.stmt.Else.TheOpen.{Else-F, StmtNode-F, Block-F, Stmt-F}
use Rattle.jav_tree.specs.declared.unit.Member.{Member}
use Rattle.jav_tree.specs.declared.unit.Member.TheVariants as member
use Rattle.jav_tree.specs.declared.unit.Param.{Param}
use Rattle.jav_tree.specs.declared.unit.Unit.{Unit as Source}
use Rattle.jav_tree.specs.Height.{tallest, tallest_maybe}

-- the pairs of brackets of a type
abbrev pub type_width_step : TypeName-F ℕ → ℕ
type_width_step (TypeName-F.Prim name) = 0
type_width_step (TypeName-F.Named name) = 0
type_width_step (TypeName-F.ArrayOf item) = suc item
type_width_step TypeName-F.Void = 0

abbrev pub type_width : TypeName → ℕ
type_width = fold-TypeName ℕ type_width_step

-- how many there are, or the greatest number that one of them has
abbrev pub counted : List ℕ → ℕ
counted widths = max (length widths) (tallest widths)

abbrev pub width_node_step : ExprNode-F ℕ ℕ → ℕ
width_node_step (ExprNode-F.Lit text) = 0
width_node_step ExprNode-F.This = 0
width_node_step (ExprNode-F.Name name) = 0
width_node_step (ExprNode-F.Dot e name) = e
width_node_step (ExprNode-F.Call on name args) = max (tallest_maybe on) (counted args)
width_node_step (ExprNode-F.SuperCall name args) = counted args
width_node_step (ExprNode-F.New to args) = counted args
width_node_step (ExprNode-F.NewArray to sizes open_pairs) = max (length sizes + open_pairs) (tallest sizes)
width_node_step (ExprNode-F.ArrayLit to items) = max (type_width to) (tallest items)
width_node_step (ExprNode-F.Braces items) = tallest items
width_node_step (ExprNode-F.Index e i) = max e i
width_node_step (ExprNode-F.Unary op e) = e
width_node_step (ExprNode-F.Post e op) = e
width_node_step (ExprNode-F.Binary a op b) = max a b
width_node_step (ExprNode-F.Assign a op b) = max a b
width_node_step (ExprNode-F.Cond test a b) = max test (max a b)
width_node_step (ExprNode-F.Cast to e) = max (type_width to) e
width_node_step (ExprNode-F.InstanceOf e to) = max e (type_width to)
width_node_step (ExprNode-F.Paren e) = e

abbrev pub width_expr_step : Expr-F ℕ ℕ → ℕ
width_expr_step e = e.node

abbrev pub expr_width : Expr → ℕ
expr_width = fold-Expr ℕ ℕ width_node_step width_expr_step

abbrev pub maybe_width : Option Expr → ℕ
maybe_width e = tallest_maybe (option_map expr_width e)

abbrev pub declarator_width : Declarator → ℕ
declarator_width d = maybe_width d.init

abbrev pub let_width : Let → ℕ
let_width l = max (type_width l.ty) (tallest (map declarator_width l.names))

abbrev pub start_width : ForStart → ℕ
start_width for_start.None = 0
start_width (for_start.Let l) = let_width l
start_width (for_start.Do es) = tallest (map expr_width es)

abbrev pub width_else_step : Else-F ℕ ℕ ℕ ℕ → ℕ
width_else_step Else-F.None = 0
width_else_step (Else-F.Else::Block b) = b
width_else_step (Else-F.Else::If s) = s

abbrev pub width_stmt_node_step : StmtNode-F ℕ ℕ ℕ ℕ → ℕ
width_stmt_node_step (StmtNode-F.StmtNode::Block b) = b
width_stmt_node_step (StmtNode-F.Let l) = let_width l
width_stmt_node_step (StmtNode-F.Do e) = expr_width e
width_stmt_node_step (StmtNode-F.StmtNode::If e b other) = max (expr_width e) (max b other)
width_stmt_node_step (StmtNode-F.While e b) = max (expr_width e) b
width_stmt_node_step (StmtNode-F.For start test steps b) = max (start_width start) (max (maybe_width test) (max (tallest (map expr_width steps)) b))
width_stmt_node_step (StmtNode-F.Each is_final to name e b) = max (type_width to) (max (expr_width e) b)
width_stmt_node_step (StmtNode-F.Return e) = maybe_width e
width_stmt_node_step (StmtNode-F.Throw e) = expr_width e
width_stmt_node_step StmtNode-F.Break = 0
width_stmt_node_step StmtNode-F.Continue = 0
width_stmt_node_step StmtNode-F.Empty = 0
width_stmt_node_step (StmtNode-F.SuperInit args) = counted (map expr_width args)

abbrev pub width_block_step : Block-F ℕ ℕ ℕ ℕ → ℕ
width_block_step b = tallest b.items

abbrev pub width_stmt_step : Stmt-F ℕ ℕ ℕ ℕ → ℕ
width_stmt_step s = s.node

abbrev pub block_width : Block → ℕ
block_width = fold-Block ℕ ℕ ℕ ℕ width_else_step width_stmt_node_step width_block_step width_stmt_step

abbrev pub param_width : Param → ℕ
param_width p = type_width p.ty

abbrev pub member_width : Member → ℕ
member_width (member.Field f) = max (type_width f.ty) (maybe_width f.init)
member_width (member.Method m) = max (type_width m.result) (max (counted (map param_width m.params)) (tallest_maybe (option_map block_width m.block)))
member_width (member.Ctor c) = max (counted (map param_width c.params)) (block_width c.block)

abbrev pub unit_width : Source → ℕ
unit_width u = tallest (map member_width u.class.members)
