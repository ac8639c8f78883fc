-- How high a tree is: the length of the longest way down in it, counted in expressions, statements and blocks.
-- So a name or an empty block is 1 high. The greatest u32 stands for all that is higher.
use Rattle.std.specs.Prelude.{ℕ, ◌+◌, max, min, List, [], ◌∷◌, Option, Some, None, map, option_map}
use Rattle.jav_tree.specs.declared.expr.Expr.{Expr, fold-Expr}
use Rattle.jav_tree.specs.declared.expr.ExprNode.{ExprNode, fold-ExprNode}
use Rattle.jav_tree.specs.declared.expr.ExprNode.TheOpen.{ExprNode-F, Expr-F}
use Rattle.jav_tree.specs.declared.stmt.Declarator.{Declarator}
use Rattle.jav_tree.specs.declared.stmt.Let.{Let}
use Rattle.jav_tree.specs.declared.stmt.ForStart.{ForStart}
use Rattle.jav_tree.specs.declared.stmt.ForStart.TheVariants as for_start
use Rattle.jav_tree.specs.declared.stmt.Else.{Else, fold-Else}
use Rattle.jav_tree.specs.declared.stmt.StmtNode.{StmtNode, fold-StmtNode}
use Rattle.jav_tree.specs.declared.stmt.Block.{Block, fold-Block}
use Rattle.jav_tree.specs.declared.stmt.Stmt.{Stmt, fold-Stmt}
use Rattle.jav_tree.specs.declared.stmt.Else.TheOpen.{Else-F, StmtNode-F, Block-F, Stmt-F}
use Rattle.jav_tree.specs.declared.unit.Member.{Member}
use Rattle.jav_tree.specs.declared.unit.Member.TheVariants as member
use Rattle.jav_tree.specs.declared.unit.Unit.{Unit as Source}

-- one higher than what is held
abbrev pub above : ℕ → ℕ
above held = min (held + 1) 0xffff_ffff

-- the greatest of some heights; 0 where there is none
abbrev pub tallest : List ℕ → ℕ
tallest [] = 0
tallest (h ∷ hs) = max h (tallest hs)

abbrev pub tallest_maybe : Option ℕ → ℕ
tallest_maybe None = 0
tallest_maybe (Some h) = h

abbrev pub expr_node_step : ExprNode-F ℕ ℕ → ℕ
expr_node_step (ExprNode-F.Lit text) = 1
expr_node_step ExprNode-F.This = 1
expr_node_step (ExprNode-F.Name name) = 1
expr_node_step (ExprNode-F.Dot e name) = above e
expr_node_step (ExprNode-F.Call on name args) = above (max (tallest_maybe on) (tallest args))
expr_node_step (ExprNode-F.SuperCall name args) = above (tallest args)
expr_node_step (ExprNode-F.New ty args) = above (tallest args)
expr_node_step (ExprNode-F.NewArray ty sizes open_pairs) = above (tallest sizes)
expr_node_step (ExprNode-F.ArrayLit ty items) = above (tallest items)
expr_node_step (ExprNode-F.Braces items) = above (tallest items)
expr_node_step (ExprNode-F.Index e i) = above (max e i)
expr_node_step (ExprNode-F.Unary op e) = above e
expr_node_step (ExprNode-F.Post e op) = above e
expr_node_step (ExprNode-F.Binary a op b) = above (max a b)
expr_node_step (ExprNode-F.Assign a op b) = above (max a b)
expr_node_step (ExprNode-F.Cond test a b) = above (max test (max a b))
expr_node_step (ExprNode-F.Cast ty e) = above e
expr_node_step (ExprNode-F.InstanceOf e ty) = above e
expr_node_step (ExprNode-F.Paren e) = above e

abbrev pub expr_step : Expr-F ℕ ℕ → ℕ
expr_step e = e.node

abbrev pub expr_node_height : ExprNode → ℕ
expr_node_height = fold-ExprNode ℕ ℕ expr_node_step expr_step

abbrev pub expr_height : Expr → ℕ
expr_height = fold-Expr ℕ ℕ expr_node_step expr_step

abbrev pub maybe_height : Option Expr → ℕ
maybe_height e = tallest_maybe (option_map expr_height e)

abbrev pub declarator_height : Declarator → ℕ
declarator_height d = maybe_height d.init

-- the greatest height of the first values, 0 where no variable has one
abbrev pub let_height : Let → ℕ
let_height l = tallest (map declarator_height l.names)

abbrev pub start_height : ForStart → ℕ
start_height for_start.None = 0
start_height (for_start.Let l) = let_height l
start_height (for_start.Do es) = tallest (map expr_height es)

abbrev pub else_step : Else-F ℕ ℕ ℕ ℕ → ℕ
else_step Else-F.None = 0
else_step (Else-F.Else::Block b) = b
else_step (Else-F.Else::If s) = s

abbrev pub stmt_node_step : StmtNode-F ℕ ℕ ℕ ℕ → ℕ
stmt_node_step (StmtNode-F.StmtNode::Block b) = above b
stmt_node_step (StmtNode-F.Let l) = above (let_height l)
stmt_node_step (StmtNode-F.Do e) = above (expr_height e)
stmt_node_step (StmtNode-F.StmtNode::If e b other) = above (max (expr_height e) (max b other))
stmt_node_step (StmtNode-F.While e b) = above (max (expr_height e) b)
stmt_node_step (StmtNode-F.For start test steps b) = above (max (start_height start) (max (maybe_height test) (max (tallest (map expr_height steps)) b)))
stmt_node_step (StmtNode-F.Each is_final ty name e b) = above (max (expr_height e) b)
stmt_node_step (StmtNode-F.Return e) = above (maybe_height e)
stmt_node_step (StmtNode-F.Throw e) = above (expr_height e)
stmt_node_step StmtNode-F.Break = 1
stmt_node_step StmtNode-F.Continue = 1
stmt_node_step StmtNode-F.Empty = 1
stmt_node_step (StmtNode-F.SuperInit args) = above (tallest (map expr_height args))

abbrev pub block_step : Block-F ℕ ℕ ℕ ℕ → ℕ
block_step b = above (tallest b.items)

abbrev pub stmt_step : Stmt-F ℕ ℕ ℕ ℕ → ℕ
stmt_step s = s.node

abbrev pub else_height : Else → ℕ
else_height = fold-Else ℕ ℕ ℕ ℕ else_step stmt_node_step block_step stmt_step

abbrev pub stmt_node_height : StmtNode → ℕ
stmt_node_height = fold-StmtNode ℕ ℕ ℕ ℕ else_step stmt_node_step block_step stmt_step

abbrev pub block_height : Block → ℕ
block_height = fold-Block ℕ ℕ ℕ ℕ else_step stmt_node_step block_step stmt_step

abbrev pub stmt_height : Stmt → ℕ
stmt_height = fold-Stmt ℕ ℕ ℕ ℕ else_step stmt_node_step block_step stmt_step

-- a member is as high as its block or its first value; 0 where it has neither
abbrev pub member_height : Member → ℕ
member_height (member.Field f) = maybe_height f.init
member_height (member.Method m) = tallest_maybe (option_map block_height m.block)
member_height (member.Ctor c) = block_height c.block

abbrev pub unit_height : Source → ℕ
unit_height u = tallest (map member_height u.class.members)
