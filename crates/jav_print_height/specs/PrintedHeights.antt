-- The heights of statements, blocks and members as printed, counted on the tree that stands: at each expression its height
-- as printed, and everything else as in the tree.
use Rattle.std.specs.Prelude.{ℕ, max, List, Option, map, option_map}
use Rattle.jav_tree.specs.declared.expr.Expr.{Expr}
use Rattle.jav_tree.specs.declared.stmt.Declarator.{Declarator}
use Rattle.jav_tree.specs.declared.stmt.Let.{Let}
use Rattle.jav_tree.specs.declared.stmt.ForStart.{ForStart}
use Rattle.jav_tree.specs.declared.stmt.ForStart.TheVariants as for_start
use Rattle.jav_tree.specs.declared.stmt.Else.{Else, fold-Else}
use Rattle.jav_tree.specs.declared.stmt.StmtNode.{StmtNode, fold-StmtNode}
use Rattle.jav_tree.specs.declared.stmt.Block.{Block, fold-Block}
use Rattle.jav_tree.specs.declared.stmt.Stmt.{Stmt, fold-Stmt}
use Rattle.jav_tree.specs.declared.stmt.Else.TheOpen.{StmtNode-F}
use Rattle.jav_tree.specs.declared.unit.Member.{Member}
use Rattle.jav_tree.specs.declared.unit.Member.TheVariants as member
use Rattle.jav_tree.specs.Height.{above, tallest, tallest_maybe, else_step, block_step, stmt_step}
use Rattle.jav_tree.specs.WithParens.{expr_printed_height}

-- the height of the expression there is, 0 where there is none
abbrev pub maybe_height : Option Expr → ℕ
maybe_height e = tallest_maybe (option_map expr_printed_height e)

-- the greatest height of some expressions
abbrev pub tallest_of : List Expr → ℕ
tallest_of es = tallest (map expr_printed_height es)

-- of a variable, the height of its first value
abbrev pub declarator_height : Declarator → ℕ
declarator_height d = maybe_height d.init

-- the greatest height of the first values, 0 where no variable has one
abbrev pub let_height : Let → ℕ
let_height l = tallest (map declarator_height l.names)

-- what stands before the first `;` in the header of a `for`
abbrev pub start_height : ForStart → ℕ
start_height for_start.None = 0
start_height (for_start.Let l) = let_height l
start_height (for_start.Do es) = tallest_of es

-- A statement is one higher than the highest that it holds.
abbrev pub stmt_node_step : StmtNode-F ℕ ℕ ℕ ℕ → ℕ
stmt_node_step (StmtNode-F.StmtNode::Block b) = above b
stmt_node_step (StmtNode-F.Let l) = above (let_height l)
stmt_node_step (StmtNode-F.Do e) = above (expr_printed_height e)
stmt_node_step (StmtNode-F.StmtNode::If e b otherwise) = above (max (expr_printed_height e) (max b otherwise))
stmt_node_step (StmtNode-F.While e b) = above (max (expr_printed_height e) b)
stmt_node_step (StmtNode-F.For start test steps b) = above (max (start_height start) (max (maybe_height test) (max (tallest_of steps) b)))
stmt_node_step (StmtNode-F.Each is_final ty name e b) = above (max (expr_printed_height e) b)
stmt_node_step (StmtNode-F.Return e) = above (maybe_height e)
stmt_node_step (StmtNode-F.Throw e) = above (expr_printed_height e)
stmt_node_step StmtNode-F.Break = 1
stmt_node_step StmtNode-F.Continue = 1
stmt_node_step StmtNode-F.Empty = 1
stmt_node_step (StmtNode-F.SuperInit args) = above (tallest_of args)

-- Branches, blocks and lines are as high as in the tree, over these heights of their statements.
abbrev pub else_height : Else → ℕ
else_height = fold-Else ℕ ℕ ℕ ℕ else_step stmt_node_step block_step stmt_step

abbrev pub stmt_node_height : StmtNode → ℕ
stmt_node_height = fold-StmtNode ℕ ℕ ℕ ℕ else_step stmt_node_step block_step stmt_step

abbrev pub block_height : Block → ℕ
block_height = fold-Block ℕ ℕ ℕ ℕ else_step stmt_node_step block_step stmt_step

abbrev pub stmt_height : Stmt → ℕ
stmt_height = fold-Stmt ℕ ℕ ℕ ℕ else_step stmt_node_step block_step stmt_step

-- a member is as high as its block or its first value; 0 where it has neither
abbrev pub member_height : Member → ℕ
member_height (member.Field f) = maybe_height f.init
member_height (member.Method m) = tallest_maybe (option_map block_height m.block)
member_height (member.Ctor c) = block_height c.block
