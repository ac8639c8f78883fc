-- The tree as printed: the parentheses that stand in a tree are dropped, and others put exactly where an operand needs
-- them (JLS 15). The layout prints this tree, and its height is the height as printed.
use Rattle.std.specs.Prelude.{ℕ, suc, List, map, option_map, ◌∷◌, [], Bool, false, not, ◌&&◌, ◌||◌, if◌then◌else◌, nat_lt, nat_le, Option, Some, None}
use Rattle.mol_base.specs.Operators.{is_step, is_sign}
use Rattle.jav_tree.specs.declared.expr.Expr.{Expr, fold-Expr}
use Rattle.jav_tree.specs.declared.expr.ExprNode.{ExprNode, fold-ExprNode}
use Rattle.jav_tree.specs.declared.expr.ExprNode.TheVariants.{Lit, This, Name, Dot, Call, SuperCall, New, NewArray, ArrayLit, Braces, Index, Unary, Post, Binary, Assign, Cond, Cast, InstanceOf, Paren}
use Rattle.jav_tree.specs.declared.expr.ExprNode.TheOpen.{ExprNode-F, Expr-F}
use Rattle.jav_tree.specs.declared.stmt.Block.{Block}
use Rattle.jav_tree.specs.declared.unit.Member.{Member}
use Rattle.jav_tree.specs.declared.unit.Unit.{Unit as Source}
use Rattle.jav_tree.specs.Operators.{binary_level}
use Rattle.jav_tree.specs.Expressions.{expr_at}
use Rattle.jav_tree.specs.Types.{is_primitive}
use Rattle.jav_tree.specs.EachExpression.{map_block, map_member, map_unit}
use Rattle.jav_tree.specs.Height.{expr_height, block_height, member_height, unit_height}

-- An expression as printed, without parentheses round it, and what decides whether it needs them as an operand: the
-- level of its loosest operator (1 the loosest, 15 the tightest), whether that is a prefix `+ - ++ --`, and whether it
-- is a number literal.
pub record Operand : Type 0 where
  pub level : ℕ
  pub is_signed : Bool
  pub is_number : Bool
  pub tree : Expr

abbrev pub of_level : ℕ → Expr → Operand
of_level level e = record { level = level; is_signed = false; is_number = false; tree = e }

-- what binds as tightly as a name
abbrev pub tight : Expr → Operand
tight = of_level 15

-- the expression in parentheses where they are needed; they have its place
abbrev pub parenthesized : Bool → Expr → Expr
parenthesized needed e = if needed then expr_at e.at (Paren e) else e

-- where this level or a greater one is needed
abbrev pub from : ℕ → Operand → Expr
from level e = parenthesized (nat_lt e.level level) e.tree

-- before a dot: level 15, and no number literal
abbrev pub before_dot : Operand → Expr
before_dot e = parenthesized (nat_lt e.level 15 || e.is_number) e.tree

-- the operand of a cast: level 13, and, unless the type is primitive, no prefix `+ - ++ --` (JLS 15.16)
abbrev pub cast_operand : Bool → Operand → Expr
cast_operand primitive e = parenthesized (nat_lt e.level 13 || (not primitive && e.is_signed)) e.tree

-- where an expression of any level may stand: by itself, as an index, in the middle of a condition ..
abbrev pub anywhere : Operand → Expr
anywhere e = e.tree

-- .. and as an argument, a size or an item
abbrev pub trees : List Operand → List Expr
trees es = map anywhere es

-- a text that begins with a digit
abbrev pub begins_with_digit : List ℕ → Bool
begins_with_digit [] = false
begins_with_digit (c ∷ rest) = nat_le 48 c && nat_le c 57

-- `++` and `--` stand before a target, the other prefix operators before an operand of level 13.
abbrev pub prefix_operand : List ℕ → Operand → Expr
prefix_operand op e = from (if is_step op then 15 else 13) e

-- an operator between two operands: the left one from its own level, the right one from the next
abbrev pub binary : Option ℕ → Operand → List ℕ → Operand → ℕ → Operand
binary (Some level) a op b at = of_level level (expr_at at (Binary (from level a) op (from (suc level) b)))
binary None a op b at = of_level 1 (expr_at at (Binary (from 15 a) op (from 15 b)))

-- A node becomes an operand once its place is known. What stands in parentheses is that operand itself.
abbrev pub operand_node_step : ExprNode-F (ℕ → Operand) Operand → ℕ → Operand
operand_node_step (ExprNode-F.Lit text) at = record { level = 15; is_signed = false; is_number = begins_with_digit text; tree = expr_at at (Lit text) }
operand_node_step ExprNode-F.This at = tight (expr_at at This)
operand_node_step (ExprNode-F.Name name) at = tight (expr_at at (Name name))
operand_node_step (ExprNode-F.Dot e name) at = tight (expr_at at (Dot (before_dot e) name))
operand_node_step (ExprNode-F.Call on name args) at = tight (expr_at at (Call (option_map before_dot on) name (trees args)))
operand_node_step (ExprNode-F.SuperCall name args) at = tight (expr_at at (SuperCall name (trees args)))
operand_node_step (ExprNode-F.New to args) at = tight (expr_at at (New to (trees args)))
operand_node_step (ExprNode-F.NewArray to sizes open_pairs) at = of_level 14 (expr_at at (NewArray to (trees sizes) open_pairs))
operand_node_step (ExprNode-F.ArrayLit to items) at = of_level 14 (expr_at at (ArrayLit to (trees items)))
operand_node_step (ExprNode-F.Braces items) at = tight (expr_at at (Braces (trees items)))
operand_node_step (ExprNode-F.Index e i) at = tight (expr_at at (Index (from 15 e) (anywhere i)))
operand_node_step (ExprNode-F.Unary op e) at =
    record { level = 13; is_signed = is_sign op; is_number = false; tree = expr_at at (Unary op (prefix_operand op e)) }
operand_node_step (ExprNode-F.Post e op) at = of_level 14 (expr_at at (Post (from 15 e) op))
operand_node_step (ExprNode-F.Binary a op b) at = binary (binary_level op) a op b at
operand_node_step (ExprNode-F.Assign a op b) at = of_level 1 (expr_at at (Assign (from 15 a) op (anywhere b)))
operand_node_step (ExprNode-F.Cond test a b) at = of_level 2 (expr_at at (Cond (from 3 test) (anywhere a) (from 2 b)))
operand_node_step (ExprNode-F.Cast to e) at = of_level 13 (expr_at at (Cast to (cast_operand (is_primitive to) e)))
operand_node_step (ExprNode-F.InstanceOf e to) at = of_level 9 (expr_at at (InstanceOf (from 9 e) to))
operand_node_step (ExprNode-F.Paren inner) at = inner

abbrev pub operand_expr_step : Expr-F (ℕ → Operand) Operand → Operand
operand_expr_step e = e.node e.at

abbrev pub operand_of_node : ExprNode → ℕ → Operand
operand_of_node = fold-ExprNode (ℕ → Operand) Operand operand_node_step operand_expr_step

abbrev pub operand : Expr → Operand
operand = fold-Expr (ℕ → Operand) Operand operand_node_step operand_expr_step

-- the tree as printed
abbrev pub expr_with_parens : Expr → Expr
expr_with_parens e = anywhere (operand e)

abbrev pub block_with_parens : Block → Block
block_with_parens = map_block expr_with_parens

abbrev pub member_with_parens : Member → Member
member_with_parens = map_member expr_with_parens

abbrev pub unit_with_parens : Source → Source
unit_with_parens = map_unit expr_with_parens

-- the height as printed, which counts the parentheses that are printed and no others
abbrev pub expr_printed_height : Expr → ℕ
expr_printed_height e = expr_height (expr_with_parens e)

abbrev pub block_printed_height : Block → ℕ
block_printed_height b = block_height (block_with_parens b)

abbrev pub member_printed_height : Member → ℕ
member_printed_height m = member_height (member_with_parens m)

abbrev pub unit_printed_height : Source → ℕ
unit_printed_height u = unit_height (unit_with_parens u)
