-- The height of an expression as printed, found together with what decides where parentheses are put. It is that of the
-- tree as printed, which is made nowhere.
use Rattle.std.specs.Prelude.{ℕ, suc, max, List, map, option_map, Bool, false, not, ◌&&◌, ◌||◌, if◌then◌else◌, nat_lt, Option, Some, None}
use Rattle.mol_base.specs.Operators.{binary_level, is_step, is_sign}
use Rattle.jav_tree.specs.declared.expr.Expr.{Expr, fold-Expr}
use Rattle.jav_tree.specs.declared.expr.ExprNode.{ExprNode, fold-ExprNode}
use Rattle.jav_tree.specs.declared.expr.ExprNode.TheOpen.{ExprNode-F, Expr-F}
use Rattle.jav_tree.specs.Height.{above, tallest, tallest_maybe, expr_height}
use Rattle.jav_tree.specs.Types.{is_primitive}
use Rattle.jav_tree.specs.WithParens.{Operand, begins_with_digit}
use Rattle.jav_print_height.specs.declared.measure.Measure.{Measure}

-- What is measured of an expression as printed: the height of its tree, and how it binds.
abbrev pub measured : Operand → Measure
measured e = record { height = expr_height e.tree; level = e.level; is_signed = e.is_signed; is_number = e.is_number }

-- an expression of this height whose loosest operator is of this level
abbrev pub of_level : ℕ → ℕ → Measure
of_level level height = record { height = height; level = level; is_signed = false; is_number = false }

-- what binds as tightly as a name
abbrev pub tight : ℕ → Measure
tight = of_level 15

-- the height in parentheses where they are needed
abbrev pub parenthesized : Bool → ℕ → ℕ
parenthesized needed height = if needed then above height else height

-- where this level or a greater one is needed
abbrev pub from : ℕ → Measure → ℕ
from level e = parenthesized (nat_lt e.level level) e.height

-- before a dot: level 15, and no number literal
abbrev pub before_dot : Measure → ℕ
before_dot e = parenthesized (nat_lt e.level 15 || e.is_number) e.height

-- the operand of a cast: level 13, and, unless the type is primitive, no prefix `+ - ++ --` (JLS 15.16)
abbrev pub cast_operand : Bool → Measure → ℕ
cast_operand primitive e = parenthesized (nat_lt e.level 13 || (not primitive && e.is_signed)) e.height

-- where an expression of any level may stand
abbrev pub anywhere : Measure → ℕ
anywhere e = e.height

abbrev pub heights : List Measure → List ℕ
heights es = map anywhere es

-- a literal
abbrev pub literal : List ℕ → Measure
literal text = record { height = 1; level = 15; is_signed = false; is_number = begins_with_digit text }

-- A prefix operator and its operand: `++` and `--` stand before a target, the others before an operand of level 13.
abbrev pub prefix : List ℕ → Measure → Measure
prefix op e = record { height = above (from (if is_step op then 15 else 13) e); level = 13; is_signed = is_sign op; is_number = false }

-- an operator between two operands: the left one from its own level, the right one from the next
abbrev pub binary : Option ℕ → Measure → Measure → Measure
binary (Some level) a b = of_level level (above (max (from level a) (from (suc level) b)))
binary None a b = of_level 1 (above (max (from 15 a) (from 15 b)))

-- an item of an array
abbrev pub element : Measure → Measure → Measure
element e i = tight (above (max (from 15 e) (anywhere i)))

-- an assignment
abbrev pub assignment : Measure → Measure → Measure
assignment a b = of_level 1 (above (max (from 15 a) (anywhere b)))

-- `test ? a : b`
abbrev pub conditional : Measure → Measure → Measure → Measure
conditional test a b = of_level 2 (above (max (from 3 test) (max (anywhere a) (from 2 b))))

-- a cast, to a primitive type or not
abbrev pub cast : Bool → Measure → Measure
cast primitive e = of_level 13 (above (cast_operand primitive e))

-- Each node is one higher than the highest that it holds. What stands in parentheses is measured without them.
abbrev pub measure_node_step : ExprNode-F Measure Measure → Measure
measure_node_step (ExprNode-F.Lit text) = literal text
measure_node_step ExprNode-F.This = tight 1
measure_node_step (ExprNode-F.Name name) = tight 1
measure_node_step (ExprNode-F.Dot e name) = tight (above (before_dot e))
measure_node_step (ExprNode-F.Call on name args) = tight (above (max (tallest_maybe (option_map before_dot on)) (tallest (heights args))))
measure_node_step (ExprNode-F.SuperCall name args) = tight (above (tallest (heights args)))
measure_node_step (ExprNode-F.New to args) = tight (above (tallest (heights args)))
measure_node_step (ExprNode-F.NewArray to sizes open_pairs) = of_level 14 (above (tallest (heights sizes)))
measure_node_step (ExprNode-F.ArrayLit to items) = of_level 14 (above (tallest (heights items)))
measure_node_step (ExprNode-F.Braces items) = tight (above (tallest (heights items)))
measure_node_step (ExprNode-F.Index e i) = element e i
measure_node_step (ExprNode-F.Unary op e) = prefix op e
measure_node_step (ExprNode-F.Post e op) = of_level 14 (above (from 15 e))
measure_node_step (ExprNode-F.Binary a op b) = binary (binary_level op) a b
measure_node_step (ExprNode-F.Assign a op b) = assignment a b
measure_node_step (ExprNode-F.Cond test a b) = conditional test a b
measure_node_step (ExprNode-F.Cast to e) = cast (is_primitive to) e
measure_node_step (ExprNode-F.InstanceOf e to) = of_level 9 (above (from 9 e))
measure_node_step (ExprNode-F.Paren inner) = inner

abbrev pub measure_expr_step : Expr-F Measure Measure → Measure
measure_expr_step e = e.node

abbrev pub measure_of_node : ExprNode → Measure
measure_of_node = fold-ExprNode Measure Measure measure_node_step measure_expr_step

abbrev pub measure : Expr → Measure
measure = fold-Expr Measure Measure measure_node_step measure_expr_step
