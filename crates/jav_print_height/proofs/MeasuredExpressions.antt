-- What is measured of an expression is the height of the tree as printed, and how that binds.
use Rattle.std.proofs.Common.{◌≡◌, ℕ, suc, max, List, [], ◌∷◌, map, Option, Some, None, Bool, true, false, if◌then◌else◌, nat_lt, ◌||◌, ◌&&◌, not, refl, sym, ap, ◌∙◌, subst}
use Rattle.mol_base.specs.Operators.{binary_level, is_step, is_sign}
use Rattle.jav_tree.specs.declared.expr.Expr.{Expr}
use Rattle.jav_tree.specs.declared.expr.ExprNode.{ExprNode}
use Rattle.jav_tree.specs.declared.expr.ExprNode.TheVariants as node
use Rattle.jav_tree.specs.declared.expr.ExprNode.TheOpen.{ExprNode-F, Expr-F}
use Rattle.jav_tree.specs.declared.expr.ExprNode.TheFolds.{ind-Expr, map-ExprNode, map-Expr, fold-roll-ExprNode}
use Rattle.jav_tree.specs.declared.expr.ExprNode.TheViews.{roll-ExprNode, roll-Expr}
use Rattle.jav_tree.specs.Expressions.{expr_at}
use Rattle.jav_tree.specs.Types.{is_primitive}
use Rattle.jav_tree.specs.Height.{above, tallest, expr_height, expr_node_step, expr_step}
use Rattle.jav_tree.specs.WithParens as printed
use Rattle.jav_tree.specs.WithParens.{Operand, operand, operand_of_node, operand_node_step, operand_expr_step, expr_printed_height}
use Rattle.jav_tree.proofs.ExpressionFolds.{ExprFold, fold-placed, fold-Lit, fold-This, fold-Name, fold-Dot, fold-Call, fold-SuperCall, fold-New, fold-NewArray, fold-ArrayLit, fold-Braces, fold-Index, fold-Unary, fold-Post, fold-Binary, fold-Assign, fold-Cond, fold-Cast, fold-InstanceOf, fold-Paren}
use Rattle.jav_print_height.specs.declared.measure.Measure.{Measure}
use Rattle.jav_print_height.specs.Measures.{measured, measure, measure_of_node, measure_node_step, measure_expr_step, of_level, parenthesized, from, before_dot, cast_operand, heights, binary}

-- # Operands

-- the fold that counts heights
abbrev Counting : ExprFold
Counting = record { Node = ℕ; Whole = ℕ; of_node = expr_node_step; of_expr = expr_step }

-- the folds that measure, and that make operands
abbrev Measuring : ExprFold
Measuring = record { Node = Measure; Whole = Measure; of_node = measure_node_step; of_expr = measure_expr_step }

abbrev Printing : ExprFold
Printing = record { Node = ℕ → Operand; Whole = Operand; of_node = operand_node_step; of_expr = operand_expr_step }

height-Paren : (at : ℕ) (e : Expr) → expr_height (expr_at at (node.Paren e)) ≡ above (expr_height e)
height-Paren at e = fold-placed Counting at (node.Paren e) ∙ fold-Paren Counting e

-- in parentheses where they are needed
put : (needed : Bool) (e : Expr) → expr_height (printed.parenthesized needed e) ≡ parenthesized needed (expr_height e)
put false e = refl
put true e = height-Paren e.at e

from_level : (level : ℕ) (e : Operand) → expr_height (printed.from level e) ≡ from level (measured e)
from_level level e = put (nat_lt e.level level) e.tree

dotted : (e : Operand) → expr_height (printed.before_dot e) ≡ before_dot (measured e)
dotted e = put (nat_lt e.level 15 || e.is_number) e.tree

cast_of : (primitive : Bool) (e : Operand) → expr_height (printed.cast_operand primitive e) ≡ cast_operand primitive (measured e)
cast_of primitive e = put (nat_lt e.level 13 || (not primitive && e.is_signed)) e.tree

listed_trees : (es : List Operand) → tallest (map expr_height (printed.trees es)) ≡ tallest (heights (map measured es))
listed_trees [] = refl
listed_trees (e ∷ es) = ap (max (expr_height e.tree)) (listed_trees es)

-- # Nodes

-- an operand of this level with this tree is measured by the height of that
level_is : (level : ℕ) (e : Expr) {height : ℕ} → expr_height e ≡ height → measured (printed.of_level level e) ≡ of_level level height
level_is level e same = ap (of_level level) same

-- Measuring the operand that a node makes is measuring the node over its measured parts.
abbrev IsMeasured : ExprNode-F (ℕ → Operand) Operand → Type 0
IsMeasured y = (at : ℕ) → measured (operand_node_step y at) ≡ measure_node_step (map-ExprNode _ _ _ _ (λ n. measured (n 0)) measured y)

two_above : {a b c d : ℕ} → a ≡ c → b ≡ d → above (max a b) ≡ above (max c d)
two_above {a} {b} {c} {d} first second = ap (λ x. above (max x b)) first ∙ ap (λ x. above (max c x)) second

node_measured : (y : ExprNode-F (ℕ → Operand) Operand) → IsMeasured y
node_measured (ExprNode-F.Lit text) at = ap (λ h. record { height = h; level = 15; is_signed = false; is_number = printed.begins_with_digit text }) (fold-placed Counting at (node.Lit text) ∙ fold-Lit Counting text)
node_measured ExprNode-F.This at = level_is 15 _ (fold-placed Counting at node.This ∙ fold-This Counting)
node_measured (ExprNode-F.Name name) at = level_is 15 _ (fold-placed Counting at (node.Name name) ∙ fold-Name Counting name)
node_measured (ExprNode-F.Dot e name) at = level_is 15 _ (fold-placed Counting at _ ∙ fold-Dot Counting (printed.before_dot e) name ∙ ap above (dotted e))
node_measured (ExprNode-F.Call None name args) at = level_is 15 _ (fold-placed Counting at _ ∙ fold-Call Counting None name (printed.trees args) ∙ two_above refl (listed_trees args))
node_measured (ExprNode-F.Call (Some e) name args) at = level_is 15 _ (fold-placed Counting at _ ∙ fold-Call Counting (Some (printed.before_dot e)) name (printed.trees args) ∙ two_above (dotted e) (listed_trees args))
node_measured (ExprNode-F.SuperCall name args) at = level_is 15 _ (fold-placed Counting at _ ∙ fold-SuperCall Counting name (printed.trees args) ∙ ap above (listed_trees args))
node_measured (ExprNode-F.New to args) at = level_is 15 _ (fold-placed Counting at _ ∙ fold-New Counting to (printed.trees args) ∙ ap above (listed_trees args))
node_measured (ExprNode-F.NewArray to sizes open_pairs) at = level_is 14 _ (fold-placed Counting at _ ∙ fold-NewArray Counting to (printed.trees sizes) open_pairs ∙ ap above (listed_trees sizes))
node_measured (ExprNode-F.ArrayLit to items) at = level_is 14 _ (fold-placed Counting at _ ∙ fold-ArrayLit Counting to (printed.trees items) ∙ ap above (listed_trees items))
node_measured (ExprNode-F.Braces items) at = level_is 15 _ (fold-placed Counting at _ ∙ fold-Braces Counting (printed.trees items) ∙ ap above (listed_trees items))
node_measured (ExprNode-F.Index e i) at = level_is 15 _ (fold-placed Counting at _ ∙ fold-Index Counting (printed.from 15 e) i.tree ∙ two_above (from_level 15 e) refl)
node_measured (ExprNode-F.Unary op e) at = ap (λ h. record { height = h; level = 13; is_signed = is_sign op; is_number = false })
    (fold-placed Counting at _ ∙ fold-Unary Counting op (printed.prefix_operand op e) ∙ ap above (from_level (if is_step op then 15 else 13) e))
node_measured (ExprNode-F.Post e op) at = level_is 14 _ (fold-placed Counting at _ ∙ fold-Post Counting (printed.from 15 e) op ∙ ap above (from_level 15 e))
node_measured (ExprNode-F.Binary a op b) at = by_level (binary_level op) where
  by_level : (level : Option ℕ) → measured (printed.binary level a op b at) ≡ binary level (measured a) (measured b)
  by_level (Some level) = level_is level _ (fold-placed Counting at _ ∙ fold-Binary Counting (printed.from level a) op (printed.from (suc level) b) ∙ two_above (from_level level a) (from_level (suc level) b))
  by_level None = level_is 1 _ (fold-placed Counting at _ ∙ fold-Binary Counting (printed.from 15 a) op (printed.from 15 b) ∙ two_above (from_level 15 a) (from_level 15 b))
node_measured (ExprNode-F.Assign a op b) at = level_is 1 _ (fold-placed Counting at _ ∙ fold-Assign Counting (printed.from 15 a) op b.tree ∙ two_above (from_level 15 a) refl)
node_measured (ExprNode-F.Cond test a b) at = level_is 2 _ (fold-placed Counting at _ ∙ fold-Cond Counting (printed.from 3 test) a.tree (printed.from 2 b)
    ∙ two_above (from_level 3 test) (ap (max (expr_height a.tree)) (from_level 2 b)))
node_measured (ExprNode-F.Cast to e) at = level_is 13 _ (fold-placed Counting at _ ∙ fold-Cast Counting to (printed.cast_operand (is_primitive to) e) ∙ ap above (cast_of (is_primitive to) e))
node_measured (ExprNode-F.InstanceOf e to) at = level_is 9 _ (fold-placed Counting at _ ∙ fold-InstanceOf Counting (printed.from 9 e) to ∙ ap above (from_level 9 e))
node_measured (ExprNode-F.Paren inner) at = refl

-- # All expressions

abbrev IsSeen : Expr → Type 0
IsSeen e = measure e ≡ measured (operand e)

abbrev IsSeenNode : ExprNode → Type 0
IsSeenNode n = (at : ℕ) → measure_of_node n ≡ measured (operand_of_node n at)

abbrev With : Type 0
With = (e : Expr) × IsSeen e

abbrev WithNode : Type 0
WithNode = (n : ExprNode) × IsSeenNode n

abbrev exprs : List With → List Expr
exprs es = map (λ p. p.0) es

all_seen : (es : List With) → map measure (exprs es) ≡ map measured (map operand (exprs es))
all_seen [] = refl
all_seen (e ∷ es) = ap (λ m. m ∷ map measure (exprs es)) e.1 ∙ ap (λ ms. measured (operand e.0) ∷ ms) (all_seen es)

-- the node of the expressions alone
abbrev bare : ExprNode-F WithNode With → ExprNode-F ExprNode Expr
bare y = map-ExprNode _ _ _ _ (λ p. p.0) (λ p. p.0) y

abbrev parts_measured : ExprNode-F ExprNode Expr → ExprNode-F Measure Measure
parts_measured x = map-ExprNode _ _ _ _ measure_of_node measure x

abbrev parts_as_operands : ExprNode-F ExprNode Expr → ExprNode-F (ℕ → Operand) Operand
parts_as_operands x = map-ExprNode _ _ _ _ operand_of_node operand x

-- The parts of a node are measured as the operands that they make.
parts_seen : (y : ExprNode-F WithNode With) → parts_measured (bare y) ≡ map-ExprNode _ _ _ _ (λ n. measured (n 0)) measured (parts_as_operands (bare y))
parts_seen (ExprNode-F.Lit text) = refl
parts_seen ExprNode-F.This = refl
parts_seen (ExprNode-F.Name name) = refl
parts_seen (ExprNode-F.Dot e name) = ap (λ m. ExprNode-F.Dot m name) e.1
parts_seen (ExprNode-F.Call None name args) = ap (ExprNode-F.Call None name) (all_seen args)
parts_seen (ExprNode-F.Call (Some e) name args) = ap (λ m. ExprNode-F.Call (Some m) name (map measure (exprs args))) e.1 ∙ ap (ExprNode-F.Call (Some (measured (operand e.0))) name) (all_seen args)
parts_seen (ExprNode-F.SuperCall name args) = ap (ExprNode-F.SuperCall name) (all_seen args)
parts_seen (ExprNode-F.New to args) = ap (ExprNode-F.New to) (all_seen args)
parts_seen (ExprNode-F.NewArray to sizes open_pairs) = ap (λ ms. ExprNode-F.NewArray to ms open_pairs) (all_seen sizes)
parts_seen (ExprNode-F.ArrayLit to items) = ap (ExprNode-F.ArrayLit to) (all_seen items)
parts_seen (ExprNode-F.Braces items) = ap ExprNode-F.Braces (all_seen items)
parts_seen (ExprNode-F.Index e i) = ap (λ m. ExprNode-F.Index m (measure i.0)) e.1 ∙ ap (ExprNode-F.Index (measured (operand e.0))) i.1
parts_seen (ExprNode-F.Unary op e) = ap (ExprNode-F.Unary op) e.1
parts_seen (ExprNode-F.Post e op) = ap (λ m. ExprNode-F.Post m op) e.1
parts_seen (ExprNode-F.Binary a op b) = ap (λ m. ExprNode-F.Binary m op (measure b.0)) a.1 ∙ ap (ExprNode-F.Binary (measured (operand a.0)) op) b.1
parts_seen (ExprNode-F.Assign a op b) = ap (λ m. ExprNode-F.Assign m op (measure b.0)) a.1 ∙ ap (ExprNode-F.Assign (measured (operand a.0)) op) b.1
parts_seen (ExprNode-F.Cond test a b) = ap (λ m. ExprNode-F.Cond m (measure a.0) (measure b.0)) test.1 ∙ ap (λ m. ExprNode-F.Cond (measured (operand test.0)) m (measure b.0)) a.1
    ∙ ap (ExprNode-F.Cond (measured (operand test.0)) (measured (operand a.0))) b.1
parts_seen (ExprNode-F.Cast to e) = ap (ExprNode-F.Cast to) e.1
parts_seen (ExprNode-F.InstanceOf e to) = ap (λ m. ExprNode-F.InstanceOf m to) e.1
parts_seen (ExprNode-F.Paren e) = ap ExprNode-F.Paren e.1

seen_node : (y : ExprNode-F WithNode With) → IsSeenNode (roll-ExprNode (bare y))
seen_node y at = fold-roll-ExprNode _ _ measure_node_step measure_expr_step (bare y) ∙ ap measure_node_step (parts_seen y)
    ∙ sym (node_measured (parts_as_operands (bare y)) at) ∙ sym (ap (λ n. measured (n at)) (fold-roll-ExprNode _ _ operand_node_step operand_expr_step (bare y)))

seen_expr : (y : Expr-F WithNode With) → IsSeen (roll-Expr (map-Expr _ _ _ _ (λ p. p.0) (λ p. p.0) y))
seen_expr y = fold-placed Measuring y.at y.node.0 ∙ y.node.1 y.at ∙ sym (ap measured (fold-placed Printing y.at y.node.0))

-- what is measured of an expression is what there is to measure of the tree as printed
pub expr_measured : (e : Expr) → measure e ≡ measured (operand e)
expr_measured = ind-Expr IsSeenNode IsSeen (λ x y is. subst (λ z. IsSeenNode (roll-ExprNode z)) is (seen_node y)) (λ x y is. subst (λ z. IsSeen (roll-Expr z)) is (seen_expr y))

pub height_measured : (e : Expr) → (measure e).height ≡ expr_printed_height e
height_measured e = ap (λ m. m.height) (expr_measured e)

pub heights_measured : (es : List Expr) → tallest (heights (map measure es)) ≡ tallest (map expr_printed_height es)
heights_measured [] = refl
heights_measured (e ∷ es) = ap (λ h. max h (tallest (heights (map measure es)))) (height_measured e) ∙ ap (max (expr_printed_height e)) (heights_measured es)
