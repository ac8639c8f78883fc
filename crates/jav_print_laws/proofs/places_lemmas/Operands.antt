-- Places make no difference to an expression as printed.
use Rattle.std.proofs.Common.{◌≡◌, ℕ, suc, List, [], ◌∷◌, map, Option, Some, None, Bool, true, false, if◌then◌else◌, nat_lt, ◌||◌, ◌&&◌, not, refl, sym, ap, ◌∙◌, subst}
use Rattle.mol_base.specs.Operators.{binary_level, is_step, is_sign}
use Rattle.jav_tree.specs.declared.expr.Expr.{Expr}
use Rattle.jav_tree.specs.declared.expr.ExprNode.{ExprNode}
use Rattle.jav_tree.specs.declared.expr.ExprNode.TheVariants as node
use Rattle.jav_tree.specs.declared.expr.ExprNode.TheOpen.{ExprNode-F, Expr-F}
use Rattle.jav_tree.specs.declared.expr.ExprNode.TheFolds.{ind-Expr, map-ExprNode, map-Expr, fold-roll-ExprNode}
use Rattle.jav_tree.specs.declared.expr.ExprNode.TheViews.{roll-ExprNode, roll-Expr}
use Rattle.jav_tree.specs.Expressions.{expr_at}
use Rattle.jav_tree.specs.Types.{is_primitive}
use Rattle.jav_tree.specs.Places.{unplaced_expr, unplaced_expr_node}
use Rattle.jav_tree.specs.Places as places
use Rattle.jav_tree.specs.WithParens as printed
use Rattle.jav_tree.specs.WithParens.{Operand, operand, operand_of_node, operand_node_step, operand_expr_step, expr_with_parens}
use Rattle.jav_tree.proofs.ExpressionFolds.{ExprFold, folded, folded_node, fold-placed}
use Rattle.jav_tree.proofs.Parts.{unplaced-Dot, unplaced-Call, unplaced-SuperCall, unplaced-New, unplaced-NewArray, unplaced-ArrayLit, unplaced-Braces, unplaced-Index, unplaced-Unary, unplaced-Post, unplaced-Binary, unplaced-Assign, unplaced-Cond, unplaced-Cast, unplaced-InstanceOf, unplaced-Paren}
use Rattle.jav_print_laws.proofs.layout_lemmas.StatementLike.{unplaced-Lit, unplaced-This, unplaced-Name}
use Rattle.jav_print_laws.proofs.layout_lemmas.UnplacedExpressions.{folded-unplaced}

-- the folds that take places away, that make operands, and that make operands at place 0
abbrev Unplacing : ExprFold
Unplacing = record { Node = ExprNode; Whole = Expr; of_node = places.expr_node_step; of_expr = places.expr_step }

abbrev Printing : ExprFold
Printing = record { Node = ℕ → Operand; Whole = Operand; of_node = operand_node_step; of_expr = operand_expr_step }

abbrev Placeless : ExprFold
Placeless = record { Node = ℕ → Operand; Whole = Operand; of_node = operand_node_step; of_expr = λ e. e.node 0 }

-- # Operands without places

abbrev bare : Operand → Operand
bare o = record { level = o.level; is_signed = o.is_signed; is_number = o.is_number; tree = unplaced_expr o.tree }

at_place : (at : ℕ) (n : ExprNode) {m : ExprNode} → unplaced_expr_node n ≡ m → unplaced_expr (expr_at at n) ≡ expr_at 0 m
at_place at n e = fold-placed Unplacing at n ∙ ap (λ k. expr_at 0 k) e

-- in parentheses where they are needed
put : (needed : Bool) (e : Expr) → unplaced_expr (printed.parenthesized needed e) ≡ printed.parenthesized needed (unplaced_expr e)
put false e = refl
put true e = at_place e.at (node.Paren e) (unplaced-Paren e) ∙ ap (λ at. expr_at at (node.Paren (unplaced_expr e))) (sym (ap (λ (x : Expr). x.at) (fold-placed Unplacing e.at e.node)))

from_level : (level : ℕ) (e : Operand) → unplaced_expr (printed.from level e) ≡ printed.from level (bare e)
from_level level e = put (nat_lt e.level level) e.tree

dotted : (e : Operand) → unplaced_expr (printed.before_dot e) ≡ printed.before_dot (bare e)
dotted e = put (nat_lt e.level 15 || e.is_number) e.tree

cast_of : (primitive : Bool) (e : Operand) → unplaced_expr (printed.cast_operand primitive e) ≡ printed.cast_operand primitive (bare e)
cast_of primitive e = put (nat_lt e.level 13 || (not primitive && e.is_signed)) e.tree

listed_trees : (es : List Operand) → map unplaced_expr (printed.trees es) ≡ printed.trees (map bare es)
listed_trees [] = refl
listed_trees (e ∷ es) = ap (λ xs. unplaced_expr e.tree ∷ xs) (listed_trees es)

-- # Nodes

-- an operand of this level without places
level_is : (level : ℕ) (e : Expr) {d : Expr} → unplaced_expr e ≡ d → bare (printed.of_level level e) ≡ printed.of_level level d
level_is level e same = ap (printed.of_level level) same

-- The operand that a node makes, without places, is the one that it makes of parts without places at place 0.
abbrev IsBare : ExprNode-F (ℕ → Operand) Operand → Type 0
IsBare y = (at : ℕ) → bare (operand_node_step y at) ≡ operand_node_step (map-ExprNode _ _ _ _ (λ n. n) bare y) 0

node_bare : (y : ExprNode-F (ℕ → Operand) Operand) → IsBare y
node_bare (ExprNode-F.Lit text) at = ap (λ e. record { level = 15; is_signed = false; is_number = printed.begins_with_digit text; tree = e }) (at_place at (node.Lit text) (unplaced-Lit text))
node_bare ExprNode-F.This at = level_is 15 _ (at_place at node.This unplaced-This)
node_bare (ExprNode-F.Name name) at = level_is 15 _ (at_place at (node.Name name) (unplaced-Name name))
node_bare (ExprNode-F.Dot e name) at = level_is 15 _ (at_place at _ (unplaced-Dot (printed.before_dot e) name ∙ ap (λ x. node.Dot x name) (dotted e)))
node_bare (ExprNode-F.Call None name args) at = level_is 15 _ (at_place at _ (unplaced-Call None name (printed.trees args) ∙ ap (node.Call None name) (listed_trees args)))
node_bare (ExprNode-F.Call (Some e) name args) at =
    level_is 15 _ (at_place at _ (unplaced-Call (Some (printed.before_dot e)) name (printed.trees args) ∙ ap (λ x. node.Call (Some x) name (map unplaced_expr (printed.trees args))) (dotted e) ∙ ap (node.Call (Some (printed.before_dot (bare e))) name) (listed_trees args)))
node_bare (ExprNode-F.SuperCall name args) at = level_is 15 _ (at_place at _ (unplaced-SuperCall name (printed.trees args) ∙ ap (node.SuperCall name) (listed_trees args)))
node_bare (ExprNode-F.New to args) at = level_is 15 _ (at_place at _ (unplaced-New to (printed.trees args) ∙ ap (node.New to) (listed_trees args)))
node_bare (ExprNode-F.NewArray to sizes open_pairs) at = level_is 14 _ (at_place at _ (unplaced-NewArray to (printed.trees sizes) open_pairs ∙ ap (λ xs. node.NewArray to xs open_pairs) (listed_trees sizes)))
node_bare (ExprNode-F.ArrayLit to items) at = level_is 14 _ (at_place at _ (unplaced-ArrayLit to (printed.trees items) ∙ ap (node.ArrayLit to) (listed_trees items)))
node_bare (ExprNode-F.Braces items) at = level_is 15 _ (at_place at _ (unplaced-Braces (printed.trees items) ∙ ap node.Braces (listed_trees items)))
node_bare (ExprNode-F.Index e i) at = level_is 15 _ (at_place at _ (unplaced-Index (printed.from 15 e) i.tree ∙ ap (λ x. node.Index x (unplaced_expr i.tree)) (from_level 15 e)))
node_bare (ExprNode-F.Unary op e) at = ap (λ d. record { level = 13; is_signed = is_sign op; is_number = false; tree = d })
    (at_place at _ (unplaced-Unary op (printed.prefix_operand op e) ∙ ap (node.Unary op) (from_level (if is_step op then 15 else 13) e)))
node_bare (ExprNode-F.Post e op) at = level_is 14 _ (at_place at _ (unplaced-Post (printed.from 15 e) op ∙ ap (λ x. node.Post x op) (from_level 15 e)))
node_bare (ExprNode-F.Binary a op b) at = by_level (binary_level op) where
  two : (left right : ℕ) → unplaced_expr (expr_at at (node.Binary (printed.from left a) op (printed.from right b))) ≡ expr_at 0 (node.Binary (printed.from left (bare a)) op (printed.from right (bare b)))
  two left right = at_place at _ (unplaced-Binary (printed.from left a) op (printed.from right b)
      ∙ ap (λ x. node.Binary x op (unplaced_expr (printed.from right b))) (from_level left a) ∙ ap (node.Binary (printed.from left (bare a)) op) (from_level right b))

  by_level : (level : Option ℕ) → bare (printed.binary level a op b at) ≡ printed.binary level (bare a) op (bare b) 0
  by_level (Some level) = level_is level _ (two level (suc level))
  by_level None = level_is 1 _ (two 15 15)
node_bare (ExprNode-F.Assign a op b) at = level_is 1 _ (at_place at _ (unplaced-Assign (printed.from 15 a) op b.tree ∙ ap (λ x. node.Assign x op (unplaced_expr b.tree)) (from_level 15 a)))
node_bare (ExprNode-F.Cond test a b) at = level_is 2 _ (at_place at _ (unplaced-Cond (printed.from 3 test) a.tree (printed.from 2 b)
    ∙ ap (λ x. node.Cond x (unplaced_expr a.tree) (unplaced_expr (printed.from 2 b))) (from_level 3 test) ∙ ap (node.Cond (printed.from 3 (bare test)) (unplaced_expr a.tree)) (from_level 2 b)))
node_bare (ExprNode-F.Cast to e) at = level_is 13 _ (at_place at _ (unplaced-Cast to (printed.cast_operand (is_primitive to) e) ∙ ap (node.Cast to) (cast_of (is_primitive to) e)))
node_bare (ExprNode-F.InstanceOf e to) at = level_is 9 _ (at_place at _ (unplaced-InstanceOf (printed.from 9 e) to ∙ ap (λ x. node.InstanceOf x to) (from_level 9 e)))
node_bare (ExprNode-F.Paren inner) at = refl

-- # All expressions

abbrev Alike : Expr → Type 0
Alike e = bare (operand e) ≡ folded Placeless e

abbrev NodeAlike : ExprNode → Type 0
NodeAlike n = (at : ℕ) → bare (operand_of_node n at) ≡ folded_node Placeless n 0

abbrev With : Type 0
With = (e : Expr) × Alike e

abbrev WithNode : Type 0
WithNode = (n : ExprNode) × NodeAlike n

abbrev exprs : List With → List Expr
exprs es = map (λ p. p.0) es

all_alike : (es : List With) → map bare (map operand (exprs es)) ≡ map (folded Placeless) (exprs es)
all_alike [] = refl
all_alike (e ∷ es) = ap (λ o. o ∷ map bare (map operand (exprs es))) e.1 ∙ ap (λ os. folded Placeless e.0 ∷ os) (all_alike es)

-- the node of the expressions alone
abbrev alone : ExprNode-F WithNode With → ExprNode-F ExprNode Expr
alone y = map-ExprNode _ _ _ _ (λ p. p.0) (λ p. p.0) y

abbrev parts_bare : ExprNode-F ExprNode Expr → ExprNode-F (ℕ → Operand) Operand
parts_bare x = map-ExprNode _ _ _ _ (λ n. n) bare (map-ExprNode _ _ _ _ operand_of_node operand x)

abbrev parts_placeless : ExprNode-F ExprNode Expr → ExprNode-F (ℕ → Operand) Operand
parts_placeless x = map-ExprNode _ _ _ _ (folded_node Placeless) (folded Placeless) x

parts_alike : (y : ExprNode-F WithNode With) → parts_bare (alone y) ≡ parts_placeless (alone y)
parts_alike (ExprNode-F.Lit text) = refl
parts_alike ExprNode-F.This = refl
parts_alike (ExprNode-F.Name name) = refl
parts_alike (ExprNode-F.Dot e name) = ap (λ o. ExprNode-F.Dot o name) e.1
parts_alike (ExprNode-F.Call None name args) = ap (ExprNode-F.Call None name) (all_alike args)
parts_alike (ExprNode-F.Call (Some e) name args) = ap (λ o. ExprNode-F.Call (Some o) name (map bare (map operand (exprs args)))) e.1 ∙ ap (ExprNode-F.Call (Some (folded Placeless e.0)) name) (all_alike args)
parts_alike (ExprNode-F.SuperCall name args) = ap (ExprNode-F.SuperCall name) (all_alike args)
parts_alike (ExprNode-F.New to args) = ap (ExprNode-F.New to) (all_alike args)
parts_alike (ExprNode-F.NewArray to sizes open_pairs) = ap (λ os. ExprNode-F.NewArray to os open_pairs) (all_alike sizes)
parts_alike (ExprNode-F.ArrayLit to items) = ap (ExprNode-F.ArrayLit to) (all_alike items)
parts_alike (ExprNode-F.Braces items) = ap ExprNode-F.Braces (all_alike items)
parts_alike (ExprNode-F.Index e i) = ap (λ o. ExprNode-F.Index o (bare (operand i.0))) e.1 ∙ ap (ExprNode-F.Index (folded Placeless e.0)) i.1
parts_alike (ExprNode-F.Unary op e) = ap (ExprNode-F.Unary op) e.1
parts_alike (ExprNode-F.Post e op) = ap (λ o. ExprNode-F.Post o op) e.1
parts_alike (ExprNode-F.Binary a op b) = ap (λ o. ExprNode-F.Binary o op (bare (operand b.0))) a.1 ∙ ap (ExprNode-F.Binary (folded Placeless a.0) op) b.1
parts_alike (ExprNode-F.Assign a op b) = ap (λ o. ExprNode-F.Assign o op (bare (operand b.0))) a.1 ∙ ap (ExprNode-F.Assign (folded Placeless a.0) op) b.1
parts_alike (ExprNode-F.Cond test a b) = ap (λ o. ExprNode-F.Cond o (bare (operand a.0)) (bare (operand b.0))) test.1 ∙ ap (λ o. ExprNode-F.Cond (folded Placeless test.0) o (bare (operand b.0))) a.1
    ∙ ap (ExprNode-F.Cond (folded Placeless test.0) (folded Placeless a.0)) b.1
parts_alike (ExprNode-F.Cast to e) = ap (ExprNode-F.Cast to) e.1
parts_alike (ExprNode-F.InstanceOf e to) = ap (λ o. ExprNode-F.InstanceOf o to) e.1
parts_alike (ExprNode-F.Paren e) = ap ExprNode-F.Paren e.1

alike_node : (y : ExprNode-F WithNode With) → NodeAlike (roll-ExprNode (alone y))
alike_node y at = ap (λ k. bare (k at)) (fold-roll-ExprNode _ _ operand_node_step operand_expr_step (alone y))
    ∙ node_bare (map-ExprNode _ _ _ _ operand_of_node operand (alone y)) at
    ∙ ap (λ x. operand_node_step x 0) (parts_alike y)
    ∙ sym (ap (λ k. k 0) (fold-roll-ExprNode _ _ operand_node_step Placeless.of_expr (alone y)))

alike_expr : (y : Expr-F WithNode With) → Alike (roll-Expr (map-Expr _ _ _ _ (λ p. p.0) (λ p. p.0) y))
alike_expr y = ap bare (fold-placed Printing y.at y.node.0) ∙ y.node.1 y.at ∙ sym (fold-placed Placeless y.at y.node.0)

alike : (e : Expr) → bare (operand e) ≡ folded Placeless e
alike = ind-Expr NodeAlike Alike (λ x y is. subst (λ z. NodeAlike (roll-ExprNode z)) is (alike_node y)) (λ x y is. subst (λ z. Alike (roll-Expr z)) is (alike_expr y))

-- taking places away first makes no difference to the tree as printed
pub printed-unplaced : (e : Expr) → unplaced_expr (expr_with_parens (unplaced_expr e)) ≡ unplaced_expr (expr_with_parens e)
printed-unplaced e = ap (λ (o : Operand). o.tree) (alike (unplaced_expr e) ∙ folded-unplaced Placeless (λ at n. refl) e ∙ sym (alike e))
