-- Places make no difference to a tree without parentheses.
use Rattle.std.proofs.Common.{◌≡◌, ℕ, List, [], ◌∷◌, map, Some, None, refl, sym, ap, ◌∙◌, subst}
use Rattle.jav_tree.specs.declared.expr.Expr.{Expr}
use Rattle.jav_tree.specs.declared.expr.ExprNode.{ExprNode}
use Rattle.jav_tree.specs.declared.expr.ExprNode.TheVariants as node
use Rattle.jav_tree.specs.declared.expr.ExprNode.TheOpen.{ExprNode-F, Expr-F}
use Rattle.jav_tree.specs.declared.expr.ExprNode.TheFolds.{ind-Expr, map-ExprNode, map-Expr}
use Rattle.jav_tree.specs.declared.expr.ExprNode.TheViews.{roll-ExprNode, roll-Expr}
use Rattle.jav_tree.specs.Expressions.{expr_at}
use Rattle.jav_tree.specs.Parens.{expr_without_parens, expr_node_without_parens, without_parens_node_step, without_parens_expr_step}
use Rattle.jav_tree.specs.Places.{unplaced_expr, unplaced_expr_node}
use Rattle.jav_tree.specs.Places as places
use Rattle.jav_tree.proofs.ExpressionFolds.{ExprFold, folded, folded_node, fold-placed, fold-Lit, fold-This, fold-Name, fold-Dot, fold-Call, fold-SuperCall, fold-New, fold-NewArray, fold-ArrayLit, fold-Braces, fold-Index, fold-Unary, fold-Post, fold-Binary, fold-Assign, fold-Cond, fold-Cast, fold-InstanceOf, fold-Paren}
use Rattle.jav_tree.proofs.Parts.{unplaced-Dot, unplaced-Call, unplaced-SuperCall, unplaced-New, unplaced-NewArray, unplaced-ArrayLit, unplaced-Braces, unplaced-Index, unplaced-Unary, unplaced-Post, unplaced-Binary, unplaced-Assign, unplaced-Cond, unplaced-Cast, unplaced-InstanceOf}
use Rattle.jav_print_laws.proofs.layout_lemmas.StatementLike.{unplaced-Lit, unplaced-This, unplaced-Name}
use Rattle.jav_print_laws.proofs.layout_lemmas.UnplacedExpressions.{folded-unplaced}

-- the fold that drops parentheses, and the fold that takes places away
abbrev Dropping : ExprFold
Dropping = record { Node = ℕ → Expr; Whole = Expr; of_node = without_parens_node_step; of_expr = without_parens_expr_step }

abbrev Unplacing : ExprFold
Unplacing = record { Node = ExprNode; Whole = Expr; of_node = places.expr_node_step; of_expr = places.expr_step }

-- the fold that does both
abbrev both_step : ExprNode-F Expr Expr → Expr
both_step (ExprNode-F.Lit text) = expr_at 0 (node.Lit text)
both_step ExprNode-F.This = expr_at 0 node.This
both_step (ExprNode-F.Name name) = expr_at 0 (node.Name name)
both_step (ExprNode-F.Dot e name) = expr_at 0 (node.Dot e name)
both_step (ExprNode-F.Call on name args) = expr_at 0 (node.Call on name args)
both_step (ExprNode-F.SuperCall name args) = expr_at 0 (node.SuperCall name args)
both_step (ExprNode-F.New to args) = expr_at 0 (node.New to args)
both_step (ExprNode-F.NewArray to sizes open_pairs) = expr_at 0 (node.NewArray to sizes open_pairs)
both_step (ExprNode-F.ArrayLit to items) = expr_at 0 (node.ArrayLit to items)
both_step (ExprNode-F.Braces items) = expr_at 0 (node.Braces items)
both_step (ExprNode-F.Index e i) = expr_at 0 (node.Index e i)
both_step (ExprNode-F.Unary op e) = expr_at 0 (node.Unary op e)
both_step (ExprNode-F.Post e op) = expr_at 0 (node.Post e op)
both_step (ExprNode-F.Binary a op b) = expr_at 0 (node.Binary a op b)
both_step (ExprNode-F.Assign a op b) = expr_at 0 (node.Assign a op b)
both_step (ExprNode-F.Cond test a b) = expr_at 0 (node.Cond test a b)
both_step (ExprNode-F.Cast to e) = expr_at 0 (node.Cast to e)
both_step (ExprNode-F.InstanceOf e to) = expr_at 0 (node.InstanceOf e to)
both_step (ExprNode-F.Paren inner) = inner

abbrev Both : ExprFold
Both = record { Node = Expr; Whole = Expr; of_node = both_step; of_expr = λ e. e.node }

abbrev NodeAlike : ExprNode → Type 0
NodeAlike n = (at : ℕ) → unplaced_expr (expr_node_without_parens n at) ≡ folded_node Both n

abbrev Alike : Expr → Type 0
Alike e = unplaced_expr (expr_without_parens e) ≡ folded Both e

abbrev With : Type 0
With = (e : Expr) × Alike e

all_alike : (es : List With) → map unplaced_expr (map expr_without_parens (map (λ p. p.0) es)) ≡ map (folded Both) (map (λ p. p.0) es)
all_alike [] = refl
all_alike (e ∷ es) = let a = e.1 in let b = all_alike es in cc

-- an expression at a place, of which the node without places is known
at_place : (at : ℕ) (n m : ExprNode) → unplaced_expr_node n ≡ m → unplaced_expr (expr_at at n) ≡ expr_at 0 m
at_place at n m e = fold-placed Unplacing at n ∙ ap (λ k. expr_at 0 k) e

alike_node : (y : ExprNode-F ((n : ExprNode) × NodeAlike n) With) → NodeAlike (roll-ExprNode (map-ExprNode _ _ _ _ (λ p. p.0) (λ p. p.0) y))
alike_node (ExprNode-F.Lit text) = subst NodeAlike (sym (node.rolls-Lit text)) (λ at. ap (λ k. unplaced_expr (k at)) (fold-Lit Dropping text)
    ∙ at_place at (node.Lit text) _ (unplaced-Lit text) ∙ sym (fold-Lit Both text))
alike_node ExprNode-F.This = subst NodeAlike (sym node.rolls-This) (λ at. ap (λ k. unplaced_expr (k at)) (fold-This Dropping)
    ∙ at_place at (node.This) _ (unplaced-This) ∙ sym (fold-This Both))
alike_node (ExprNode-F.Name name) = subst NodeAlike (sym (node.rolls-Name name)) (λ at. ap (λ k. unplaced_expr (k at)) (fold-Name Dropping name)
    ∙ at_place at (node.Name name) _ (unplaced-Name name) ∙ sym (fold-Name Both name))
alike_node (ExprNode-F.Dot e name) = subst NodeAlike (sym (node.rolls-Dot e.0 name)) (λ at. ap (λ k. unplaced_expr (k at)) (fold-Dot Dropping e.0 name)
    ∙ at_place at (node.Dot (expr_without_parens e.0) name) _ (unplaced-Dot (expr_without_parens e.0) name ∙ ap (λ x. node.Dot x name) e.1) ∙ sym (fold-Dot Both e.0 name))
alike_node (ExprNode-F.Call None name args) = subst NodeAlike (sym (node.rolls-Call None name (map (λ p. p.0) args))) (λ at. ap (λ k. unplaced_expr (k at)) (fold-Call Dropping None name (map (λ p. p.0) args))
    ∙ at_place at (node.Call None name (map expr_without_parens (map (λ p. p.0) args))) _ (unplaced-Call None name (map expr_without_parens (map (λ p. p.0) args)) ∙ ap (λ x. node.Call None name x) (all_alike args)) ∙ sym (fold-Call Both None name (map (λ p. p.0) args)))
alike_node (ExprNode-F.Call (Some e) name args) = subst NodeAlike (sym (node.rolls-Call (Some e.0) name (map (λ p. p.0) args))) (λ at. ap (λ k. unplaced_expr (k at)) (fold-Call Dropping (Some e.0) name (map (λ p. p.0) args))
    ∙ at_place at (node.Call (Some (expr_without_parens e.0)) name (map expr_without_parens (map (λ p. p.0) args))) _ (unplaced-Call (Some (expr_without_parens e.0)) name (map expr_without_parens (map (λ p. p.0) args)) ∙ ap (λ x. node.Call x name (map unplaced_expr (map expr_without_parens (map (λ p. p.0) args)))) (ap Some e.1) ∙ ap (λ x. node.Call (Some (folded Both e.0)) name x) (all_alike args)) ∙ sym (fold-Call Both (Some e.0) name (map (λ p. p.0) args)))
alike_node (ExprNode-F.SuperCall name args) = subst NodeAlike (sym (node.rolls-SuperCall name (map (λ p. p.0) args))) (λ at. ap (λ k. unplaced_expr (k at)) (fold-SuperCall Dropping name (map (λ p. p.0) args))
    ∙ at_place at (node.SuperCall name (map expr_without_parens (map (λ p. p.0) args))) _ (unplaced-SuperCall name (map expr_without_parens (map (λ p. p.0) args)) ∙ ap (λ x. node.SuperCall name x) (all_alike args)) ∙ sym (fold-SuperCall Both name (map (λ p. p.0) args)))
alike_node (ExprNode-F.New to args) = subst NodeAlike (sym (node.rolls-New to (map (λ p. p.0) args))) (λ at. ap (λ k. unplaced_expr (k at)) (fold-New Dropping to (map (λ p. p.0) args))
    ∙ at_place at (node.New to (map expr_without_parens (map (λ p. p.0) args))) _ (unplaced-New to (map expr_without_parens (map (λ p. p.0) args)) ∙ ap (λ x. node.New to x) (all_alike args)) ∙ sym (fold-New Both to (map (λ p. p.0) args)))
alike_node (ExprNode-F.NewArray to sizes open_pairs) = subst NodeAlike (sym (node.rolls-NewArray to (map (λ p. p.0) sizes) open_pairs)) (λ at. ap (λ k. unplaced_expr (k at)) (fold-NewArray Dropping to (map (λ p. p.0) sizes) open_pairs)
    ∙ at_place at (node.NewArray to (map expr_without_parens (map (λ p. p.0) sizes)) open_pairs) _ (unplaced-NewArray to (map expr_without_parens (map (λ p. p.0) sizes)) open_pairs ∙ ap (λ x. node.NewArray to x open_pairs) (all_alike sizes)) ∙ sym (fold-NewArray Both to (map (λ p. p.0) sizes) open_pairs))
alike_node (ExprNode-F.ArrayLit to items) = subst NodeAlike (sym (node.rolls-ArrayLit to (map (λ p. p.0) items))) (λ at. ap (λ k. unplaced_expr (k at)) (fold-ArrayLit Dropping to (map (λ p. p.0) items))
    ∙ at_place at (node.ArrayLit to (map expr_without_parens (map (λ p. p.0) items))) _ (unplaced-ArrayLit to (map expr_without_parens (map (λ p. p.0) items)) ∙ ap (λ x. node.ArrayLit to x) (all_alike items)) ∙ sym (fold-ArrayLit Both to (map (λ p. p.0) items)))
alike_node (ExprNode-F.Braces items) = subst NodeAlike (sym (node.rolls-Braces (map (λ p. p.0) items))) (λ at. ap (λ k. unplaced_expr (k at)) (fold-Braces Dropping (map (λ p. p.0) items))
    ∙ at_place at (node.Braces (map expr_without_parens (map (λ p. p.0) items))) _ (unplaced-Braces (map expr_without_parens (map (λ p. p.0) items)) ∙ ap (λ x. node.Braces x) (all_alike items)) ∙ sym (fold-Braces Both (map (λ p. p.0) items)))
alike_node (ExprNode-F.Index e i) = subst NodeAlike (sym (node.rolls-Index e.0 i.0)) (λ at. ap (λ k. unplaced_expr (k at)) (fold-Index Dropping e.0 i.0)
    ∙ at_place at (node.Index (expr_without_parens e.0) (expr_without_parens i.0)) _ (unplaced-Index (expr_without_parens e.0) (expr_without_parens i.0) ∙ ap (λ x. node.Index x (unplaced_expr (expr_without_parens i.0))) e.1 ∙ ap (λ x. node.Index (folded Both e.0) x) i.1) ∙ sym (fold-Index Both e.0 i.0))
alike_node (ExprNode-F.Unary op e) = subst NodeAlike (sym (node.rolls-Unary op e.0)) (λ at. ap (λ k. unplaced_expr (k at)) (fold-Unary Dropping op e.0)
    ∙ at_place at (node.Unary op (expr_without_parens e.0)) _ (unplaced-Unary op (expr_without_parens e.0) ∙ ap (λ x. node.Unary op x) e.1) ∙ sym (fold-Unary Both op e.0))
alike_node (ExprNode-F.Post e op) = subst NodeAlike (sym (node.rolls-Post e.0 op)) (λ at. ap (λ k. unplaced_expr (k at)) (fold-Post Dropping e.0 op)
    ∙ at_place at (node.Post (expr_without_parens e.0) op) _ (unplaced-Post (expr_without_parens e.0) op ∙ ap (λ x. node.Post x op) e.1) ∙ sym (fold-Post Both e.0 op))
alike_node (ExprNode-F.Binary a op b) = subst NodeAlike (sym (node.rolls-Binary a.0 op b.0)) (λ at. ap (λ k. unplaced_expr (k at)) (fold-Binary Dropping a.0 op b.0)
    ∙ at_place at (node.Binary (expr_without_parens a.0) op (expr_without_parens b.0)) _ (unplaced-Binary (expr_without_parens a.0) op (expr_without_parens b.0) ∙ ap (λ x. node.Binary x op (unplaced_expr (expr_without_parens b.0))) a.1 ∙ ap (λ x. node.Binary (folded Both a.0) op x) b.1) ∙ sym (fold-Binary Both a.0 op b.0))
alike_node (ExprNode-F.Assign a op b) = subst NodeAlike (sym (node.rolls-Assign a.0 op b.0)) (λ at. ap (λ k. unplaced_expr (k at)) (fold-Assign Dropping a.0 op b.0)
    ∙ at_place at (node.Assign (expr_without_parens a.0) op (expr_without_parens b.0)) _ (unplaced-Assign (expr_without_parens a.0) op (expr_without_parens b.0) ∙ ap (λ x. node.Assign x op (unplaced_expr (expr_without_parens b.0))) a.1 ∙ ap (λ x. node.Assign (folded Both a.0) op x) b.1) ∙ sym (fold-Assign Both a.0 op b.0))
alike_node (ExprNode-F.Cond test a b) = subst NodeAlike (sym (node.rolls-Cond test.0 a.0 b.0)) (λ at. ap (λ k. unplaced_expr (k at)) (fold-Cond Dropping test.0 a.0 b.0)
    ∙ at_place at (node.Cond (expr_without_parens test.0) (expr_without_parens a.0) (expr_without_parens b.0)) _ (unplaced-Cond (expr_without_parens test.0) (expr_without_parens a.0) (expr_without_parens b.0) ∙ ap (λ x. node.Cond x (unplaced_expr (expr_without_parens a.0)) (unplaced_expr (expr_without_parens b.0))) test.1 ∙ ap (λ x. node.Cond (folded Both test.0) x (unplaced_expr (expr_without_parens b.0))) a.1 ∙ ap (λ x. node.Cond (folded Both test.0) (folded Both a.0) x) b.1) ∙ sym (fold-Cond Both test.0 a.0 b.0))
alike_node (ExprNode-F.Cast to e) = subst NodeAlike (sym (node.rolls-Cast to e.0)) (λ at. ap (λ k. unplaced_expr (k at)) (fold-Cast Dropping to e.0)
    ∙ at_place at (node.Cast to (expr_without_parens e.0)) _ (unplaced-Cast to (expr_without_parens e.0) ∙ ap (λ x. node.Cast to x) e.1) ∙ sym (fold-Cast Both to e.0))
alike_node (ExprNode-F.InstanceOf e to) = subst NodeAlike (sym (node.rolls-InstanceOf e.0 to)) (λ at. ap (λ k. unplaced_expr (k at)) (fold-InstanceOf Dropping e.0 to)
    ∙ at_place at (node.InstanceOf (expr_without_parens e.0) to) _ (unplaced-InstanceOf (expr_without_parens e.0) to ∙ ap (λ x. node.InstanceOf x to) e.1) ∙ sym (fold-InstanceOf Both e.0 to))
alike_node (ExprNode-F.Paren e) = subst NodeAlike (sym (node.rolls-Paren e.0)) (λ at. ap (λ k. unplaced_expr (k at)) (fold-Paren Dropping e.0)
    ∙ e.1 ∙ sym (fold-Paren Both e.0))

alike_expr : (y : Expr-F ((n : ExprNode) × NodeAlike n) With) → Alike (roll-Expr (map-Expr _ _ _ _ (λ p. p.0) (λ p. p.0) y))
alike_expr y = ap unplaced_expr (fold-placed Dropping y.at y.node.0) ∙ y.node.1 y.at ∙ sym (fold-placed Both y.at y.node.0)

alike : (e : Expr) → unplaced_expr (expr_without_parens e) ≡ folded Both e
alike = ind-Expr NodeAlike Alike (λ x y is. subst (λ z. NodeAlike (roll-ExprNode z)) is (alike_node y)) (λ x y is. subst (λ z. Alike (roll-Expr z)) is (alike_expr y))

-- taking places away first makes no difference
pub without-unplaced : (e : Expr) → unplaced_expr (expr_without_parens (unplaced_expr e)) ≡ unplaced_expr (expr_without_parens e)
without-unplaced e = alike (unplaced_expr e) ∙ folded-unplaced Both (λ at n. refl) e ∙ sym (alike e)
