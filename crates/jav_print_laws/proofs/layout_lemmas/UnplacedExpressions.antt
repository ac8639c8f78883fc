-- A fold that does not see places gives the same for a tree and for the tree without them.
use Rattle.std.proofs.Common.{◌≡◌, ℕ, List, [], ◌∷◌, map, option_map, Some, None, refl, sym, ap, ◌∙◌, subst}
use Rattle.jav_tree.specs.declared.expr.Expr.{Expr}
use Rattle.jav_tree.specs.declared.expr.ExprNode.{ExprNode}
use Rattle.jav_tree.specs.declared.expr.ExprNode.TheVariants as node
use Rattle.jav_tree.specs.declared.expr.ExprNode.TheOpen.{ExprNode-F, Expr-F}
use Rattle.jav_tree.specs.declared.expr.ExprNode.TheFolds.{ind-Expr, map-ExprNode, map-Expr}
use Rattle.jav_tree.specs.declared.expr.ExprNode.TheViews.{roll-ExprNode, roll-Expr}
use Rattle.jav_tree.specs.Places.{unplaced_expr, unplaced_expr_node}
use Rattle.jav_tree.specs.Places as places
use Rattle.jav_tree.proofs.ExpressionFolds.{ExprFold, folded, folded_node, fold-placed, fold-Lit, fold-This, fold-Name, fold-Dot, fold-Call, fold-SuperCall, fold-New, fold-NewArray, fold-ArrayLit, fold-Braces, fold-Index, fold-Unary, fold-Post, fold-Binary, fold-Assign, fold-Cond, fold-Cast, fold-InstanceOf, fold-Paren}
use Rattle.jav_tree.proofs.Parts.{unplaced-Dot, unplaced-Call, unplaced-SuperCall, unplaced-New, unplaced-NewArray, unplaced-ArrayLit, unplaced-Braces, unplaced-Index, unplaced-Unary, unplaced-Post, unplaced-Binary, unplaced-Assign, unplaced-Cond, unplaced-Cast, unplaced-InstanceOf, unplaced-Paren}
use Rattle.jav_print_laws.proofs.layout_lemmas.StatementLike.{unplaced-Lit, unplaced-This, unplaced-Name}

-- A fold does not see places where it makes the same of an expression at each.
abbrev pub IsPlaceless : ExprFold → Type 0
IsPlaceless F = (at : ℕ) (n : F.Node) → F.of_expr (record { at = at; node = n }) ≡ F.of_expr (record { at = 0; node = n })

-- the fold that takes places away
abbrev Unplacing : ExprFold
Unplacing = record { Node = ExprNode; Whole = Expr; of_node = places.expr_node_step; of_expr = places.expr_step }

abbrev NodeAlike : ExprFold → ExprNode → Type 0
NodeAlike F n = folded_node F (unplaced_expr_node n) ≡ folded_node F n

abbrev Alike : ExprFold → Expr → Type 0
Alike F e = folded F (unplaced_expr e) ≡ folded F e

abbrev With : ExprFold → Type 0
With F = (e : Expr) × Alike F e

all_alike : (F : ExprFold) (es : List (With F)) → map (folded F) (map unplaced_expr (map (λ p. p.0) es)) ≡ map (folded F) (map (λ p. p.0) es)
all_alike F [] = refl
all_alike F (e ∷ es) = let a = e.1 in let b = all_alike F es in cc

alike_node : (F : ExprFold) (y : ExprNode-F ((n : ExprNode) × NodeAlike F n) (With F)) → NodeAlike F (roll-ExprNode (map-ExprNode _ _ _ _ (λ p. p.0) (λ p. p.0) y))
alike_node F (ExprNode-F.Lit text) = subst (NodeAlike F) (sym (node.rolls-Lit text))
    (ap (folded_node F) (unplaced-Lit text) ∙ fold-Lit F text ∙ sym (fold-Lit F text))
alike_node F ExprNode-F.This = subst (NodeAlike F) (sym node.rolls-This)
    (ap (folded_node F) (unplaced-This) ∙ fold-This F ∙ sym (fold-This F))
alike_node F (ExprNode-F.Name name) = subst (NodeAlike F) (sym (node.rolls-Name name))
    (ap (folded_node F) (unplaced-Name name) ∙ fold-Name F name ∙ sym (fold-Name F name))
alike_node F (ExprNode-F.Dot e name) = subst (NodeAlike F) (sym (node.rolls-Dot e.0 name))
    (ap (folded_node F) (unplaced-Dot e.0 name) ∙ fold-Dot F (unplaced_expr e.0) name ∙ ap (λ x. F.of_node (ExprNode-F.Dot x name)) e.1 ∙ sym (fold-Dot F e.0 name))
alike_node F (ExprNode-F.Call None name args) = subst (NodeAlike F) (sym (node.rolls-Call None name (map (λ p. p.0) args)))
    (ap (folded_node F) (unplaced-Call None name (map (λ p. p.0) args)) ∙ fold-Call F None name (map unplaced_expr (map (λ p. p.0) args)) ∙ ap (λ x. F.of_node (ExprNode-F.Call (option_map (folded F) None) name x)) (all_alike F args) ∙ sym (fold-Call F None name (map (λ p. p.0) args)))
alike_node F (ExprNode-F.Call (Some e) name args) = subst (NodeAlike F) (sym (node.rolls-Call (Some e.0) name (map (λ p. p.0) args)))
    (ap (folded_node F) (unplaced-Call (Some e.0) name (map (λ p. p.0) args)) ∙ fold-Call F (Some (unplaced_expr e.0)) name (map unplaced_expr (map (λ p. p.0) args)) ∙ ap (λ x. F.of_node (ExprNode-F.Call x name (map (folded F) (map unplaced_expr (map (λ p. p.0) args))))) (ap Some e.1) ∙ ap (λ x. F.of_node (ExprNode-F.Call (option_map (folded F) (Some e.0)) name x)) (all_alike F args) ∙ sym (fold-Call F (Some e.0) name (map (λ p. p.0) args)))
alike_node F (ExprNode-F.SuperCall name args) = subst (NodeAlike F) (sym (node.rolls-SuperCall name (map (λ p. p.0) args)))
    (ap (folded_node F) (unplaced-SuperCall name (map (λ p. p.0) args)) ∙ fold-SuperCall F name (map unplaced_expr (map (λ p. p.0) args)) ∙ ap (λ x. F.of_node (ExprNode-F.SuperCall name x)) (all_alike F args) ∙ sym (fold-SuperCall F name (map (λ p. p.0) args)))
alike_node F (ExprNode-F.New to args) = subst (NodeAlike F) (sym (node.rolls-New to (map (λ p. p.0) args)))
    (ap (folded_node F) (unplaced-New to (map (λ p. p.0) args)) ∙ fold-New F to (map unplaced_expr (map (λ p. p.0) args)) ∙ ap (λ x. F.of_node (ExprNode-F.New to x)) (all_alike F args) ∙ sym (fold-New F to (map (λ p. p.0) args)))
alike_node F (ExprNode-F.NewArray to sizes open_pairs) = subst (NodeAlike F) (sym (node.rolls-NewArray to (map (λ p. p.0) sizes) open_pairs))
    (ap (folded_node F) (unplaced-NewArray to (map (λ p. p.0) sizes) open_pairs) ∙ fold-NewArray F to (map unplaced_expr (map (λ p. p.0) sizes)) open_pairs ∙ ap (λ x. F.of_node (ExprNode-F.NewArray to x open_pairs)) (all_alike F sizes) ∙ sym (fold-NewArray F to (map (λ p. p.0) sizes) open_pairs))
alike_node F (ExprNode-F.ArrayLit to items) = subst (NodeAlike F) (sym (node.rolls-ArrayLit to (map (λ p. p.0) items)))
    (ap (folded_node F) (unplaced-ArrayLit to (map (λ p. p.0) items)) ∙ fold-ArrayLit F to (map unplaced_expr (map (λ p. p.0) items)) ∙ ap (λ x. F.of_node (ExprNode-F.ArrayLit to x)) (all_alike F items) ∙ sym (fold-ArrayLit F to (map (λ p. p.0) items)))
alike_node F (ExprNode-F.Braces items) = subst (NodeAlike F) (sym (node.rolls-Braces (map (λ p. p.0) items)))
    (ap (folded_node F) (unplaced-Braces (map (λ p. p.0) items)) ∙ fold-Braces F (map unplaced_expr (map (λ p. p.0) items)) ∙ ap (λ x. F.of_node (ExprNode-F.Braces x)) (all_alike F items) ∙ sym (fold-Braces F (map (λ p. p.0) items)))
alike_node F (ExprNode-F.Index e i) = subst (NodeAlike F) (sym (node.rolls-Index e.0 i.0))
    (ap (folded_node F) (unplaced-Index e.0 i.0) ∙ fold-Index F (unplaced_expr e.0) (unplaced_expr i.0) ∙ ap (λ x. F.of_node (ExprNode-F.Index x (folded F (unplaced_expr i.0)))) e.1 ∙ ap (λ x. F.of_node (ExprNode-F.Index (folded F e.0) x)) i.1 ∙ sym (fold-Index F e.0 i.0))
alike_node F (ExprNode-F.Unary op e) = subst (NodeAlike F) (sym (node.rolls-Unary op e.0))
    (ap (folded_node F) (unplaced-Unary op e.0) ∙ fold-Unary F op (unplaced_expr e.0) ∙ ap (λ x. F.of_node (ExprNode-F.Unary op x)) e.1 ∙ sym (fold-Unary F op e.0))
alike_node F (ExprNode-F.Post e op) = subst (NodeAlike F) (sym (node.rolls-Post e.0 op))
    (ap (folded_node F) (unplaced-Post e.0 op) ∙ fold-Post F (unplaced_expr e.0) op ∙ ap (λ x. F.of_node (ExprNode-F.Post x op)) e.1 ∙ sym (fold-Post F e.0 op))
alike_node F (ExprNode-F.Binary a op b) = subst (NodeAlike F) (sym (node.rolls-Binary a.0 op b.0))
    (ap (folded_node F) (unplaced-Binary a.0 op b.0) ∙ fold-Binary F (unplaced_expr a.0) op (unplaced_expr b.0) ∙ ap (λ x. F.of_node (ExprNode-F.Binary x op (folded F (unplaced_expr b.0)))) a.1 ∙ ap (λ x. F.of_node (ExprNode-F.Binary (folded F a.0) op x)) b.1 ∙ sym (fold-Binary F a.0 op b.0))
alike_node F (ExprNode-F.Assign a op b) = subst (NodeAlike F) (sym (node.rolls-Assign a.0 op b.0))
    (ap (folded_node F) (unplaced-Assign a.0 op b.0) ∙ fold-Assign F (unplaced_expr a.0) op (unplaced_expr b.0) ∙ ap (λ x. F.of_node (ExprNode-F.Assign x op (folded F (unplaced_expr b.0)))) a.1 ∙ ap (λ x. F.of_node (ExprNode-F.Assign (folded F a.0) op x)) b.1 ∙ sym (fold-Assign F a.0 op b.0))
alike_node F (ExprNode-F.Cond test a b) = subst (NodeAlike F) (sym (node.rolls-Cond test.0 a.0 b.0))
    (ap (folded_node F) (unplaced-Cond test.0 a.0 b.0) ∙ fold-Cond F (unplaced_expr test.0) (unplaced_expr a.0) (unplaced_expr b.0) ∙ ap (λ x. F.of_node (ExprNode-F.Cond x (folded F (unplaced_expr a.0)) (folded F (unplaced_expr b.0)))) test.1 ∙ ap (λ x. F.of_node (ExprNode-F.Cond (folded F test.0) x (folded F (unplaced_expr b.0)))) a.1 ∙ ap (λ x. F.of_node (ExprNode-F.Cond (folded F test.0) (folded F a.0) x)) b.1 ∙ sym (fold-Cond F test.0 a.0 b.0))
alike_node F (ExprNode-F.Cast to e) = subst (NodeAlike F) (sym (node.rolls-Cast to e.0))
    (ap (folded_node F) (unplaced-Cast to e.0) ∙ fold-Cast F to (unplaced_expr e.0) ∙ ap (λ x. F.of_node (ExprNode-F.Cast to x)) e.1 ∙ sym (fold-Cast F to e.0))
alike_node F (ExprNode-F.InstanceOf e to) = subst (NodeAlike F) (sym (node.rolls-InstanceOf e.0 to))
    (ap (folded_node F) (unplaced-InstanceOf e.0 to) ∙ fold-InstanceOf F (unplaced_expr e.0) to ∙ ap (λ x. F.of_node (ExprNode-F.InstanceOf x to)) e.1 ∙ sym (fold-InstanceOf F e.0 to))
alike_node F (ExprNode-F.Paren e) = subst (NodeAlike F) (sym (node.rolls-Paren e.0))
    (ap (folded_node F) (unplaced-Paren e.0) ∙ fold-Paren F (unplaced_expr e.0) ∙ ap (λ x. F.of_node (ExprNode-F.Paren x)) e.1 ∙ sym (fold-Paren F e.0))

alike_expr : (F : ExprFold) → IsPlaceless F → (y : Expr-F ((n : ExprNode) × NodeAlike F n) (With F)) → Alike F (roll-Expr (map-Expr _ _ _ _ (λ p. p.0) (λ p. p.0) y))
alike_expr F placeless y = ap (folded F) (fold-placed Unplacing y.at y.node.0) ∙ fold-placed F 0 (unplaced_expr_node y.node.0) ∙ ap (λ n. F.of_expr (record { at = 0; node = n })) y.node.1
    ∙ sym (placeless y.at (folded_node F y.node.0)) ∙ sym (fold-placed F y.at y.node.0)

pub folded-unplaced : (F : ExprFold) → IsPlaceless F → (e : Expr) → folded F (unplaced_expr e) ≡ folded F e
folded-unplaced F placeless = ind-Expr (NodeAlike F) (Alike F) (λ x y is. subst (λ z. NodeAlike F (roll-ExprNode z)) is (alike_node F y)) (λ x y is. subst (λ z. Alike F (roll-Expr z)) is (alike_expr F placeless y))
