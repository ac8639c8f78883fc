-- Places do not matter to whether an expression may be a statement.
use Rattle.std.proofs.Common.{◌≡◌, ℕ, List, map, option_map, Some, None, Bool, sym, ap, ◌∙◌, subst}
use Rattle.jav_tree.specs.declared.expr.Expr.{Expr}
use Rattle.jav_tree.specs.declared.expr.ExprNode.{ExprNode}
use Rattle.jav_tree.specs.declared.expr.ExprNode.TheVariants as node
use Rattle.jav_tree.specs.declared.expr.ExprNode.TheOpen.{ExprNode-F, Expr-F}
use Rattle.jav_tree.specs.declared.expr.ExprNode.TheFolds.{fold-roll-ExprNode, fold-roll-Expr, ind-Expr, map-ExprNode}
use Rattle.jav_tree.specs.declared.expr.ExprNode.TheViews.{roll-ExprNode}
use Rattle.jav_tree.specs.Expressions.{expr_at}
use Rattle.jav_tree.specs.Places.{unplaced_expr, unplaced_expr_node, expr_node_step, expr_step}
use Rattle.jav_tree.specs.Statements.{is_statement_expression}
use Rattle.jav_tree.proofs.Parts.{unplaced-Dot, unplaced-Call, unplaced-SuperCall, unplaced-New, unplaced-NewArray, unplaced-ArrayLit, unplaced-Braces, unplaced-Index, unplaced-Unary, unplaced-Post, unplaced-Binary, unplaced-Assign, unplaced-Cond, unplaced-Cast, unplaced-InstanceOf, unplaced-Paren}
use Rattle.jav_tree.proofs.StatementExpressions.{statement-Lit, statement-This, statement-Name, statement-Dot, statement-Call, statement-SuperCall, statement-New, statement-NewArray, statement-ArrayLit, statement-Braces, statement-Index, statement-Unary, statement-Post, statement-Binary, statement-Assign, statement-Cond, statement-Cast, statement-InstanceOf, statement-Paren}

pub unplaced-Lit : (text : List ℕ) → unplaced_expr_node (node.Lit text) ≡ node.Lit text
unplaced-Lit text = ap unplaced_expr_node (sym (node.rolls-Lit text)) ∙ fold-roll-ExprNode _ _ expr_node_step expr_step (ExprNode-F.Lit text)

pub unplaced-This : unplaced_expr_node node.This ≡ node.This
unplaced-This = ap unplaced_expr_node (sym node.rolls-This) ∙ fold-roll-ExprNode _ _ expr_node_step expr_step ExprNode-F.This

pub unplaced-Name : (name : List ℕ) → unplaced_expr_node (node.Name name) ≡ node.Name name
unplaced-Name name = ap unplaced_expr_node (sym (node.rolls-Name name)) ∙ fold-roll-ExprNode _ _ expr_node_step expr_step (ExprNode-F.Name name)

abbrev Kept : ExprNode → Type 0
Kept n = is_statement_expression (unplaced_expr_node n) ≡ is_statement_expression n

kept : (n m : ExprNode) (b : Bool) → unplaced_expr_node n ≡ m → is_statement_expression m ≡ b → is_statement_expression n ≡ b → Kept n
kept n m b e f g = ap is_statement_expression e ∙ f ∙ sym g

abbrev Held : Type 0
Held = (e : Expr) × Kept e.node

kept_node : (y : ExprNode-F ((n : ExprNode) × Kept n) Held) → Kept (roll-ExprNode (map-ExprNode _ _ _ _ (λ p. p.0) (λ p. p.0) y))
kept_node (ExprNode-F.Lit text) = subst Kept (sym (node.rolls-Lit text)) (kept _ _ _ (unplaced-Lit text) (statement-Lit text) (statement-Lit text))
kept_node ExprNode-F.This = subst Kept (sym node.rolls-This) (kept _ _ _ unplaced-This statement-This statement-This)
kept_node (ExprNode-F.Name name) = subst Kept (sym (node.rolls-Name name)) (kept _ _ _ (unplaced-Name name) (statement-Name name) (statement-Name name))
kept_node (ExprNode-F.Dot e name) = subst Kept (sym (node.rolls-Dot e.0 name)) (kept _ _ _ (unplaced-Dot e.0 name) (statement-Dot _ name) (statement-Dot e.0 name))
kept_node (ExprNode-F.Call None name args) = let es = map (λ p. p.0) args in subst Kept (sym (node.rolls-Call None name es)) (kept _ _ _ (unplaced-Call None name es) (statement-Call (option_map unplaced_expr None) name (map unplaced_expr es)) (statement-Call None name es))
kept_node (ExprNode-F.Call (Some e) name args) = let es = map (λ p. p.0) args in subst Kept (sym (node.rolls-Call (Some e.0) name es)) (kept _ _ _ (unplaced-Call (Some e.0) name es) (statement-Call (option_map unplaced_expr (Some e.0)) name (map unplaced_expr es)) (statement-Call (Some e.0) name es))
kept_node (ExprNode-F.SuperCall name args) = let es = map (λ p. p.0) args in subst Kept (sym (node.rolls-SuperCall name es)) (kept _ _ _ (unplaced-SuperCall name es) (statement-SuperCall name _) (statement-SuperCall name es))
kept_node (ExprNode-F.New to args) = let es = map (λ p. p.0) args in subst Kept (sym (node.rolls-New to es)) (kept _ _ _ (unplaced-New to es) (statement-New to _) (statement-New to es))
kept_node (ExprNode-F.NewArray to sizes open_pairs) = let es = map (λ p. p.0) sizes in subst Kept (sym (node.rolls-NewArray to es open_pairs)) (kept _ _ _ (unplaced-NewArray to es open_pairs) (statement-NewArray to _ open_pairs) (statement-NewArray to es open_pairs))
kept_node (ExprNode-F.ArrayLit to items) = let es = map (λ p. p.0) items in subst Kept (sym (node.rolls-ArrayLit to es)) (kept _ _ _ (unplaced-ArrayLit to es) (statement-ArrayLit to _) (statement-ArrayLit to es))
kept_node (ExprNode-F.Braces items) = let es = map (λ p. p.0) items in subst Kept (sym (node.rolls-Braces es)) (kept _ _ _ (unplaced-Braces es) (statement-Braces _) (statement-Braces es))
kept_node (ExprNode-F.Index e i) = subst Kept (sym (node.rolls-Index e.0 i.0)) (kept _ _ _ (unplaced-Index e.0 i.0) (statement-Index _ _) (statement-Index e.0 i.0))
kept_node (ExprNode-F.Unary op e) = subst Kept (sym (node.rolls-Unary op e.0)) (kept _ _ _ (unplaced-Unary op e.0) (statement-Unary op _) (statement-Unary op e.0))
kept_node (ExprNode-F.Post e op) = subst Kept (sym (node.rolls-Post e.0 op)) (kept _ _ _ (unplaced-Post e.0 op) (statement-Post _ op) (statement-Post e.0 op))
kept_node (ExprNode-F.Binary a op b) = subst Kept (sym (node.rolls-Binary a.0 op b.0)) (kept _ _ _ (unplaced-Binary a.0 op b.0) (statement-Binary _ op _) (statement-Binary a.0 op b.0))
kept_node (ExprNode-F.Assign a op b) = subst Kept (sym (node.rolls-Assign a.0 op b.0)) (kept _ _ _ (unplaced-Assign a.0 op b.0) (statement-Assign _ op _) (statement-Assign a.0 op b.0))
kept_node (ExprNode-F.Cond test a b) = subst Kept (sym (node.rolls-Cond test.0 a.0 b.0)) (kept _ _ _ (unplaced-Cond test.0 a.0 b.0) (statement-Cond _ _ _) (statement-Cond test.0 a.0 b.0))
kept_node (ExprNode-F.Cast to e) = subst Kept (sym (node.rolls-Cast to e.0)) (kept _ _ _ (unplaced-Cast to e.0) (statement-Cast to _) (statement-Cast to e.0))
kept_node (ExprNode-F.InstanceOf e to) = subst Kept (sym (node.rolls-InstanceOf e.0 to)) (kept _ _ _ (unplaced-InstanceOf e.0 to) (statement-InstanceOf _ to) (statement-InstanceOf e.0 to))
kept_node (ExprNode-F.Paren e) = subst Kept (sym (node.rolls-Paren e.0)) (kept _ _ _ (unplaced-Paren e.0) (statement-Paren _) (statement-Paren e.0))

kept_expr : (e : Expr) → Kept e.node
kept_expr = ind-Expr Kept (λ e. Kept e.node) (λ x y is. subst (λ z. Kept (roll-ExprNode z)) is (kept_node y)) (λ x y is. subst (λ (z : Expr-F ExprNode Expr). Kept z.node) is y.node.1)

-- what is the same but for places is a statement where the other is
pub statement-same : (a b : Expr) → unplaced_expr a ≡ unplaced_expr b → is_statement_expression a.node ≡ is_statement_expression b.node
statement-same a b same = sym (kept_expr a) ∙ ap (λ (e : Expr). is_statement_expression e.node) (sym (placed a) ∙ same ∙ placed b) ∙ kept_expr b where
  placed : (e : Expr) → unplaced_expr e ≡ expr_at 0 (unplaced_expr_node e.node)
  placed e = fold-roll-Expr _ _ expr_node_step expr_step (record { at = e.at; node = e.node })
