-- A fold that does not see parentheses gives the same for a tree, for the tree without parentheses, and for the tree as printed.
use Rattle.std.proofs.Common.{◌≡◌, ℕ, List, [], ◌∷◌, map, option_map, Option, Some, None, Bool, true, false, refl, sym, ap, ◌∙◌, subst}
use Rattle.jav_tree.specs.declared.types.TypeName.{TypeName}
use Rattle.jav_tree.specs.declared.expr.Expr.{Expr}
use Rattle.jav_tree.specs.declared.expr.ExprNode.{ExprNode}
use Rattle.jav_tree.specs.declared.expr.ExprNode.TheVariants as node
use Rattle.jav_tree.specs.declared.expr.ExprNode.TheOpen.{ExprNode-F, Expr-F}
use Rattle.jav_tree.specs.declared.expr.ExprNode.TheFolds.{ind-Expr, map-ExprNode, map-Expr}
use Rattle.jav_tree.specs.declared.expr.ExprNode.TheViews.{roll-ExprNode, roll-Expr}
use Rattle.jav_tree.specs.Expressions.{expr_at}
use Rattle.jav_tree.specs.Operators.{binary_level}
use Rattle.jav_tree.specs.Parens.{expr_without_parens, expr_node_without_parens, without_parens_node_step, without_parens_expr_step}
use Rattle.jav_tree.specs.WithParens.{Operand, operand, operand_of_node, operand_node_step, operand_expr_step, expr_with_parens, parenthesized, before_dot, trees, binary}
use Rattle.jav_tree.proofs.ExpressionFolds.{ExprFold, folded, folded_at, fold-placed, fold-Lit, fold-This, fold-Name, fold-Dot, fold-Call, fold-SuperCall, fold-New, fold-NewArray, fold-ArrayLit, fold-Braces, fold-Index, fold-Unary, fold-Post, fold-Binary, fold-Assign, fold-Cond, fold-Cast, fold-InstanceOf, fold-Paren}

-- A fold does not see parentheses where it makes of them what it makes of what they hold.
abbrev pub IsBlind : ExprFold → Type 0
IsBlind F = (at : ℕ) (x : F.Whole) → F.of_expr (record { at = at; node = F.of_node (ExprNode-F.Paren x) }) ≡ x

-- A node whose parts are folded alike is folded alike.

like-Dot : (F : ExprFold) (at : ℕ) (e : Expr) (name : List ℕ) (e' : Expr) → folded F e' ≡ folded F e
    → folded F (expr_at at (node.Dot e' name)) ≡ folded_at F at (node.Dot e name)
like-Dot F at e name e' same_e = fold-placed F at (node.Dot e' name) ∙ ap (λ n. F.of_expr (record { at = at; node = n }))
    (fold-Dot F e' name ∙ ap (λ x. F.of_node (ExprNode-F.Dot x name)) same_e ∙ sym (fold-Dot F e name))

like-Call : (F : ExprFold) (at : ℕ) (on : Option Expr) (name : List ℕ) (args : List Expr) (on' : Option Expr) (args' : List Expr) → option_map (folded F) on' ≡ option_map (folded F) on → map (folded F) args' ≡ map (folded F) args
    → folded F (expr_at at (node.Call on' name args')) ≡ folded_at F at (node.Call on name args)
like-Call F at on name args on' args' same_on same_args = fold-placed F at (node.Call on' name args') ∙ ap (λ n. F.of_expr (record { at = at; node = n }))
    (fold-Call F on' name args' ∙ ap (λ x. F.of_node (ExprNode-F.Call x name (map (folded F) args'))) same_on ∙ ap (λ x. F.of_node (ExprNode-F.Call (option_map (folded F) on) name x)) same_args ∙ sym (fold-Call F on name args))

like-SuperCall : (F : ExprFold) (at : ℕ) (name : List ℕ) (args : List Expr) (args' : List Expr) → map (folded F) args' ≡ map (folded F) args
    → folded F (expr_at at (node.SuperCall name args')) ≡ folded_at F at (node.SuperCall name args)
like-SuperCall F at name args args' same_args = fold-placed F at (node.SuperCall name args') ∙ ap (λ n. F.of_expr (record { at = at; node = n }))
    (fold-SuperCall F name args' ∙ ap (λ x. F.of_node (ExprNode-F.SuperCall name x)) same_args ∙ sym (fold-SuperCall F name args))

like-New : (F : ExprFold) (at : ℕ) (to : TypeName) (args : List Expr) (args' : List Expr) → map (folded F) args' ≡ map (folded F) args
    → folded F (expr_at at (node.New to args')) ≡ folded_at F at (node.New to args)
like-New F at to args args' same_args = fold-placed F at (node.New to args') ∙ ap (λ n. F.of_expr (record { at = at; node = n }))
    (fold-New F to args' ∙ ap (λ x. F.of_node (ExprNode-F.New to x)) same_args ∙ sym (fold-New F to args))

like-NewArray : (F : ExprFold) (at : ℕ) (to : TypeName) (sizes : List Expr) (open_pairs : ℕ) (sizes' : List Expr) → map (folded F) sizes' ≡ map (folded F) sizes
    → folded F (expr_at at (node.NewArray to sizes' open_pairs)) ≡ folded_at F at (node.NewArray to sizes open_pairs)
like-NewArray F at to sizes open_pairs sizes' same_sizes = fold-placed F at (node.NewArray to sizes' open_pairs) ∙ ap (λ n. F.of_expr (record { at = at; node = n }))
    (fold-NewArray F to sizes' open_pairs ∙ ap (λ x. F.of_node (ExprNode-F.NewArray to x open_pairs)) same_sizes ∙ sym (fold-NewArray F to sizes open_pairs))

like-ArrayLit : (F : ExprFold) (at : ℕ) (to : TypeName) (items : List Expr) (items' : List Expr) → map (folded F) items' ≡ map (folded F) items
    → folded F (expr_at at (node.ArrayLit to items')) ≡ folded_at F at (node.ArrayLit to items)
like-ArrayLit F at to items items' same_items = fold-placed F at (node.ArrayLit to items') ∙ ap (λ n. F.of_expr (record { at = at; node = n }))
    (fold-ArrayLit F to items' ∙ ap (λ x. F.of_node (ExprNode-F.ArrayLit to x)) same_items ∙ sym (fold-ArrayLit F to items))

like-Braces : (F : ExprFold) (at : ℕ) (items : List Expr) (items' : List Expr) → map (folded F) items' ≡ map (folded F) items
    → folded F (expr_at at (node.Braces items')) ≡ folded_at F at (node.Braces items)
like-Braces F at items items' same_items = fold-placed F at (node.Braces items') ∙ ap (λ n. F.of_expr (record { at = at; node = n }))
    (fold-Braces F items' ∙ ap (λ x. F.of_node (ExprNode-F.Braces x)) same_items ∙ sym (fold-Braces F items))

like-Index : (F : ExprFold) (at : ℕ) (e : Expr) (i : Expr) (e' : Expr) (i' : Expr) → folded F e' ≡ folded F e → folded F i' ≡ folded F i
    → folded F (expr_at at (node.Index e' i')) ≡ folded_at F at (node.Index e i)
like-Index F at e i e' i' same_e same_i = fold-placed F at (node.Index e' i') ∙ ap (λ n. F.of_expr (record { at = at; node = n }))
    (fold-Index F e' i' ∙ ap (λ x. F.of_node (ExprNode-F.Index x (folded F i'))) same_e ∙ ap (λ x. F.of_node (ExprNode-F.Index (folded F e) x)) same_i ∙ sym (fold-Index F e i))

like-Unary : (F : ExprFold) (at : ℕ) (op : List ℕ) (e : Expr) (e' : Expr) → folded F e' ≡ folded F e
    → folded F (expr_at at (node.Unary op e')) ≡ folded_at F at (node.Unary op e)
like-Unary F at op e e' same_e = fold-placed F at (node.Unary op e') ∙ ap (λ n. F.of_expr (record { at = at; node = n }))
    (fold-Unary F op e' ∙ ap (λ x. F.of_node (ExprNode-F.Unary op x)) same_e ∙ sym (fold-Unary F op e))

like-Post : (F : ExprFold) (at : ℕ) (e : Expr) (op : List ℕ) (e' : Expr) → folded F e' ≡ folded F e
    → folded F (expr_at at (node.Post e' op)) ≡ folded_at F at (node.Post e op)
like-Post F at e op e' same_e = fold-placed F at (node.Post e' op) ∙ ap (λ n. F.of_expr (record { at = at; node = n }))
    (fold-Post F e' op ∙ ap (λ x. F.of_node (ExprNode-F.Post x op)) same_e ∙ sym (fold-Post F e op))

like-Binary : (F : ExprFold) (at : ℕ) (a : Expr) (op : List ℕ) (b : Expr) (a' : Expr) (b' : Expr) → folded F a' ≡ folded F a → folded F b' ≡ folded F b
    → folded F (expr_at at (node.Binary a' op b')) ≡ folded_at F at (node.Binary a op b)
like-Binary F at a op b a' b' same_a same_b = fold-placed F at (node.Binary a' op b') ∙ ap (λ n. F.of_expr (record { at = at; node = n }))
    (fold-Binary F a' op b' ∙ ap (λ x. F.of_node (ExprNode-F.Binary x op (folded F b'))) same_a ∙ ap (λ x. F.of_node (ExprNode-F.Binary (folded F a) op x)) same_b ∙ sym (fold-Binary F a op b))

like-Assign : (F : ExprFold) (at : ℕ) (a : Expr) (op : List ℕ) (b : Expr) (a' : Expr) (b' : Expr) → folded F a' ≡ folded F a → folded F b' ≡ folded F b
    → folded F (expr_at at (node.Assign a' op b')) ≡ folded_at F at (node.Assign a op b)
like-Assign F at a op b a' b' same_a same_b = fold-placed F at (node.Assign a' op b') ∙ ap (λ n. F.of_expr (record { at = at; node = n }))
    (fold-Assign F a' op b' ∙ ap (λ x. F.of_node (ExprNode-F.Assign x op (folded F b'))) same_a ∙ ap (λ x. F.of_node (ExprNode-F.Assign (folded F a) op x)) same_b ∙ sym (fold-Assign F a op b))

like-Cond : (F : ExprFold) (at : ℕ) (test : Expr) (a : Expr) (b : Expr) (test' : Expr) (a' : Expr) (b' : Expr) → folded F test' ≡ folded F test → folded F a' ≡ folded F a → folded F b' ≡ folded F b
    → folded F (expr_at at (node.Cond test' a' b')) ≡ folded_at F at (node.Cond test a b)
like-Cond F at test a b test' a' b' same_test same_a same_b = fold-placed F at (node.Cond test' a' b') ∙ ap (λ n. F.of_expr (record { at = at; node = n }))
    (fold-Cond F test' a' b' ∙ ap (λ x. F.of_node (ExprNode-F.Cond x (folded F a') (folded F b'))) same_test ∙ ap (λ x. F.of_node (ExprNode-F.Cond (folded F test) x (folded F b'))) same_a ∙ ap (λ x. F.of_node (ExprNode-F.Cond (folded F test) (folded F a) x)) same_b ∙ sym (fold-Cond F test a b))

like-Cast : (F : ExprFold) (at : ℕ) (to : TypeName) (e : Expr) (e' : Expr) → folded F e' ≡ folded F e
    → folded F (expr_at at (node.Cast to e')) ≡ folded_at F at (node.Cast to e)
like-Cast F at to e e' same_e = fold-placed F at (node.Cast to e') ∙ ap (λ n. F.of_expr (record { at = at; node = n }))
    (fold-Cast F to e' ∙ ap (λ x. F.of_node (ExprNode-F.Cast to x)) same_e ∙ sym (fold-Cast F to e))

like-InstanceOf : (F : ExprFold) (at : ℕ) (e : Expr) (to : TypeName) (e' : Expr) → folded F e' ≡ folded F e
    → folded F (expr_at at (node.InstanceOf e' to)) ≡ folded_at F at (node.InstanceOf e to)
like-InstanceOf F at e to e' same_e = fold-placed F at (node.InstanceOf e' to) ∙ ap (λ n. F.of_expr (record { at = at; node = n }))
    (fold-InstanceOf F e' to ∙ ap (λ x. F.of_node (ExprNode-F.InstanceOf x to)) same_e ∙ sym (fold-InstanceOf F e to))

-- The two folds that these laws are about.
abbrev Without : ExprFold
Without = record { Node = ℕ → Expr; Whole = Expr; of_node = without_parens_node_step; of_expr = without_parens_expr_step }

abbrev Printing : ExprFold
Printing = record { Node = ℕ → Operand; Whole = Operand; of_node = operand_node_step; of_expr = operand_expr_step }

-- what is proved of an expression: both laws
pub record FoldedAlike (F : ExprFold) (e : Expr) : Type 0 where
  pub without : folded F (expr_without_parens e) ≡ folded F e
  pub printed : folded F (operand e).tree ≡ folded F e

record NodeFoldedAlike (F : ExprFold) (n : ExprNode) : Type 0 where
  without : (at : ℕ) → folded F (expr_node_without_parens n at) ≡ folded_at F at n
  printed : (at : ℕ) → folded F (operand_of_node n at).tree ≡ folded_at F at n

abbrev With : ExprFold → Type 0
With F = (e : Expr) × FoldedAlike F e

all_without : (F : ExprFold) (es : List (With F)) → map (folded F) (map expr_without_parens (map (λ p. p.0) es)) ≡ map (folded F) (map (λ p. p.0) es)
all_without F [] = refl
all_without F (p ∷ es) = let here = p.1.without in let rest = all_without F es in cc

all_printed : (F : ExprFold) (es : List (With F)) → map (folded F) (trees (map operand (map (λ p. p.0) es))) ≡ map (folded F) (map (λ p. p.0) es)
all_printed F [] = refl
all_printed F (p ∷ es) = let here = p.1.printed in let rest = all_printed F es in cc

-- parentheses put or not put are folded alike
put : (F : ExprFold) → IsBlind F → (needed : Bool) (e e' : Expr) → folded F e' ≡ folded F e → folded F (parenthesized needed e') ≡ folded F e
put F blind false e e' same = same
put F blind true e e' same = fold-placed F e'.at (node.Paren e') ∙ ap (λ n. F.of_expr (record { at = e'.at; node = n })) (fold-Paren F e') ∙ blind e'.at (folded F e') ∙ same

on_without : (F : ExprFold) (on : Option (With F)) → option_map (folded F) (option_map expr_without_parens (option_map (λ p. p.0) on)) ≡ option_map (folded F) (option_map (λ p. p.0) on)
on_without F None = refl
on_without F (Some p) = ap Some p.1.without

on_printed : (F : ExprFold) → IsBlind F → (on : Option (With F)) → option_map (folded F) (option_map before_dot (option_map operand (option_map (λ p. p.0) on))) ≡ option_map (folded F) (option_map (λ p. p.0) on)
on_printed F blind None = refl
on_printed F blind (Some p) = ap Some (put F blind _ p.0 (operand p.0).tree p.1.printed)

alike-Lit : (F : ExprFold) → IsBlind F → (text : List ℕ) → NodeFoldedAlike F (node.Lit text)
alike-Lit F blind text = record {
  without = λ at. ap (λ k. folded F (k at)) (fold-Lit Without text) ∙ fold-placed F at (node.Lit text);
  printed = λ at. ap (λ k. folded F (k at).tree) (fold-Lit Printing text) ∙ fold-placed F at (node.Lit text);
}

alike-This : (F : ExprFold) → IsBlind F → NodeFoldedAlike F node.This
alike-This F blind = record {
  without = λ at. ap (λ k. folded F (k at)) (fold-This Without) ∙ fold-placed F at node.This;
  printed = λ at. ap (λ k. folded F (k at).tree) (fold-This Printing) ∙ fold-placed F at node.This;
}

alike-Name : (F : ExprFold) → IsBlind F → (name : List ℕ) → NodeFoldedAlike F (node.Name name)
alike-Name F blind name = record {
  without = λ at. ap (λ k. folded F (k at)) (fold-Name Without name) ∙ fold-placed F at (node.Name name);
  printed = λ at. ap (λ k. folded F (k at).tree) (fold-Name Printing name) ∙ fold-placed F at (node.Name name);
}

alike-Dot : (F : ExprFold) → IsBlind F → (e : With F) (name : List ℕ) → NodeFoldedAlike F (node.Dot e.0 name)
alike-Dot F blind e name = record {
  without = λ at. ap (λ k. folded F (k at)) (fold-Dot Without e.0 name) ∙ like-Dot F at e.0 name _ e.1.without;
  printed = λ at. ap (λ k. folded F (k at).tree) (fold-Dot Printing e.0 name) ∙ like-Dot F at e.0 name _ (put F blind _ e.0 (operand e.0).tree e.1.printed);
}

alike-Call : (F : ExprFold) → IsBlind F → (on : Option (With F)) (name : List ℕ) (args : List (With F)) → NodeFoldedAlike F (node.Call (option_map (λ p. p.0) on) name (map (λ p. p.0) args))
alike-Call F blind on name args = record {
  without = λ at. ap (λ k. folded F (k at)) (fold-Call Without (option_map (λ p. p.0) on) name (map (λ p. p.0) args)) ∙ like-Call F at (option_map (λ p. p.0) on) name (map (λ p. p.0) args) _ _ (on_without F on) (all_without F args);
  printed = λ at. ap (λ k. folded F (k at).tree) (fold-Call Printing (option_map (λ p. p.0) on) name (map (λ p. p.0) args)) ∙ like-Call F at (option_map (λ p. p.0) on) name (map (λ p. p.0) args) _ _ (on_printed F blind on) (all_printed F args);
}

alike-SuperCall : (F : ExprFold) → IsBlind F → (name : List ℕ) (args : List (With F)) → NodeFoldedAlike F (node.SuperCall name (map (λ p. p.0) args))
alike-SuperCall F blind name args = record {
  without = λ at. ap (λ k. folded F (k at)) (fold-SuperCall Without name (map (λ p. p.0) args)) ∙ like-SuperCall F at name (map (λ p. p.0) args) _ (all_without F args);
  printed = λ at. ap (λ k. folded F (k at).tree) (fold-SuperCall Printing name (map (λ p. p.0) args)) ∙ like-SuperCall F at name (map (λ p. p.0) args) _ (all_printed F args);
}

alike-New : (F : ExprFold) → IsBlind F → (to : TypeName) (args : List (With F)) → NodeFoldedAlike F (node.New to (map (λ p. p.0) args))
alike-New F blind to args = record {
  without = λ at. ap (λ k. folded F (k at)) (fold-New Without to (map (λ p. p.0) args)) ∙ like-New F at to (map (λ p. p.0) args) _ (all_without F args);
  printed = λ at. ap (λ k. folded F (k at).tree) (fold-New Printing to (map (λ p. p.0) args)) ∙ like-New F at to (map (λ p. p.0) args) _ (all_printed F args);
}

alike-NewArray : (F : ExprFold) → IsBlind F → (to : TypeName) (sizes : List (With F)) (open_pairs : ℕ) → NodeFoldedAlike F (node.NewArray to (map (λ p. p.0) sizes) open_pairs)
alike-NewArray F blind to sizes open_pairs = record {
  without = λ at. ap (λ k. folded F (k at)) (fold-NewArray Without to (map (λ p. p.0) sizes) open_pairs) ∙ like-NewArray F at to (map (λ p. p.0) sizes) open_pairs _ (all_without F sizes);
  printed = λ at. ap (λ k. folded F (k at).tree) (fold-NewArray Printing to (map (λ p. p.0) sizes) open_pairs) ∙ like-NewArray F at to (map (λ p. p.0) sizes) open_pairs _ (all_printed F sizes);
}

alike-ArrayLit : (F : ExprFold) → IsBlind F → (to : TypeName) (items : List (With F)) → NodeFoldedAlike F (node.ArrayLit to (map (λ p. p.0) items))
alike-ArrayLit F blind to items = record {
  without = λ at. ap (λ k. folded F (k at)) (fold-ArrayLit Without to (map (λ p. p.0) items)) ∙ like-ArrayLit F at to (map (λ p. p.0) items) _ (all_without F items);
  printed = λ at. ap (λ k. folded F (k at).tree) (fold-ArrayLit Printing to (map (λ p. p.0) items)) ∙ like-ArrayLit F at to (map (λ p. p.0) items) _ (all_printed F items);
}

alike-Braces : (F : ExprFold) → IsBlind F → (items : List (With F)) → NodeFoldedAlike F (node.Braces (map (λ p. p.0) items))
alike-Braces F blind items = record {
  without = λ at. ap (λ k. folded F (k at)) (fold-Braces Without (map (λ p. p.0) items)) ∙ like-Braces F at (map (λ p. p.0) items) _ (all_without F items);
  printed = λ at. ap (λ k. folded F (k at).tree) (fold-Braces Printing (map (λ p. p.0) items)) ∙ like-Braces F at (map (λ p. p.0) items) _ (all_printed F items);
}

alike-Index : (F : ExprFold) → IsBlind F → (e : With F) (i : With F) → NodeFoldedAlike F (node.Index e.0 i.0)
alike-Index F blind e i = record {
  without = λ at. ap (λ k. folded F (k at)) (fold-Index Without e.0 i.0) ∙ like-Index F at e.0 i.0 _ _ e.1.without i.1.without;
  printed = λ at. ap (λ k. folded F (k at).tree) (fold-Index Printing e.0 i.0) ∙ like-Index F at e.0 i.0 _ _ (put F blind _ e.0 (operand e.0).tree e.1.printed) i.1.printed;
}

alike-Unary : (F : ExprFold) → IsBlind F → (op : List ℕ) (e : With F) → NodeFoldedAlike F (node.Unary op e.0)
alike-Unary F blind op e = record {
  without = λ at. ap (λ k. folded F (k at)) (fold-Unary Without op e.0) ∙ like-Unary F at op e.0 _ e.1.without;
  printed = λ at. ap (λ k. folded F (k at).tree) (fold-Unary Printing op e.0) ∙ like-Unary F at op e.0 _ (put F blind _ e.0 (operand e.0).tree e.1.printed);
}

alike-Post : (F : ExprFold) → IsBlind F → (e : With F) (op : List ℕ) → NodeFoldedAlike F (node.Post e.0 op)
alike-Post F blind e op = record {
  without = λ at. ap (λ k. folded F (k at)) (fold-Post Without e.0 op) ∙ like-Post F at e.0 op _ e.1.without;
  printed = λ at. ap (λ k. folded F (k at).tree) (fold-Post Printing e.0 op) ∙ like-Post F at e.0 op _ (put F blind _ e.0 (operand e.0).tree e.1.printed);
}

alike-Binary : (F : ExprFold) → IsBlind F → (a : With F) (op : List ℕ) (b : With F) → NodeFoldedAlike F (node.Binary a.0 op b.0)
alike-Binary F blind a op b = record {
  without = λ at. ap (λ k. folded F (k at)) (fold-Binary Without a.0 op b.0) ∙ like-Binary F at a.0 op b.0 _ _ a.1.without b.1.without;
  printed = λ at. ap (λ k. folded F (k at).tree) (fold-Binary Printing a.0 op b.0) ∙ of_level (binary_level op) at;
}
  where
    put_in : (needed : Bool) (p : With F) → folded F (parenthesized needed (operand p.0).tree) ≡ folded F p.0
    put_in needed p = put F blind needed p.0 (operand p.0).tree p.1.printed

    of_level : (level : Option ℕ) (at : ℕ) → folded F (binary level (operand a.0) op (operand b.0) at).tree ≡ folded_at F at (node.Binary a.0 op b.0)
    of_level (Some level) at = like-Binary F at a.0 op b.0 _ _ (put_in _ a) (put_in _ b)
    of_level None at = like-Binary F at a.0 op b.0 _ _ (put_in _ a) (put_in _ b)

alike-Assign : (F : ExprFold) → IsBlind F → (a : With F) (op : List ℕ) (b : With F) → NodeFoldedAlike F (node.Assign a.0 op b.0)
alike-Assign F blind a op b = record {
  without = λ at. ap (λ k. folded F (k at)) (fold-Assign Without a.0 op b.0) ∙ like-Assign F at a.0 op b.0 _ _ a.1.without b.1.without;
  printed = λ at. ap (λ k. folded F (k at).tree) (fold-Assign Printing a.0 op b.0) ∙ like-Assign F at a.0 op b.0 _ _ (put F blind _ a.0 (operand a.0).tree a.1.printed) b.1.printed;
}

alike-Cond : (F : ExprFold) → IsBlind F → (test : With F) (a : With F) (b : With F) → NodeFoldedAlike F (node.Cond test.0 a.0 b.0)
alike-Cond F blind test a b = record {
  without = λ at. ap (λ k. folded F (k at)) (fold-Cond Without test.0 a.0 b.0) ∙ like-Cond F at test.0 a.0 b.0 _ _ _ test.1.without a.1.without b.1.without;
  printed = λ at. ap (λ k. folded F (k at).tree) (fold-Cond Printing test.0 a.0 b.0) ∙ like-Cond F at test.0 a.0 b.0 _ _ _ (put F blind _ test.0 (operand test.0).tree test.1.printed) a.1.printed (put F blind _ b.0 (operand b.0).tree b.1.printed);
}

alike-Cast : (F : ExprFold) → IsBlind F → (to : TypeName) (e : With F) → NodeFoldedAlike F (node.Cast to e.0)
alike-Cast F blind to e = record {
  without = λ at. ap (λ k. folded F (k at)) (fold-Cast Without to e.0) ∙ like-Cast F at to e.0 _ e.1.without;
  printed = λ at. ap (λ k. folded F (k at).tree) (fold-Cast Printing to e.0) ∙ like-Cast F at to e.0 _ (put F blind _ e.0 (operand e.0).tree e.1.printed);
}

alike-InstanceOf : (F : ExprFold) → IsBlind F → (e : With F) (to : TypeName) → NodeFoldedAlike F (node.InstanceOf e.0 to)
alike-InstanceOf F blind e to = record {
  without = λ at. ap (λ k. folded F (k at)) (fold-InstanceOf Without e.0 to) ∙ like-InstanceOf F at e.0 to _ e.1.without;
  printed = λ at. ap (λ k. folded F (k at).tree) (fold-InstanceOf Printing e.0 to) ∙ like-InstanceOf F at e.0 to _ (put F blind _ e.0 (operand e.0).tree e.1.printed);
}

alike-Paren : (F : ExprFold) → IsBlind F → (e : With F) → NodeFoldedAlike F (node.Paren e.0)
alike-Paren F blind e = record {
  without = λ at. ap (λ k. folded F (k at)) (fold-Paren Without e.0) ∙ e.1.without ∙ sym (ap (λ n. F.of_expr (record { at = at; node = n })) (fold-Paren F e.0) ∙ blind at (folded F e.0));
  printed = λ at. ap (λ k. folded F (k at).tree) (fold-Paren Printing e.0) ∙ e.1.printed ∙ sym (ap (λ n. F.of_expr (record { at = at; node = n })) (fold-Paren F e.0) ∙ blind at (folded F e.0));
}

alike_expr : (F : ExprFold) (y : Expr-F ((n : ExprNode) × NodeFoldedAlike F n) (With F)) → FoldedAlike F (roll-Expr (map-Expr _ _ _ _ (λ p. p.0) (λ p. p.0) y))
alike_expr F y = record {
  without = ap (folded F) (fold-placed Without y.at y.node.0) ∙ y.node.1.without y.at ∙ sym (fold-placed F y.at y.node.0);
  printed = ap (λ o. folded F o.tree) (fold-placed Printing y.at y.node.0) ∙ y.node.1.printed y.at ∙ sym (fold-placed F y.at y.node.0);
}

alike_node : (F : ExprFold) → IsBlind F → (y : ExprNode-F ((n : ExprNode) × NodeFoldedAlike F n) (With F)) → NodeFoldedAlike F (roll-ExprNode (map-ExprNode _ _ _ _ (λ p. p.0) (λ p. p.0) y))
alike_node F blind (ExprNode-F.Lit text) = subst (NodeFoldedAlike F) (sym (node.rolls-Lit text)) (alike-Lit F blind text)
alike_node F blind ExprNode-F.This = subst (NodeFoldedAlike F) (sym node.rolls-This) (alike-This F blind)
alike_node F blind (ExprNode-F.Name name) = subst (NodeFoldedAlike F) (sym (node.rolls-Name name)) (alike-Name F blind name)
alike_node F blind (ExprNode-F.Dot e name) = subst (NodeFoldedAlike F) (sym (node.rolls-Dot e.0 name)) (alike-Dot F blind e name)
alike_node F blind (ExprNode-F.Call None name args) = subst (NodeFoldedAlike F) (sym (node.rolls-Call None name (map (λ p. p.0) args))) (alike-Call F blind None name args)
alike_node F blind (ExprNode-F.Call (Some e) name args) = subst (NodeFoldedAlike F) (sym (node.rolls-Call (Some e.0) name (map (λ p. p.0) args))) (alike-Call F blind (Some e) name args)
alike_node F blind (ExprNode-F.SuperCall name args) = subst (NodeFoldedAlike F) (sym (node.rolls-SuperCall name (map (λ p. p.0) args))) (alike-SuperCall F blind name args)
alike_node F blind (ExprNode-F.New to args) = subst (NodeFoldedAlike F) (sym (node.rolls-New to (map (λ p. p.0) args))) (alike-New F blind to args)
alike_node F blind (ExprNode-F.NewArray to sizes open_pairs) = subst (NodeFoldedAlike F) (sym (node.rolls-NewArray to (map (λ p. p.0) sizes) open_pairs)) (alike-NewArray F blind to sizes open_pairs)
alike_node F blind (ExprNode-F.ArrayLit to items) = subst (NodeFoldedAlike F) (sym (node.rolls-ArrayLit to (map (λ p. p.0) items))) (alike-ArrayLit F blind to items)
alike_node F blind (ExprNode-F.Braces items) = subst (NodeFoldedAlike F) (sym (node.rolls-Braces (map (λ p. p.0) items))) (alike-Braces F blind items)
alike_node F blind (ExprNode-F.Index e i) = subst (NodeFoldedAlike F) (sym (node.rolls-Index e.0 i.0)) (alike-Index F blind e i)
alike_node F blind (ExprNode-F.Unary op e) = subst (NodeFoldedAlike F) (sym (node.rolls-Unary op e.0)) (alike-Unary F blind op e)
alike_node F blind (ExprNode-F.Post e op) = subst (NodeFoldedAlike F) (sym (node.rolls-Post e.0 op)) (alike-Post F blind e op)
alike_node F blind (ExprNode-F.Binary a op b) = subst (NodeFoldedAlike F) (sym (node.rolls-Binary a.0 op b.0)) (alike-Binary F blind a op b)
alike_node F blind (ExprNode-F.Assign a op b) = subst (NodeFoldedAlike F) (sym (node.rolls-Assign a.0 op b.0)) (alike-Assign F blind a op b)
alike_node F blind (ExprNode-F.Cond test a b) = subst (NodeFoldedAlike F) (sym (node.rolls-Cond test.0 a.0 b.0)) (alike-Cond F blind test a b)
alike_node F blind (ExprNode-F.Cast to e) = subst (NodeFoldedAlike F) (sym (node.rolls-Cast to e.0)) (alike-Cast F blind to e)
alike_node F blind (ExprNode-F.InstanceOf e to) = subst (NodeFoldedAlike F) (sym (node.rolls-InstanceOf e.0 to)) (alike-InstanceOf F blind e to)
alike_node F blind (ExprNode-F.Paren e) = subst (NodeFoldedAlike F) (sym (node.rolls-Paren e.0)) (alike-Paren F blind e)

-- a fold that does not see parentheses
pub folded_alike : (F : ExprFold) → IsBlind F → (e : Expr) → FoldedAlike F e
folded_alike F blind = ind-Expr (NodeFoldedAlike F) (FoldedAlike F) (λ x y is. subst (λ z. NodeFoldedAlike F (roll-ExprNode z)) is (alike_node F blind y))
    (λ x y is. subst (λ z. FoldedAlike F (roll-Expr z)) is (alike_expr F y))

-- Dropping parentheses and printing do not see them.
pub without_twice : (e : Expr) → expr_without_parens (expr_without_parens e) ≡ expr_without_parens e
without_twice e = (folded_alike Without (λ at x. refl) e).without

pub without_printed : (e : Expr) → expr_without_parens (expr_with_parens e) ≡ expr_without_parens e
without_printed e = (folded_alike Without (λ at x. refl) e).printed

pub printed_without : (e : Expr) → expr_with_parens (expr_without_parens e) ≡ expr_with_parens e
printed_without e = ap (λ o. o.tree) (folded_alike Printing (λ at x. refl) e).without

pub printed_twice : (e : Expr) → expr_with_parens (expr_with_parens e) ≡ expr_with_parens e
printed_twice e = ap (λ o. o.tree) (folded_alike Printing (λ at x. refl) e).printed
