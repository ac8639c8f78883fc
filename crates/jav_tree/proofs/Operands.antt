-- What the tree as printed is, as an operand, at each variant.
use Rattle.std.proofs.Common.{◌≡◌, ℕ, List, [], ◌∷◌, map, option_map, Option, false, ap, ◌∙◌}
use Rattle.jav_tree.specs.declared.types.TypeName.{TypeName}
use Rattle.jav_tree.specs.declared.expr.Expr.{Expr}
use Rattle.jav_tree.specs.declared.expr.ExprNode.TheVariants as node
use Rattle.jav_tree.specs.Expressions.{expr_at}
use Rattle.jav_tree.specs.Operators.{among, binary_level}
use Rattle.jav_tree.specs.Types.{is_primitive}
use Rattle.jav_tree.specs.WithParens.{Operand, operand, operand_node_step, operand_expr_step, of_level, tight, anywhere, from, before_dot, cast_operand, trees, begins_with_digit, prefix_operand, binary}
use Rattle.jav_tree.proofs.ExpressionFolds.{ExprFold, fold-placed, fold-Lit, fold-This, fold-Name, fold-Dot, fold-Call, fold-SuperCall, fold-New, fold-NewArray, fold-ArrayLit, fold-Braces, fold-Index, fold-Unary, fold-Post, fold-Binary, fold-Assign, fold-Cond, fold-Cast, fold-InstanceOf, fold-Paren}

-- the fold that makes operands
abbrev Printing : ExprFold
Printing = record { Node = ℕ → Operand; Whole = Operand; of_node = operand_node_step; of_expr = operand_expr_step }

pub operand-Lit : (at : ℕ) (text : List ℕ) → operand (expr_at at (node.Lit text)) ≡ record { level = 15; is_signed = false; is_number = begins_with_digit text; tree = expr_at at (node.Lit text) }
operand-Lit at text = fold-placed Printing at (node.Lit text) ∙ ap (λ k. k at) (fold-Lit Printing text)

pub operand-This : (at : ℕ) → operand (expr_at at node.This) ≡ tight (expr_at at node.This)
operand-This at = fold-placed Printing at node.This ∙ ap (λ k. k at) (fold-This Printing)

pub operand-Name : (at : ℕ) (name : List ℕ) → operand (expr_at at (node.Name name)) ≡ tight (expr_at at (node.Name name))
operand-Name at name = fold-placed Printing at (node.Name name) ∙ ap (λ k. k at) (fold-Name Printing name)

pub operand-Dot : (at : ℕ) (e : Expr) (name : List ℕ) → operand (expr_at at (node.Dot e name)) ≡ tight (expr_at at (node.Dot (before_dot (operand e)) name))
operand-Dot at e name = fold-placed Printing at (node.Dot e name) ∙ ap (λ k. k at) (fold-Dot Printing e name)

pub operand-Call : (at : ℕ) (on : Option Expr) (name : List ℕ) (args : List Expr) → operand (expr_at at (node.Call on name args)) ≡ tight (expr_at at (node.Call (option_map before_dot (option_map operand on)) name (trees (map operand args))))
operand-Call at on name args = fold-placed Printing at (node.Call on name args) ∙ ap (λ k. k at) (fold-Call Printing on name args)

pub operand-SuperCall : (at : ℕ) (name : List ℕ) (args : List Expr) → operand (expr_at at (node.SuperCall name args)) ≡ tight (expr_at at (node.SuperCall name (trees (map operand args))))
operand-SuperCall at name args = fold-placed Printing at (node.SuperCall name args) ∙ ap (λ k. k at) (fold-SuperCall Printing name args)

pub operand-New : (at : ℕ) (to : TypeName) (args : List Expr) → operand (expr_at at (node.New to args)) ≡ tight (expr_at at (node.New to (trees (map operand args))))
operand-New at to args = fold-placed Printing at (node.New to args) ∙ ap (λ k. k at) (fold-New Printing to args)

pub operand-NewArray : (at : ℕ) (to : TypeName) (sizes : List Expr) (open_pairs : ℕ) → operand (expr_at at (node.NewArray to sizes open_pairs)) ≡ of_level 14 (expr_at at (node.NewArray to (trees (map operand sizes)) open_pairs))
operand-NewArray at to sizes open_pairs = fold-placed Printing at (node.NewArray to sizes open_pairs) ∙ ap (λ k. k at) (fold-NewArray Printing to sizes open_pairs)

pub operand-ArrayLit : (at : ℕ) (to : TypeName) (items : List Expr) → operand (expr_at at (node.ArrayLit to items)) ≡ of_level 14 (expr_at at (node.ArrayLit to (trees (map operand items))))
operand-ArrayLit at to items = fold-placed Printing at (node.ArrayLit to items) ∙ ap (λ k. k at) (fold-ArrayLit Printing to items)

pub operand-Braces : (at : ℕ) (items : List Expr) → operand (expr_at at (node.Braces items)) ≡ tight (expr_at at (node.Braces (trees (map operand items))))
operand-Braces at items = fold-placed Printing at (node.Braces items) ∙ ap (λ k. k at) (fold-Braces Printing items)

pub operand-Index : (at : ℕ) (e : Expr) (i : Expr) → operand (expr_at at (node.Index e i)) ≡ tight (expr_at at (node.Index (from 15 (operand e)) (anywhere (operand i))))
operand-Index at e i = fold-placed Printing at (node.Index e i) ∙ ap (λ k. k at) (fold-Index Printing e i)

pub operand-Unary : (at : ℕ) (op : List ℕ) (e : Expr) → operand (expr_at at (node.Unary op e)) ≡ record { level = 13; is_signed = among ("+" ∷ "-" ∷ "++" ∷ "--" ∷ []) op; is_number = false; tree = expr_at at (node.Unary op (prefix_operand op (operand e))) }
operand-Unary at op e = fold-placed Printing at (node.Unary op e) ∙ ap (λ k. k at) (fold-Unary Printing op e)

pub operand-Post : (at : ℕ) (e : Expr) (op : List ℕ) → operand (expr_at at (node.Post e op)) ≡ of_level 14 (expr_at at (node.Post (from 15 (operand e)) op))
operand-Post at e op = fold-placed Printing at (node.Post e op) ∙ ap (λ k. k at) (fold-Post Printing e op)

pub operand-Binary : (at : ℕ) (a : Expr) (op : List ℕ) (b : Expr) → operand (expr_at at (node.Binary a op b)) ≡ binary (binary_level op) (operand a) op (operand b) at
operand-Binary at a op b = fold-placed Printing at (node.Binary a op b) ∙ ap (λ k. k at) (fold-Binary Printing a op b)

pub operand-Assign : (at : ℕ) (a : Expr) (op : List ℕ) (b : Expr) → operand (expr_at at (node.Assign a op b)) ≡ of_level 1 (expr_at at (node.Assign (from 15 (operand a)) op (anywhere (operand b))))
operand-Assign at a op b = fold-placed Printing at (node.Assign a op b) ∙ ap (λ k. k at) (fold-Assign Printing a op b)

pub operand-Cond : (at : ℕ) (test : Expr) (a : Expr) (b : Expr) → operand (expr_at at (node.Cond test a b)) ≡ of_level 2 (expr_at at (node.Cond (from 3 (operand test)) (anywhere (operand a)) (from 2 (operand b))))
operand-Cond at test a b = fold-placed Printing at (node.Cond test a b) ∙ ap (λ k. k at) (fold-Cond Printing test a b)

pub operand-Cast : (at : ℕ) (to : TypeName) (e : Expr) → operand (expr_at at (node.Cast to e)) ≡ of_level 13 (expr_at at (node.Cast to (cast_operand (is_primitive to) (operand e))))
operand-Cast at to e = fold-placed Printing at (node.Cast to e) ∙ ap (λ k. k at) (fold-Cast Printing to e)

pub operand-InstanceOf : (at : ℕ) (e : Expr) (to : TypeName) → operand (expr_at at (node.InstanceOf e to)) ≡ of_level 9 (expr_at at (node.InstanceOf (from 9 (operand e)) to))
operand-InstanceOf at e to = fold-placed Printing at (node.InstanceOf e to) ∙ ap (λ k. k at) (fold-InstanceOf Printing e to)

pub operand-Paren : (at : ℕ) (e : Expr) → operand (expr_at at (node.Paren e)) ≡ operand e
operand-Paren at e = fold-placed Printing at (node.Paren e) ∙ ap (λ k. k at) (fold-Paren Printing e)
