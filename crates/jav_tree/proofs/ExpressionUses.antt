-- What an expression may be, at each variant.
use Rattle.std.proofs.Common.{◌≡◌, ℕ, List, map, option_map, Option}
use Rattle.jav_tree.specs.declared.types.TypeName.{TypeName}
use Rattle.jav_tree.specs.declared.expr.Expr.{Expr}
use Rattle.jav_tree.specs.declared.expr.ExprNode.{ExprNode}
use Rattle.jav_tree.specs.declared.expr.ExprNode.TheVariants as node
use Rattle.jav_tree.specs.declared.expr.ExprNode.TheOpen.{ExprNode-F}
use Rattle.jav_tree.specs.Expressions.{expr_at}
use Rattle.jav_tree.specs.PrintableExpressions.{ExprUses, expr_uses, expr_node_uses, expr_node_uses_step, expr_uses_step}
use Rattle.jav_tree.proofs.ExpressionFolds.{ExprFold, fold-placed, fold-Lit, fold-This, fold-Name, fold-Dot, fold-Call, fold-SuperCall, fold-New, fold-NewArray, fold-ArrayLit, fold-Braces, fold-Index, fold-Unary, fold-Post, fold-Binary, fold-Assign, fold-Cond, fold-Cast, fold-InstanceOf, fold-Paren}

-- the fold that tests
abbrev Testing : ExprFold
Testing = record { Node = ExprUses; Whole = ExprUses; of_node = expr_node_uses_step; of_expr = expr_uses_step }

pub uses-placed : (at : ℕ) (n : ExprNode) → expr_uses (expr_at at n) ≡ expr_node_uses n
uses-placed at n = fold-placed Testing at n

pub uses-Lit : (text : List ℕ) → expr_node_uses (node.Lit text) ≡ expr_node_uses_step (ExprNode-F.Lit text)
uses-Lit text = fold-Lit Testing text

pub uses-This : expr_node_uses node.This ≡ expr_node_uses_step ExprNode-F.This
uses-This = fold-This Testing

pub uses-Name : (name : List ℕ) → expr_node_uses (node.Name name) ≡ expr_node_uses_step (ExprNode-F.Name name)
uses-Name name = fold-Name Testing name

pub uses-Dot : (e : Expr) (name : List ℕ) → expr_node_uses (node.Dot e name) ≡ expr_node_uses_step (ExprNode-F.Dot (expr_uses e) name)
uses-Dot e name = fold-Dot Testing e name

pub uses-Call : (on : Option Expr) (name : List ℕ) (args : List Expr) → expr_node_uses (node.Call on name args) ≡ expr_node_uses_step (ExprNode-F.Call (option_map expr_uses on) name (map expr_uses args))
uses-Call on name args = fold-Call Testing on name args

pub uses-SuperCall : (name : List ℕ) (args : List Expr) → expr_node_uses (node.SuperCall name args) ≡ expr_node_uses_step (ExprNode-F.SuperCall name (map expr_uses args))
uses-SuperCall name args = fold-SuperCall Testing name args

pub uses-New : (to : TypeName) (args : List Expr) → expr_node_uses (node.New to args) ≡ expr_node_uses_step (ExprNode-F.New to (map expr_uses args))
uses-New to args = fold-New Testing to args

pub uses-NewArray : (to : TypeName) (sizes : List Expr) (open_pairs : ℕ) → expr_node_uses (node.NewArray to sizes open_pairs) ≡ expr_node_uses_step (ExprNode-F.NewArray to (map expr_uses sizes) open_pairs)
uses-NewArray to sizes open_pairs = fold-NewArray Testing to sizes open_pairs

pub uses-ArrayLit : (to : TypeName) (items : List Expr) → expr_node_uses (node.ArrayLit to items) ≡ expr_node_uses_step (ExprNode-F.ArrayLit to (map expr_uses items))
uses-ArrayLit to items = fold-ArrayLit Testing to items

pub uses-Braces : (items : List Expr) → expr_node_uses (node.Braces items) ≡ expr_node_uses_step (ExprNode-F.Braces (map expr_uses items))
uses-Braces items = fold-Braces Testing items

pub uses-Index : (e : Expr) (i : Expr) → expr_node_uses (node.Index e i) ≡ expr_node_uses_step (ExprNode-F.Index (expr_uses e) (expr_uses i))
uses-Index e i = fold-Index Testing e i

pub uses-Unary : (op : List ℕ) (e : Expr) → expr_node_uses (node.Unary op e) ≡ expr_node_uses_step (ExprNode-F.Unary op (expr_uses e))
uses-Unary op e = fold-Unary Testing op e

pub uses-Post : (e : Expr) (op : List ℕ) → expr_node_uses (node.Post e op) ≡ expr_node_uses_step (ExprNode-F.Post (expr_uses e) op)
uses-Post e op = fold-Post Testing e op

pub uses-Binary : (a : Expr) (op : List ℕ) (b : Expr) → expr_node_uses (node.Binary a op b) ≡ expr_node_uses_step (ExprNode-F.Binary (expr_uses a) op (expr_uses b))
uses-Binary a op b = fold-Binary Testing a op b

pub uses-Assign : (a : Expr) (op : List ℕ) (b : Expr) → expr_node_uses (node.Assign a op b) ≡ expr_node_uses_step (ExprNode-F.Assign (expr_uses a) op (expr_uses b))
uses-Assign a op b = fold-Assign Testing a op b

pub uses-Cond : (test : Expr) (a : Expr) (b : Expr) → expr_node_uses (node.Cond test a b) ≡ expr_node_uses_step (ExprNode-F.Cond (expr_uses test) (expr_uses a) (expr_uses b))
uses-Cond test a b = fold-Cond Testing test a b

pub uses-Cast : (to : TypeName) (e : Expr) → expr_node_uses (node.Cast to e) ≡ expr_node_uses_step (ExprNode-F.Cast to (expr_uses e))
uses-Cast to e = fold-Cast Testing to e

pub uses-InstanceOf : (e : Expr) (to : TypeName) → expr_node_uses (node.InstanceOf e to) ≡ expr_node_uses_step (ExprNode-F.InstanceOf (expr_uses e) to)
uses-InstanceOf e to = fold-InstanceOf Testing e to

pub uses-Paren : (e : Expr) → expr_node_uses (node.Paren e) ≡ expr_node_uses_step (ExprNode-F.Paren (expr_uses e))
uses-Paren e = fold-Paren Testing e
