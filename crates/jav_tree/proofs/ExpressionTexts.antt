-- The text of an expression as its tree stands, at each variant.
use Rattle.std.proofs.Common.{◌≡◌, ℕ, List, map, option_map, Option}
use Rattle.jav_tree.specs.declared.types.TypeName.{TypeName}
use Rattle.jav_tree.specs.declared.expr.Expr.{Expr}
use Rattle.jav_tree.specs.declared.expr.ExprNode.{ExprNode}
use Rattle.jav_tree.specs.declared.expr.ExprNode.TheVariants as node
use Rattle.jav_tree.specs.declared.expr.ExprNode.TheOpen.{ExprNode-F}
use Rattle.jav_tree.specs.Expressions.{expr_at}
use Rattle.jav_tree.specs.ExpressionText.{tree_text, node_tree_text, text_node_step, text_expr_step}
use Rattle.jav_tree.proofs.ExpressionFolds.{ExprFold, fold-placed, fold-Lit, fold-This, fold-Name, fold-Dot, fold-Call, fold-SuperCall, fold-New, fold-NewArray, fold-ArrayLit, fold-Braces, fold-Index, fold-Unary, fold-Post, fold-Binary, fold-Assign, fold-Cond, fold-Cast, fold-InstanceOf, fold-Paren}

-- the fold that makes texts
abbrev Writing : ExprFold
Writing = record { Node = List ℕ; Whole = List ℕ; of_node = text_node_step; of_expr = text_expr_step }

pub text-placed : (at : ℕ) (n : ExprNode) → tree_text (expr_at at n) ≡ node_tree_text n
text-placed at n = fold-placed Writing at n

pub text-Lit : (text : List ℕ) → node_tree_text (node.Lit text) ≡ text_node_step (ExprNode-F.Lit text)
text-Lit text = fold-Lit Writing text

pub text-This : node_tree_text node.This ≡ text_node_step ExprNode-F.This
text-This = fold-This Writing

pub text-Name : (name : List ℕ) → node_tree_text (node.Name name) ≡ text_node_step (ExprNode-F.Name name)
text-Name name = fold-Name Writing name

pub text-Dot : (e : Expr) (name : List ℕ) → node_tree_text (node.Dot e name) ≡ text_node_step (ExprNode-F.Dot (tree_text e) name)
text-Dot e name = fold-Dot Writing e name

pub text-Call : (on : Option Expr) (name : List ℕ) (args : List Expr) → node_tree_text (node.Call on name args) ≡ text_node_step (ExprNode-F.Call (option_map tree_text on) name (map tree_text args))
text-Call on name args = fold-Call Writing on name args

pub text-SuperCall : (name : List ℕ) (args : List Expr) → node_tree_text (node.SuperCall name args) ≡ text_node_step (ExprNode-F.SuperCall name (map tree_text args))
text-SuperCall name args = fold-SuperCall Writing name args

pub text-New : (to : TypeName) (args : List Expr) → node_tree_text (node.New to args) ≡ text_node_step (ExprNode-F.New to (map tree_text args))
text-New to args = fold-New Writing to args

pub text-NewArray : (to : TypeName) (sizes : List Expr) (open_pairs : ℕ) → node_tree_text (node.NewArray to sizes open_pairs) ≡ text_node_step (ExprNode-F.NewArray to (map tree_text sizes) open_pairs)
text-NewArray to sizes open_pairs = fold-NewArray Writing to sizes open_pairs

pub text-ArrayLit : (to : TypeName) (items : List Expr) → node_tree_text (node.ArrayLit to items) ≡ text_node_step (ExprNode-F.ArrayLit to (map tree_text items))
text-ArrayLit to items = fold-ArrayLit Writing to items

pub text-Braces : (items : List Expr) → node_tree_text (node.Braces items) ≡ text_node_step (ExprNode-F.Braces (map tree_text items))
text-Braces items = fold-Braces Writing items

pub text-Index : (e : Expr) (i : Expr) → node_tree_text (node.Index e i) ≡ text_node_step (ExprNode-F.Index (tree_text e) (tree_text i))
text-Index e i = fold-Index Writing e i

pub text-Unary : (op : List ℕ) (e : Expr) → node_tree_text (node.Unary op e) ≡ text_node_step (ExprNode-F.Unary op (tree_text e))
text-Unary op e = fold-Unary Writing op e

pub text-Post : (e : Expr) (op : List ℕ) → node_tree_text (node.Post e op) ≡ text_node_step (ExprNode-F.Post (tree_text e) op)
text-Post e op = fold-Post Writing e op

pub text-Binary : (a : Expr) (op : List ℕ) (b : Expr) → node_tree_text (node.Binary a op b) ≡ text_node_step (ExprNode-F.Binary (tree_text a) op (tree_text b))
text-Binary a op b = fold-Binary Writing a op b

pub text-Assign : (a : Expr) (op : List ℕ) (b : Expr) → node_tree_text (node.Assign a op b) ≡ text_node_step (ExprNode-F.Assign (tree_text a) op (tree_text b))
text-Assign a op b = fold-Assign Writing a op b

pub text-Cond : (test : Expr) (a : Expr) (b : Expr) → node_tree_text (node.Cond test a b) ≡ text_node_step (ExprNode-F.Cond (tree_text test) (tree_text a) (tree_text b))
text-Cond test a b = fold-Cond Writing test a b

pub text-Cast : (to : TypeName) (e : Expr) → node_tree_text (node.Cast to e) ≡ text_node_step (ExprNode-F.Cast to (tree_text e))
text-Cast to e = fold-Cast Writing to e

pub text-InstanceOf : (e : Expr) (to : TypeName) → node_tree_text (node.InstanceOf e to) ≡ text_node_step (ExprNode-F.InstanceOf (tree_text e) to)
text-InstanceOf e to = fold-InstanceOf Writing e to

pub text-Paren : (e : Expr) → node_tree_text (node.Paren e) ≡ text_node_step (ExprNode-F.Paren (tree_text e))
text-Paren e = fold-Paren Writing e
