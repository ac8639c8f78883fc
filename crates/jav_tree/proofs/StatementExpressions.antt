-- Which nodes are expressions that may be statements, node by node.
use Rattle.std.proofs.Common.{◌≡◌, ℕ, List, [], ◌∷◌, Option, true, false, refl}
use Rattle.jav_tree.specs.declared.types.TypeName.{TypeName}
use Rattle.jav_tree.specs.declared.expr.Expr.{Expr}
use Rattle.jav_tree.specs.declared.expr.ExprNode.TheVariants as node
use Rattle.jav_tree.specs.Operators.{among}
use Rattle.jav_tree.specs.Statements.{is_statement_expression}

pub statement-Lit : (text : List ℕ) → is_statement_expression (node.Lit text) ≡ false
unfolding Rattle.jav_tree.specs.declared.expr.ExprNode.TheViews.out-ExprNode denote.Hole.Carrier.out
statement-Lit text = refl

pub statement-This : is_statement_expression node.This ≡ false
unfolding Rattle.jav_tree.specs.declared.expr.ExprNode.TheViews.out-ExprNode denote.Hole.Carrier.out
statement-This = refl

pub statement-Name : (name : List ℕ) → is_statement_expression (node.Name name) ≡ false
unfolding Rattle.jav_tree.specs.declared.expr.ExprNode.TheViews.out-ExprNode denote.Hole.Carrier.out
statement-Name name = refl

pub statement-Dot : (e : Expr) (name : List ℕ) → is_statement_expression (node.Dot e name) ≡ false
unfolding Rattle.jav_tree.specs.declared.expr.ExprNode.TheViews.out-ExprNode denote.Hole.Carrier.out
statement-Dot e name = refl

pub statement-Call : (on : Option Expr) (name : List ℕ) (args : List Expr) → is_statement_expression (node.Call on name args) ≡ true
unfolding Rattle.jav_tree.specs.declared.expr.ExprNode.TheViews.out-ExprNode denote.Hole.Carrier.out
statement-Call on name args = refl

pub statement-SuperCall : (name : List ℕ) (args : List Expr) → is_statement_expression (node.SuperCall name args) ≡ true
unfolding Rattle.jav_tree.specs.declared.expr.ExprNode.TheViews.out-ExprNode denote.Hole.Carrier.out
statement-SuperCall name args = refl

pub statement-New : (to : TypeName) (args : List Expr) → is_statement_expression (node.New to args) ≡ true
unfolding Rattle.jav_tree.specs.declared.expr.ExprNode.TheViews.out-ExprNode denote.Hole.Carrier.out
statement-New to args = refl

pub statement-NewArray : (to : TypeName) (sizes : List Expr) (n : ℕ) → is_statement_expression (node.NewArray to sizes n) ≡ false
unfolding Rattle.jav_tree.specs.declared.expr.ExprNode.TheViews.out-ExprNode denote.Hole.Carrier.out
statement-NewArray to sizes n = refl

pub statement-ArrayLit : (to : TypeName) (items : List Expr) → is_statement_expression (node.ArrayLit to items) ≡ false
unfolding Rattle.jav_tree.specs.declared.expr.ExprNode.TheViews.out-ExprNode denote.Hole.Carrier.out
statement-ArrayLit to items = refl

pub statement-Braces : (items : List Expr) → is_statement_expression (node.Braces items) ≡ false
unfolding Rattle.jav_tree.specs.declared.expr.ExprNode.TheViews.out-ExprNode denote.Hole.Carrier.out
statement-Braces items = refl

pub statement-Index : (e i : Expr) → is_statement_expression (node.Index e i) ≡ false
unfolding Rattle.jav_tree.specs.declared.expr.ExprNode.TheViews.out-ExprNode denote.Hole.Carrier.out
statement-Index e i = refl

pub statement-Unary : (op : List ℕ) (e : Expr) → is_statement_expression (node.Unary op e) ≡ among ("++" ∷ "--" ∷ []) op
unfolding Rattle.jav_tree.specs.declared.expr.ExprNode.TheViews.out-ExprNode denote.Hole.Carrier.out
statement-Unary op e = refl

pub statement-Post : (e : Expr) (op : List ℕ) → is_statement_expression (node.Post e op) ≡ true
unfolding Rattle.jav_tree.specs.declared.expr.ExprNode.TheViews.out-ExprNode denote.Hole.Carrier.out
statement-Post e op = refl

pub statement-Binary : (a : Expr) (op : List ℕ) (b : Expr) → is_statement_expression (node.Binary a op b) ≡ false
unfolding Rattle.jav_tree.specs.declared.expr.ExprNode.TheViews.out-ExprNode denote.Hole.Carrier.out
statement-Binary a op b = refl

pub statement-Assign : (a : Expr) (op : List ℕ) (b : Expr) → is_statement_expression (node.Assign a op b) ≡ true
unfolding Rattle.jav_tree.specs.declared.expr.ExprNode.TheViews.out-ExprNode denote.Hole.Carrier.out
statement-Assign a op b = refl

pub statement-Cond : (test a b : Expr) → is_statement_expression (node.Cond test a b) ≡ false
unfolding Rattle.jav_tree.specs.declared.expr.ExprNode.TheViews.out-ExprNode denote.Hole.Carrier.out
statement-Cond test a b = refl

pub statement-Cast : (to : TypeName) (e : Expr) → is_statement_expression (node.Cast to e) ≡ false
unfolding Rattle.jav_tree.specs.declared.expr.ExprNode.TheViews.out-ExprNode denote.Hole.Carrier.out
statement-Cast to e = refl

pub statement-InstanceOf : (e : Expr) (to : TypeName) → is_statement_expression (node.InstanceOf e to) ≡ false
unfolding Rattle.jav_tree.specs.declared.expr.ExprNode.TheViews.out-ExprNode denote.Hole.Carrier.out
statement-InstanceOf e to = refl

pub statement-Paren : (e : Expr) → is_statement_expression (node.Paren e) ≡ false
unfolding Rattle.jav_tree.specs.declared.expr.ExprNode.TheViews.out-ExprNode denote.Hole.Carrier.out
statement-Paren e = refl
