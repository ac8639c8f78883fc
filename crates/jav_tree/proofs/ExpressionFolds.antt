-- What any fold over expressions gives at each variant.
use Rattle.std.proofs.Common.{◌≡◌, ℕ, List, map, option_map, Option, Some, None, sym, ap, ◌∙◌}
use Rattle.jav_tree.specs.declared.types.TypeName.{TypeName}
use Rattle.jav_tree.specs.declared.expr.Expr.{Expr, fold-Expr}
use Rattle.jav_tree.specs.declared.expr.ExprNode.{ExprNode, fold-ExprNode}
use Rattle.jav_tree.specs.declared.expr.ExprNode.TheVariants as node
use Rattle.jav_tree.specs.declared.expr.ExprNode.TheOpen.{ExprNode-F, Expr-F}
use Rattle.jav_tree.specs.declared.expr.ExprNode.TheFolds.{fold-roll-ExprNode, fold-roll-Expr}
use Rattle.jav_tree.specs.Expressions.{expr_at}

-- what a fold makes of a node and of an expression, from what it made of their parts
pub record ExprFold : Type 1 where
  pub Node : Type 0
  pub Whole : Type 0
  pub of_node : ExprNode-F Node Whole → Node
  pub of_expr : Expr-F Node Whole → Whole

abbrev pub folded : (F : ExprFold) → Expr → F.Whole
folded F = fold-Expr F.Node F.Whole F.of_node F.of_expr

abbrev pub folded_node : (F : ExprFold) → ExprNode → F.Node
folded_node F = fold-ExprNode F.Node F.Whole F.of_node F.of_expr

-- what it makes of a node at a place
abbrev pub folded_at : (F : ExprFold) → ℕ → ExprNode → F.Whole
folded_at F at n = F.of_expr (record { at = at; node = folded_node F n })

pub fold-placed : (F : ExprFold) (at : ℕ) (n : ExprNode) → folded F (expr_at at n) ≡ folded_at F at n
fold-placed F at n = fold-roll-Expr F.Node F.Whole F.of_node F.of_expr (record { at = at; node = n })

pub fold-Lit : (F : ExprFold) (text : List ℕ) → folded_node F (node.Lit text) ≡ F.of_node (ExprNode-F.Lit text)
fold-Lit F text = ap (folded_node F) (sym (node.rolls-Lit text)) ∙ fold-roll-ExprNode _ _ F.of_node F.of_expr (ExprNode-F.Lit text)

pub fold-This : (F : ExprFold) → folded_node F node.This ≡ F.of_node ExprNode-F.This
fold-This F = ap (folded_node F) (sym node.rolls-This) ∙ fold-roll-ExprNode _ _ F.of_node F.of_expr ExprNode-F.This

pub fold-Name : (F : ExprFold) (name : List ℕ) → folded_node F (node.Name name) ≡ F.of_node (ExprNode-F.Name name)
fold-Name F name = ap (folded_node F) (sym (node.rolls-Name name)) ∙ fold-roll-ExprNode _ _ F.of_node F.of_expr (ExprNode-F.Name name)

pub fold-Dot : (F : ExprFold) (e : Expr) (name : List ℕ) → folded_node F (node.Dot e name) ≡ F.of_node (ExprNode-F.Dot (folded F e) name)
fold-Dot F e name = ap (folded_node F) (sym (node.rolls-Dot e name)) ∙ fold-roll-ExprNode _ _ F.of_node F.of_expr (ExprNode-F.Dot e name)

pub fold-Call : (F : ExprFold) (on : Option Expr) (name : List ℕ) (args : List Expr) → folded_node F (node.Call on name args) ≡ F.of_node (ExprNode-F.Call (option_map (folded F) on) name (map (folded F) args))
fold-Call F None name args = ap (folded_node F) (sym (node.rolls-Call None name args)) ∙ fold-roll-ExprNode _ _ F.of_node F.of_expr (ExprNode-F.Call None name args)
fold-Call F (Some e) name args = ap (folded_node F) (sym (node.rolls-Call (Some e) name args)) ∙ fold-roll-ExprNode _ _ F.of_node F.of_expr (ExprNode-F.Call (Some e) name args)

pub fold-SuperCall : (F : ExprFold) (name : List ℕ) (args : List Expr) → folded_node F (node.SuperCall name args) ≡ F.of_node (ExprNode-F.SuperCall name (map (folded F) args))
fold-SuperCall F name args = ap (folded_node F) (sym (node.rolls-SuperCall name args)) ∙ fold-roll-ExprNode _ _ F.of_node F.of_expr (ExprNode-F.SuperCall name args)

pub fold-New : (F : ExprFold) (to : TypeName) (args : List Expr) → folded_node F (node.New to args) ≡ F.of_node (ExprNode-F.New to (map (folded F) args))
fold-New F to args = ap (folded_node F) (sym (node.rolls-New to args)) ∙ fold-roll-ExprNode _ _ F.of_node F.of_expr (ExprNode-F.New to args)

pub fold-NewArray : (F : ExprFold) (to : TypeName) (sizes : List Expr) (open_pairs : ℕ) → folded_node F (node.NewArray to sizes open_pairs) ≡ F.of_node (ExprNode-F.NewArray to (map (folded F) sizes) open_pairs)
fold-NewArray F to sizes open_pairs = ap (folded_node F) (sym (node.rolls-NewArray to sizes open_pairs)) ∙ fold-roll-ExprNode _ _ F.of_node F.of_expr (ExprNode-F.NewArray to sizes open_pairs)

pub fold-ArrayLit : (F : ExprFold) (to : TypeName) (items : List Expr) → folded_node F (node.ArrayLit to items) ≡ F.of_node (ExprNode-F.ArrayLit to (map (folded F) items))
fold-ArrayLit F to items = ap (folded_node F) (sym (node.rolls-ArrayLit to items)) ∙ fold-roll-ExprNode _ _ F.of_node F.of_expr (ExprNode-F.ArrayLit to items)

pub fold-Braces : (F : ExprFold) (items : List Expr) → folded_node F (node.Braces items) ≡ F.of_node (ExprNode-F.Braces (map (folded F) items))
fold-Braces F items = ap (folded_node F) (sym (node.rolls-Braces items)) ∙ fold-roll-ExprNode _ _ F.of_node F.of_expr (ExprNode-F.Braces items)

pub fold-Index : (F : ExprFold) (e : Expr) (i : Expr) → folded_node F (node.Index e i) ≡ F.of_node (ExprNode-F.Index (folded F e) (folded F i))
fold-Index F e i = ap (folded_node F) (sym (node.rolls-Index e i)) ∙ fold-roll-ExprNode _ _ F.of_node F.of_expr (ExprNode-F.Index e i)

pub fold-Unary : (F : ExprFold) (op : List ℕ) (e : Expr) → folded_node F (node.Unary op e) ≡ F.of_node (ExprNode-F.Unary op (folded F e))
fold-Unary F op e = ap (folded_node F) (sym (node.rolls-Unary op e)) ∙ fold-roll-ExprNode _ _ F.of_node F.of_expr (ExprNode-F.Unary op e)

pub fold-Post : (F : ExprFold) (e : Expr) (op : List ℕ) → folded_node F (node.Post e op) ≡ F.of_node (ExprNode-F.Post (folded F e) op)
fold-Post F e op = ap (folded_node F) (sym (node.rolls-Post e op)) ∙ fold-roll-ExprNode _ _ F.of_node F.of_expr (ExprNode-F.Post e op)

pub fold-Binary : (F : ExprFold) (a : Expr) (op : List ℕ) (b : Expr) → folded_node F (node.Binary a op b) ≡ F.of_node (ExprNode-F.Binary (folded F a) op (folded F b))
fold-Binary F a op b = ap (folded_node F) (sym (node.rolls-Binary a op b)) ∙ fold-roll-ExprNode _ _ F.of_node F.of_expr (ExprNode-F.Binary a op b)

pub fold-Assign : (F : ExprFold) (a : Expr) (op : List ℕ) (b : Expr) → folded_node F (node.Assign a op b) ≡ F.of_node (ExprNode-F.Assign (folded F a) op (folded F b))
fold-Assign F a op b = ap (folded_node F) (sym (node.rolls-Assign a op b)) ∙ fold-roll-ExprNode _ _ F.of_node F.of_expr (ExprNode-F.Assign a op b)

pub fold-Cond : (F : ExprFold) (test : Expr) (a : Expr) (b : Expr) → folded_node F (node.Cond test a b) ≡ F.of_node (ExprNode-F.Cond (folded F test) (folded F a) (folded F b))
fold-Cond F test a b = ap (folded_node F) (sym (node.rolls-Cond test a b)) ∙ fold-roll-ExprNode _ _ F.of_node F.of_expr (ExprNode-F.Cond test a b)

pub fold-Cast : (F : ExprFold) (to : TypeName) (e : Expr) → folded_node F (node.Cast to e) ≡ F.of_node (ExprNode-F.Cast to (folded F e))
fold-Cast F to e = ap (folded_node F) (sym (node.rolls-Cast to e)) ∙ fold-roll-ExprNode _ _ F.of_node F.of_expr (ExprNode-F.Cast to e)

pub fold-InstanceOf : (F : ExprFold) (e : Expr) (to : TypeName) → folded_node F (node.InstanceOf e to) ≡ F.of_node (ExprNode-F.InstanceOf (folded F e) to)
fold-InstanceOf F e to = ap (folded_node F) (sym (node.rolls-InstanceOf e to)) ∙ fold-roll-ExprNode _ _ F.of_node F.of_expr (ExprNode-F.InstanceOf e to)

pub fold-Paren : (F : ExprFold) (e : Expr) → folded_node F (node.Paren e) ≡ F.of_node (ExprNode-F.Paren (folded F e))
fold-Paren F e = ap (folded_node F) (sym (node.rolls-Paren e)) ∙ fold-roll-ExprNode _ _ F.of_node F.of_expr (ExprNode-F.Paren e)
