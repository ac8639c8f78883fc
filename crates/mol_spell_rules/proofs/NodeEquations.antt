-- How further expressions are read, each from how its parts are, where its place is the first.
use Rattle.std.proofs.Common.{◌≡◌, ℕ, List, map, ap, ◌∙◌}
use Rattle.jav_tree.proofs.ExpressionFolds.{ExprFold, fold-placed, fold-SuperCall, fold-NewArray, fold-ArrayLit, fold-Braces, fold-Unary, fold-Post, fold-Binary, fold-Assign, fold-Cond, fold-Cast, fold-InstanceOf}
use Rattle.jav_tree.specs.declared.expr.Expr.{Expr}
use Rattle.jav_tree.specs.declared.expr.ExprNode.TheOpen.{ExprNode-F}
use Rattle.jav_tree.specs.declared.expr.ExprNode.TheVariants as node
use Rattle.jav_tree.specs.declared.types.TypeName.{TypeName}
use Rattle.jav_names.specs.DottedNames.{Name}
use Rattle.mol_resolve_rules.specs.Readers.{Reader}
use Rattle.mol_resolve_rules.specs.ReadTrees.{Reading, node_step, expr_step, reading}
use Rattle.mol_spell_rules.specs.SpelledExpressions.{made}

module _ {C M : Type 0} (reader : Reader C M) where
  abbrev read : ExprFold
  read = record { Node = ℕ → Reading C; Whole = Reading C; of_node = node_step reader; of_expr = expr_step reader }

  abbrev pub of_reading : ExprNode-F (ℕ → Reading C) (Reading C) → Reading C
  of_reading parts = node_step reader parts 0

  pub read-SuperCall : (name : Name) (args : List Expr)
      → reading reader (made (node.SuperCall name args)) ≡ of_reading (ExprNode-F.SuperCall name (map (reading reader) args))
  read-SuperCall name args = fold-placed read 0 (node.SuperCall name args) ∙ ap (λ made. made 0) (fold-SuperCall read name args)

  pub read-NewArray : (type : TypeName) (sizes : List Expr) (pairs : ℕ)
      → reading reader (made (node.NewArray type sizes pairs)) ≡ of_reading (ExprNode-F.NewArray type (map (reading reader) sizes) pairs)
  read-NewArray type sizes pairs =
      fold-placed read 0 (node.NewArray type sizes pairs) ∙ ap (λ made. made 0) (fold-NewArray read type sizes pairs)

  pub read-ArrayLit : (type : TypeName) (items : List Expr)
      → reading reader (made (node.ArrayLit type items)) ≡ of_reading (ExprNode-F.ArrayLit type (map (reading reader) items))
  read-ArrayLit type items = fold-placed read 0 (node.ArrayLit type items) ∙ ap (λ made. made 0) (fold-ArrayLit read type items)

  pub read-Braces : (items : List Expr)
      → reading reader (made (node.Braces items)) ≡ of_reading (ExprNode-F.Braces (map (reading reader) items))
  read-Braces items = fold-placed read 0 (node.Braces items) ∙ ap (λ made. made 0) (fold-Braces read items)

  pub read-Unary : (op : Name) (e : Expr) → reading reader (made (node.Unary op e)) ≡ of_reading (ExprNode-F.Unary op (reading reader e))
  read-Unary op e = fold-placed read 0 (node.Unary op e) ∙ ap (λ made. made 0) (fold-Unary read op e)

  pub read-Post : (e : Expr) (op : Name) → reading reader (made (node.Post e op)) ≡ of_reading (ExprNode-F.Post (reading reader e) op)
  read-Post e op = fold-placed read 0 (node.Post e op) ∙ ap (λ made. made 0) (fold-Post read e op)

  pub read-Binary : (a : Expr) (op : Name) (b : Expr)
      → reading reader (made (node.Binary a op b)) ≡ of_reading (ExprNode-F.Binary (reading reader a) op (reading reader b))
  read-Binary a op b = fold-placed read 0 (node.Binary a op b) ∙ ap (λ made. made 0) (fold-Binary read a op b)

  pub read-Assign : (a : Expr) (op : Name) (b : Expr)
      → reading reader (made (node.Assign a op b)) ≡ of_reading (ExprNode-F.Assign (reading reader a) op (reading reader b))
  read-Assign a op b = fold-placed read 0 (node.Assign a op b) ∙ ap (λ made. made 0) (fold-Assign read a op b)

  pub read-Cond : (test a b : Expr) → reading reader (made (node.Cond test a b))
      ≡ of_reading (ExprNode-F.Cond (reading reader test) (reading reader a) (reading reader b))
  read-Cond test a b = fold-placed read 0 (node.Cond test a b) ∙ ap (λ made. made 0) (fold-Cond read test a b)

  pub read-Cast : (type : TypeName) (e : Expr)
      → reading reader (made (node.Cast type e)) ≡ of_reading (ExprNode-F.Cast type (reading reader e))
  read-Cast type e = fold-placed read 0 (node.Cast type e) ∙ ap (λ made. made 0) (fold-Cast read type e)

  pub read-InstanceOf : (e : Expr) (type : TypeName)
      → reading reader (made (node.InstanceOf e type)) ≡ of_reading (ExprNode-F.InstanceOf (reading reader e) type)
  read-InstanceOf e type = fold-placed read 0 (node.InstanceOf e type) ∙ ap (λ made. made 0) (fold-InstanceOf read e type)
