-- The text of an expression: as its tree stands, and as it is printed.
use Rattle.std.specs.Prelude.{ℕ, zero, suc, List, [], ◌∷◌, ◌++◌, codes, Bool, false, ◌&&◌, if◌then◌else◌, nat_le, Option, Some, None}
use Rattle.jav_tree.specs.declared.expr.Expr.{Expr, fold-Expr}
use Rattle.jav_tree.specs.declared.expr.ExprNode.{ExprNode, fold-ExprNode}
use Rattle.jav_tree.specs.declared.expr.ExprNode.TheOpen.{ExprNode-F, Expr-F}
use Rattle.jav_tree.specs.Operators.{among}
use Rattle.jav_tree.specs.Lines.{listed}
use Rattle.jav_tree.specs.TypeText.{type_text}
use Rattle.jav_tree.specs.WithParens.{expr_with_parens}

-- two texts that begin with the same character
abbrev pub begin_alike : List ℕ → List ℕ → Bool
begin_alike (c ∷ rest) (d ∷ more) = nat_le c d && nat_le d c
begin_alike _ _ = false

-- A space stands between `+` or `-` and an operand that begins with the same character.
abbrev pub gap : List ℕ → List ℕ → List ℕ
gap op operand = if among ("+" ∷ "-" ∷ []) op && begin_alike op operand then codes " " else []

-- an operator between two operands
abbrev pub spaced : List ℕ → List ℕ → List ℕ → List ℕ
spaced a op b = a ++ codes " " ++ op ++ codes " " ++ b

abbrev pub in_parens : List (List ℕ) → List ℕ
in_parens items = codes "(" ++ listed items ++ codes ")"

abbrev pub in_braces : List (List ℕ) → List ℕ
in_braces items = codes "{" ++ listed items ++ codes "}"

-- what a call is on, and the dot
abbrev pub on_text : Option (List ℕ) → List ℕ
on_text None = []
on_text (Some e) = e ++ codes "."

abbrev pub sizes_text : List (List ℕ) → List ℕ
sizes_text [] = []
sizes_text (e ∷ rest) = codes "[" ++ e ++ codes "]" ++ sizes_text rest

abbrev pub brackets_text : ℕ → List ℕ
brackets_text zero = []
brackets_text (suc n) = codes "[]" ++ brackets_text n

abbrev pub text_node_step : ExprNode-F (List ℕ) (List ℕ) → List ℕ
text_node_step (ExprNode-F.Lit text) = text
text_node_step ExprNode-F.This = codes "this"
text_node_step (ExprNode-F.Name name) = name
text_node_step (ExprNode-F.Dot e name) = e ++ codes "." ++ name
text_node_step (ExprNode-F.Call on name args) = on_text on ++ name ++ in_parens args
text_node_step (ExprNode-F.SuperCall name args) = codes "super." ++ name ++ in_parens args
text_node_step (ExprNode-F.New to args) = codes "new " ++ type_text to ++ in_parens args
text_node_step (ExprNode-F.NewArray to sizes open_pairs) = codes "new " ++ type_text to ++ sizes_text sizes ++ brackets_text open_pairs
text_node_step (ExprNode-F.ArrayLit to items) = codes "new " ++ type_text to ++ codes " " ++ in_braces items
text_node_step (ExprNode-F.Braces items) = in_braces items
text_node_step (ExprNode-F.Index e i) = e ++ codes "[" ++ i ++ codes "]"
text_node_step (ExprNode-F.Unary op e) = op ++ gap op e ++ e
text_node_step (ExprNode-F.Post e op) = e ++ op
text_node_step (ExprNode-F.Binary a op b) = spaced a op b
text_node_step (ExprNode-F.Assign a op b) = spaced a op b
text_node_step (ExprNode-F.Cond test a b) = spaced test (codes "?") (spaced a (codes ":") b)
text_node_step (ExprNode-F.Cast to e) = codes "(" ++ type_text to ++ codes ") " ++ e
text_node_step (ExprNode-F.InstanceOf e to) = spaced e (codes "instanceof") (type_text to)
text_node_step (ExprNode-F.Paren e) = codes "(" ++ e ++ codes ")"

abbrev pub text_expr_step : Expr-F (List ℕ) (List ℕ) → List ℕ
text_expr_step e = e.node

abbrev pub node_tree_text : ExprNode → List ℕ
node_tree_text = fold-ExprNode (List ℕ) (List ℕ) text_node_step text_expr_step

-- the text of an expression as its tree stands, in parentheses where the tree is
abbrev pub tree_text : Expr → List ℕ
tree_text = fold-Expr (List ℕ) (List ℕ) text_node_step text_expr_step

-- the text of an expression as it is printed
abbrev pub expr_text : Expr → List ℕ
expr_text e = tree_text (expr_with_parens e)
