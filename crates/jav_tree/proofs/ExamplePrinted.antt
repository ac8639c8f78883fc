-- Expressions, each with the tree as printed, its height, and its text.
use Rattle.std.proofs.Common.{◌≡◌, ℕ, List, [], ◌∷◌, codes, Option, Some, map, max, option_map, ap, ◌∙◌}
use Prim.Native.String.{String}
use Rattle.jav_tree.specs.declared.types.TypeName.{TypeName}
use Rattle.jav_tree.specs.declared.types.TypeName.TheVariants as ty
use Rattle.jav_tree.specs.declared.expr.Expr.{Expr}
use Rattle.jav_tree.specs.declared.expr.ExprNode.{ExprNode}
use Rattle.jav_tree.specs.declared.expr.ExprNode.TheVariants as node
use Rattle.jav_tree.specs.Expressions.{expr_at}
use Rattle.jav_tree.specs.ExpressionText.{expr_text, tree_text}
use Rattle.jav_tree.specs.Height.{above, tallest, tallest_maybe, expr_height, expr_node_height, expr_node_step, expr_step}
use Rattle.jav_tree.specs.WithParens.{anywhere, expr_with_parens, expr_printed_height}
use Rattle.jav_tree.proofs.Spelled.{nm, num, un, bin, set}
use Rattle.jav_tree.proofs.ExpressionFolds.{ExprFold, fold-placed, fold-Lit, fold-Name, fold-Dot, fold-Call, fold-NewArray, fold-Unary, fold-Binary, fold-Assign, fold-Cond, fold-Cast, fold-Paren}
use Rattle.jav_tree.proofs.ExpressionTexts.{text-placed, text-Lit, text-Name, text-Dot, text-Call, text-NewArray, text-Unary, text-Binary, text-Assign, text-Cond, text-Cast, text-Paren}
use Rattle.jav_tree.proofs.Operands.{operand-Lit, operand-Name, operand-Dot, operand-Call, operand-NewArray, operand-Unary, operand-Binary, operand-Assign, operand-Cond, operand-Cast, operand-Paren}
use Rattle.jav_tree.proofs.PrimitiveTypes.{primitive-Prim, primitive-Named}
use Rattle.jav_tree.proofs.StatementTexts.{text-Prim, text-Named}

-- heights, as a fold
abbrev Counting : ExprFold
Counting = record { Node = ℕ; Whole = ℕ; of_node = expr_node_step; of_expr = expr_step }

height-placed : (at : ℕ) (n : ExprNode) → expr_height (expr_at at n) ≡ expr_node_height n
height-placed at n = fold-placed Counting at n

height-Lit : (text : List ℕ) → expr_node_height (node.Lit text) ≡ 1
height-Lit text = fold-Lit Counting text

height-Name : (name : List ℕ) → expr_node_height (node.Name name) ≡ 1
height-Name name = fold-Name Counting name

height-Dot : (e : Expr) (name : List ℕ) → expr_node_height (node.Dot e name) ≡ above (expr_height e)
height-Dot e name = fold-Dot Counting e name

height-Call : (on : Option Expr) (name : List ℕ) (args : List Expr)
    → expr_node_height (node.Call on name args) ≡ above (max (tallest_maybe (option_map expr_height on)) (tallest (map expr_height args)))
height-Call on name args = fold-Call Counting on name args

height-NewArray : (to : TypeName) (sizes : List Expr) (open_pairs : ℕ) → expr_node_height (node.NewArray to sizes open_pairs) ≡ above (tallest (map expr_height sizes))
height-NewArray to sizes open_pairs = fold-NewArray Counting to sizes open_pairs

height-Unary : (op : List ℕ) (e : Expr) → expr_node_height (node.Unary op e) ≡ above (expr_height e)
height-Unary op e = fold-Unary Counting op e

height-Binary : (a : Expr) (op : List ℕ) (b : Expr) → expr_node_height (node.Binary a op b) ≡ above (max (expr_height a) (expr_height b))
height-Binary a op b = fold-Binary Counting a op b

height-Assign : (a : Expr) (op : List ℕ) (b : Expr) → expr_node_height (node.Assign a op b) ≡ above (max (expr_height a) (expr_height b))
height-Assign a op b = fold-Assign Counting a op b

height-Cond : (test a b : Expr) → expr_node_height (node.Cond test a b) ≡ above (max (expr_height test) (max (expr_height a) (expr_height b)))
height-Cond test a b = fold-Cond Counting test a b

height-Cast : (to : TypeName) (e : Expr) → expr_node_height (node.Cast to e) ≡ above (expr_height e)
height-Cast to e = fold-Cast Counting to e

height-Paren : (e : Expr) → expr_node_height (node.Paren e) ≡ above (expr_height e)
height-Paren e = fold-Paren Counting e

-- An example: a tree, the tree as printed, its height and its text.
record Prints (e printed : Expr) (height : ℕ) (text : String) : Type 0 where
  tree : expr_with_parens e ≡ printed
  high : expr_printed_height e ≡ height
  writes : expr_text e ≡ codes text

prints : {e printed : Expr} {height : ℕ} {text : String} → expr_with_parens e ≡ printed → expr_height printed ≡ height → tree_text printed ≡ codes text → Prints e printed height text
prints tree high writes = record { tree = tree; high = ap expr_height tree ∙ high; writes = ap tree_text tree ∙ writes }

-- parentheses as a source may have them
abbrev in_parens : Expr → Expr
in_parens e = expr_at e.at (node.Paren e)

-- a space between two signs, and no parentheses
two_signs : let e = un 0 "-" (un 0 "-" (num 0 "1")) in Prints e e 3 "- -1"
two_signs = prints (simp (operand-Unary, operand-Lit)) (simp (height-placed, height-Unary, height-Lit)) (simp (text-placed, text-Unary, text-Lit))

minus_of_minus : let e = bin "-" (nm 0 "a") (un 0 "-" (nm 0 "y")) in Prints e e 3 "a - -y"
minus_of_minus = prints (simp (operand-Binary, operand-Unary, operand-Name)) (simp (height-placed, height-Binary, height-Unary, height-Name)) (simp (text-placed, text-Binary, text-Unary, text-Name))

-- the operand of a cast: to a class in parentheses, to a primitive type without
abbrev minus_x : Expr
minus_x = un 0 "-" (nm 0 "x")

abbrev class_cast : Expr → Expr
class_cast e = expr_at 0 (node.Cast (ty.Named (codes "C")) e)

abbrev int_cast : Expr → Expr
int_cast e = expr_at 0 (node.Cast (ty.Prim (codes "int")) e)

cast_to_class : Prints (class_cast minus_x) (class_cast (in_parens minus_x)) 4 "(C) (-x)"
cast_to_class = prints (simp (operand-Cast, operand-Unary, operand-Name, primitive-Named)) (simp (height-placed, height-Cast, height-Paren, height-Unary, height-Name)) (simp (text-placed, text-Cast, text-Named, text-Paren, text-Unary, text-Name))

cast_to_int : Prints (int_cast minus_x) (int_cast minus_x) 3 "(int) -x"
cast_to_int = prints (simp (operand-Cast, operand-Unary, operand-Name, primitive-Prim)) (simp (height-placed, height-Cast, height-Unary, height-Name)) (simp (text-placed, text-Cast, text-Prim, text-Unary, text-Name))

-- those that stand in the source already are no others
cast_in_parens : Prints (class_cast (in_parens minus_x)) (class_cast (in_parens minus_x)) 4 "(C) (-x)"
cast_in_parens = prints (simp (operand-Cast, operand-Paren, operand-Unary, operand-Name, primitive-Named)) (simp (height-placed, height-Cast, height-Paren, height-Unary, height-Name)) (simp (text-placed, text-Cast, text-Named, text-Paren, text-Unary, text-Name))

-- assignments and conditions group to the right
assignments : let e = set "=" (nm 0 "x") (set "=" (nm 4 "y") (nm 8 "z")) in Prints e e 3 "x = y = z"
assignments = prints (simp (operand-Assign, operand-Name)) (simp (height-placed, height-Assign, height-Name)) (simp (text-placed, text-Assign, text-Name))

abbrev choice : Expr → Expr → Expr → Expr
choice test a b = expr_at test.at (node.Cond test a b)

conditions : let e = choice (nm 0 "c") (nm 4 "a") (choice (nm 8 "d") (nm 12 "e") (nm 16 "f")) in Prints e e 3 "c ? a : d ? e : f"
conditions = prints (simp (operand-Cond, operand-Name)) (simp (height-placed, height-Cond, height-Name)) (simp (text-placed, text-Cond, text-Name))

-- parentheses that no operand needs are dropped
redundant : Prints (in_parens (bin "+" (in_parens (nm 2 "a")) (in_parens (nm 7 "y")))) (bin "+" (nm 2 "a") (nm 7 "y")) 2 "a + y"
redundant = prints (simp (operand-Paren, operand-Binary, operand-Name)) (simp (height-placed, height-Binary, height-Name)) (simp (text-placed, text-Binary, text-Name))

-- a number before a dot, and a text
abbrev call_f : Expr → Expr
call_f e = expr_at e.at (node.Call (Some e) (codes "f") [])

number_before_dot : Prints (call_f (num 0 "1")) (call_f (in_parens (num 0 "1"))) 3 "(1).f()"
number_before_dot = prints (simp (operand-Call, operand-Lit)) (simp (height-placed, height-Call, height-Paren, height-Lit)) (simp (text-placed, text-Call, text-Paren, text-Lit))

text_before_dot : Prints (call_f (num 0 "\"s\"")) (call_f (num 0 "\"s\"")) 2 "\"s\".f()"
text_before_dot = prints (simp (operand-Call, operand-Lit)) (simp (height-placed, height-Call, height-Lit)) (simp (text-placed, text-Call, text-Lit))

-- a creation of an array before a dot
abbrev one_int : Expr
one_int = expr_at 0 (node.NewArray (ty.Prim (codes "int")) (num 8 "1" ∷ []) 0)

abbrev length_of : Expr → Expr
length_of e = expr_at e.at (node.Dot e (codes "length"))

array_before_dot : Prints (length_of one_int) (length_of (in_parens one_int)) 4 "(new int[1]).length"
array_before_dot = prints (simp (operand-Dot, operand-NewArray, operand-Lit)) (simp (height-placed, height-Dot, height-Paren, height-NewArray, height-Lit)) (simp (text-placed, text-Dot, text-Paren, text-NewArray, text-Lit, text-Prim))

-- operands of one level: on the right in parentheses, on the left without
abbrev b_minus_c : Expr
b_minus_c = bin "-" (nm 4 "b") (nm 8 "c")

to_the_right : Prints (bin "-" (nm 0 "a") b_minus_c) (bin "-" (nm 0 "a") (in_parens b_minus_c)) 4 "a - (b - c)"
to_the_right = prints (simp (operand-Binary, operand-Name)) (simp (height-placed, height-Binary, height-Paren, height-Name)) (simp (text-placed, text-Binary, text-Paren, text-Name))

to_the_left : let e = bin "-" (bin "-" (nm 0 "a") (nm 4 "b")) (nm 8 "c") in Prints e e 3 "a - b - c"
to_the_left = prints (simp (operand-Binary, operand-Name)) (simp (height-placed, height-Binary, height-Name)) (simp (text-placed, text-Binary, text-Name))

-- the texts of a literal and of a name
pub literal_text : (at : ℕ) (text : List ℕ) → expr_text (expr_at at (node.Lit text)) ≡ text
literal_text at text = ap (λ o. tree_text (anywhere o)) (operand-Lit at text) ∙ text-placed at (node.Lit text) ∙ text-Lit text

pub name_text : (at : ℕ) (name : List ℕ) → expr_text (expr_at at (node.Name name)) ≡ name
name_text at name = ap (λ o. tree_text (anywhere o)) (operand-Name at name) ∙ text-placed at (node.Name name) ∙ text-Name name
