-- Expressions and a source file, each with its height as printed.
use Rattle.std.proofs.Common.{◌≡◌, ℕ, List, [], ◌∷◌, codes, Option, Some, None, map, sym, ◌∙◌}
use Rattle.jav_tree.specs.declared.types.TypeName.{TypeName}
use Rattle.jav_tree.specs.declared.types.TypeName.TheVariants as ty
use Rattle.jav_tree.specs.declared.expr.Expr.{Expr}
use Rattle.jav_tree.specs.declared.expr.ExprNode.TheVariants as node
use Rattle.jav_tree.specs.declared.unit.Member.{Member}
use Rattle.jav_tree.specs.declared.unit.Member.TheVariants as member
use Rattle.jav_tree.specs.declared.unit.Unit.{Unit as Source}
use Rattle.jav_tree.specs.Expressions.{expr_at}
use Rattle.jav_tree.specs.Height.{above, tallest}
use Rattle.jav_tree.specs.Operators.{binary_level}
use Rattle.jav_tree.specs.Types.{is_primitive}
use Rattle.jav_tree.specs.WithParens.{expr_printed_height, unit_printed_height}
use Rattle.jav_tree.proofs.ExpressionFolds.{ExprFold, fold-placed, fold-Lit, fold-Name, fold-Dot, fold-NewArray, fold-Unary, fold-Binary, fold-Cast, fold-Paren}
use Rattle.jav_tree.proofs.PrimitiveTypes.{primitive-Prim, primitive-Named}
use Rattle.jav_tree.proofs.Spelled.{nm, num, un, bin}
use Rattle.jav_print_height.specs.declared.measure.Measure.{Measure}
use Rattle.jav_print_height.specs.Measures.{measure, measure_node_step, measure_expr_step, of_level, tight, literal, prefix, binary, cast, before_dot, heights}
use Rattle.jav_print_height.proofs.MeasuredExpressions.{height_measured}
use Rattle.jav_print_height.proofs.PrintedStatements.{unit_printed}

-- the fold that measures
abbrev Measuring : ExprFold
Measuring = record { Node = Measure; Whole = Measure; of_node = measure_node_step; of_expr = measure_expr_step }

measure-Lit : (at : ℕ) (text : List ℕ) → measure (expr_at at (node.Lit text)) ≡ literal text
measure-Lit at text = fold-placed Measuring at (node.Lit text) ∙ fold-Lit Measuring text

measure-Name : (at : ℕ) (name : List ℕ) → measure (expr_at at (node.Name name)) ≡ tight 1
measure-Name at name = fold-placed Measuring at (node.Name name) ∙ fold-Name Measuring name

measure-Dot : (at : ℕ) (e : Expr) (name : List ℕ) → measure (expr_at at (node.Dot e name)) ≡ tight (above (before_dot (measure e)))
measure-Dot at e name = fold-placed Measuring at (node.Dot e name) ∙ fold-Dot Measuring e name

measure-NewArray : (at : ℕ) (to : TypeName) (sizes : List Expr) (open_pairs : ℕ) → measure (expr_at at (node.NewArray to sizes open_pairs)) ≡ of_level 14 (above (tallest (heights (map measure sizes))))
measure-NewArray at to sizes open_pairs = fold-placed Measuring at (node.NewArray to sizes open_pairs) ∙ fold-NewArray Measuring to sizes open_pairs

measure-Unary : (at : ℕ) (op : List ℕ) (e : Expr) → measure (expr_at at (node.Unary op e)) ≡ prefix op (measure e)
measure-Unary at op e = fold-placed Measuring at (node.Unary op e) ∙ fold-Unary Measuring op e

measure-Binary : (at : ℕ) (a : Expr) (op : List ℕ) (b : Expr) → measure (expr_at at (node.Binary a op b)) ≡ binary (binary_level op) (measure a) (measure b)
measure-Binary at a op b = fold-placed Measuring at (node.Binary a op b) ∙ fold-Binary Measuring a op b

measure-Cast : (at : ℕ) (to : TypeName) (e : Expr) → measure (expr_at at (node.Cast to e)) ≡ cast (is_primitive to) (measure e)
measure-Cast at to e = fold-placed Measuring at (node.Cast to e) ∙ fold-Cast Measuring to e

measure-Paren : (at : ℕ) (e : Expr) → measure (expr_at at (node.Paren e)) ≡ measure e
measure-Paren at e = fold-placed Measuring at (node.Paren e) ∙ fold-Paren Measuring e

-- what is measured is the height as printed
is_high : (e : Expr) (height : ℕ) → (measure e).height ≡ height → expr_printed_height e ≡ height
is_high e height same = sym (height_measured e) ∙ same

-- parentheses as a source may have them
abbrev in_parens : Expr → Expr
in_parens e = expr_at e.at (node.Paren e)

-- `((1) + 2)`, which is printed `1 + 2`
dropped : expr_printed_height (in_parens (bin "+" (in_parens (num 2 "1")) (num 7 "2"))) ≡ 2
dropped = is_high _ 2 (simp (measure-Paren, measure-Binary, measure-Lit))

-- `(a + b) * c` keeps its parentheses, ..
abbrev sum : Expr
sum = bin "+" (nm 1 "a") (nm 5 "b")

kept : expr_printed_height (bin "*" (in_parens sum) (nm 10 "c")) ≡ 4
kept = is_high _ 4 (simp (measure-Paren, measure-Binary, measure-Name))

-- .. and gets them where a tree has none
put : expr_printed_height (bin "*" sum (nm 10 "c")) ≡ 4
put = is_high _ 4 (simp (measure-Binary, measure-Name))

-- `(a + b) + c` loses them, `c + (a + b)` does not
to_the_left : expr_printed_height (bin "+" (in_parens sum) (nm 10 "c")) ≡ 3
to_the_left = is_high _ 3 (simp (measure-Paren, measure-Binary, measure-Name))

to_the_right : expr_printed_height (bin "+" (nm 10 "c") (in_parens sum)) ≡ 4
to_the_right = is_high _ 4 (simp (measure-Paren, measure-Binary, measure-Name))

-- `-(-x)`, which is printed `- -x`
two_signs : expr_printed_height (un 0 "-" (in_parens (un 2 "-" (nm 3 "x")))) ≡ 3
two_signs = is_high _ 3 (simp (measure-Paren, measure-Unary, measure-Name))

-- `(C) (-x)` keeps its parentheses, and `(int) (-x)` is printed `(int) -x`
abbrev minus_x : Expr
minus_x = in_parens (un 5 "-" (nm 6 "x"))

cast_to_class : expr_printed_height (expr_at 0 (node.Cast (ty.Named (codes "C")) minus_x)) ≡ 4
cast_to_class = is_high _ 4 (simp (measure-Cast, measure-Paren, measure-Unary, measure-Name, primitive-Named))

cast_to_int : expr_printed_height (expr_at 0 (node.Cast (ty.Prim (codes "int")) minus_x)) ≡ 3
cast_to_int = is_high _ 3 (simp (measure-Cast, measure-Paren, measure-Unary, measure-Name, primitive-Prim))

-- `new int[1].length`, which is printed `(new int[1]).length`
abbrev length_of_array : Expr
length_of_array = expr_at 0 (node.Dot (expr_at 0 (node.NewArray (ty.Prim (codes "int")) (num 8 "1" ∷ []) 0)) (codes "length"))

array_before_dot : expr_printed_height length_of_array ≡ 4
array_before_dot = is_high _ 4 (simp (measure-Dot, measure-NewArray, measure-Lit))

-- `(1).f` keeps its parentheses, and `("s").f` is printed `"s".f`
number_before_dot : expr_printed_height (expr_at 0 (node.Dot (in_parens (num 1 "1")) (codes "f"))) ≡ 3
number_before_dot = is_high _ 3 (simp (measure-Dot, measure-Paren, measure-Lit))

text_before_dot : expr_printed_height (expr_at 0 (node.Dot (in_parens (num 1 "\"s\"")) (codes "f"))) ≡ 2
text_before_dot = is_high _ 2 (simp (measure-Dot, measure-Paren, measure-Lit))

-- `package k; class C { int x; int n = new int[1].length; }`: the first field has no height, the second one that of its value
abbrev field : List ℕ → Option Expr → Member
field name init = member.Field (record { front = []; at = 0; words = []; ty = ty.Prim (codes "int"); name = name; init = init })

abbrev two_fields : Source
two_fields = record {
  head = [];
  «package» = codes "k";
  imports = [];
  class = record { front = []; words = []; name = codes "C"; parent = None; members = field (codes "x") None ∷ field (codes "n") (Some length_of_array) ∷ []; tail = [] };
}

highest_field : unit_printed_height two_fields ≡ 4
highest_field = unit_printed two_fields ∙ simp array_before_dot
