-- The limit of number that the grammar keeps bounds the width of each expression.
use Rattle.std.proofs.Common.{◌≡◌, ℕ, suc, ◌+◌, ◌≤◌, max, List, length, map, Some, None, ◌∙◌, arith}
use Rattle.std.proofs.lemmas.List.{length-map}
use Rattle.mol_base.specs.Token.{Token}
use Rattle.jav_tree.specs.declared.types.TypeName.TheVariants as ty
use Rattle.jav_tree.specs.declared.expr.Expr.{Expr}
use Rattle.jav_tree.specs.declared.expr.ExprNode.TheVariants as node
use Rattle.jav_tree.specs.Expressions.{Expression, Shape, Primary, BeforeDot, ArrayCreation, Sizes, Arguments, Listed, Init, Items, Inits, expr_at}
use Rattle.jav_tree.specs.Expressions as is
use Rattle.jav_tree.specs.Height.{tallest}
use Rattle.jav_tree.specs.Types.{array_of}
use Rattle.jav_tree.specs.Widths.{type_width, expr_width, counted, width_node_step, width_expr_step}
use Rattle.jav_tree.proofs.ExpressionFolds.{ExprFold, fold-placed, fold-Lit, fold-This, fold-Name, fold-Dot, fold-Call, fold-SuperCall, fold-New, fold-NewArray, fold-ArrayLit, fold-Braces, fold-Index, fold-Unary, fold-Post, fold-Binary, fold-Assign, fold-Cond, fold-Cast, fold-InstanceOf, fold-Paren}
use Rattle.jav_print_laws.proofs.printable_lemmas.Types.{array_width, whole_width}

-- the fold that counts
abbrev Counting : ExprFold
Counting = record { Node = ℕ; Whole = ℕ; of_node = width_node_step; of_expr = width_expr_step }

-- a width that comes out as a number within the limit
pub narrow : (n m limit : ℕ) → n ≡ m → m ≤ limit → n ≤ limit
narrow n m limit e few = rw e few

pub max_within : (a b limit : ℕ) → a ≤ limit → b ≤ limit → max a b ≤ limit
max_within a b limit few fewer = omega arith

pub counted_within : (es : List Expr) (limit : ℕ) → length es ≤ limit → tallest (map expr_width es) ≤ limit → counted (map expr_width es) ≤ limit
counted_within es limit few each = max_within _ _ limit (rw (length-map es expr_width) few) each

mutual
  pub width_of_expression : {limit level h : ℕ} {e : Expr} {ts : List Token} → Expression limit level h e ts → expr_width e ≤ limit
  width_of_expression (is.assign {op} {a} {b} _ p _ q) = narrow _ _ _ (fold-placed Counting a.at (node.Assign a op.text b) ∙ fold-Assign Counting a op.text b) (max_within _ _ _ (width_of_primary p) (width_of_expression q))
  width_of_expression (is.cond {test} {a} {b} _ p _ q _ r) =
      narrow _ _ _ (fold-placed Counting test.at (node.Cond test a b) ∙ fold-Cond Counting test a b) (max_within _ _ _ (width_of_expression p) (max_within _ _ _ (width_of_expression q) (width_of_expression r)))
  width_of_expression (is.binary {op} {a} {b} _ _ p q) = narrow _ _ _ (fold-placed Counting a.at (node.Binary a op.text b) ∙ fold-Binary Counting a op.text b) (max_within _ _ _ (width_of_expression p) (width_of_expression q))
  width_of_expression (is.instance_of {e} {to} _ p _ t) = narrow _ _ _ (fold-placed Counting e.at (node.InstanceOf e to) ∙ fold-InstanceOf Counting e to) (max_within _ _ _ (width_of_expression p) (whole_width t))
  width_of_expression (is.prefix {op} {e} _ _ p) = narrow _ _ _ (fold-placed Counting op.start (node.Unary op.text e) ∙ fold-Unary Counting op.text e) (width_of_expression p)
  width_of_expression (is.step_before {op} {e} _ _ p) = narrow _ _ _ (fold-placed Counting op.start (node.Unary op.text e) ∙ fold-Unary Counting op.text e) (width_of_primary p)
  width_of_expression (is.cast {left} {to = to} {e} _ _ t _ _ p) = narrow _ _ _ (fold-placed Counting left.start (node.Cast to e) ∙ fold-Cast Counting to e) (max_within _ _ _ (whole_width t) (width_of_expression p))
  width_of_expression (is.step_after {op} {e} _ p _) = narrow _ _ _ (fold-placed Counting e.at (node.Post e op.text) ∙ fold-Post Counting e op.text) (width_of_primary p)
  width_of_expression (is.creation _ p) = width_of_creation p
  width_of_expression (is.primary p) = width_of_primary p

  width_of_primary : {limit h : ℕ} {shape : Shape} {e : Expr} {ts : List Token} → Primary limit shape h e ts → expr_width e ≤ limit
  width_of_primary {limit} (is.literal {t} _) = narrow _ 0 limit (fold-placed Counting t.start (node.Lit t.text) ∙ fold-Lit Counting t.text) (omega arith)
  width_of_primary {limit} (is.this {t} _) = narrow _ 0 limit (fold-placed Counting t.start node.This ∙ fold-This Counting) (omega arith)
  width_of_primary (is.paren {left} {e = e} _ p _) = narrow _ _ _ (fold-placed Counting left.start (node.Paren e) ∙ fold-Paren Counting e) (width_of_expression p)
  width_of_primary {limit} (is.name {t} _) = narrow _ 0 limit (fold-placed Counting t.start (node.Name t.text) ∙ fold-Name Counting t.text) (omega arith)
  width_of_primary (is.field {t = t} {e} p _ _) = narrow _ _ _ (fold-placed Counting e.at (node.Dot e t.text) ∙ fold-Dot Counting e t.text) (width_before_dot p)
  width_of_primary (is.index {e = e} {i} p _ q _) = narrow _ _ _ (fold-placed Counting e.at (node.Index e i) ∙ fold-Index Counting e i) (max_within _ _ _ (width_of_primary p) (width_of_expression q))
  width_of_primary (is.call_on {t = t} {e} {args} p _ _ q) =
      narrow _ _ _ (fold-placed Counting e.at (node.Call (Some e) t.text args) ∙ fold-Call Counting (Some e) t.text args) (max_within _ _ _ (width_before_dot p) (width_of_arguments q))
  width_of_primary {limit} (is.call {t} {args} _ q) = narrow _ _ _ (fold-placed Counting t.start (node.Call None t.text args) ∙ fold-Call Counting None t.text args) (max_within 0 _ limit (omega arith) (width_of_arguments q))
  width_of_primary (is.super_call {word} {t = t} {args} _ _ _ q) = narrow _ _ _ (fold-placed Counting word.start (node.SuperCall t.text args) ∙ fold-SuperCall Counting t.text args) (width_of_arguments q)
  width_of_primary (is.new {word} {q} {args} _ _ p) = narrow _ _ _ (fold-placed Counting word.start (node.New (ty.Named q) args) ∙ fold-New Counting (ty.Named q) args) (width_of_arguments p)

  width_before_dot : {limit h : ℕ} {e : Expr} {ts : List Token} → BeforeDot limit h e ts → expr_width e ≤ limit
  width_before_dot (is.primary_before_dot p) = width_of_primary p
  width_before_dot (is.array_before_dot p) = width_of_creation p

  width_of_creation : {limit h : ℕ} {e : Expr} {ts : List Token} → ArrayCreation limit h e ts → expr_width e ≤ limit
  width_of_creation {limit} (is.sized {n} {word = word} {base} {sizes} _ _ p _ few) =
      narrow _ _ _ (fold-placed Counting word.start (node.NewArray base sizes n) ∙ fold-NewArray Counting base sizes n)
      (max_within _ _ _ (let many : length (map expr_width sizes) + n ≤ limit = rw (length-map sizes expr_width) few in many) (width_of_sizes p))
  width_of_creation {limit} (is.filled {n} {word = word} {base} {items} _ b _ few p) =
      narrow _ _ _ (fold-placed Counting word.start (node.ArrayLit (array_of (suc n) base) items) ∙ fold-ArrayLit Counting (array_of (suc n) base) items)
      (max_within _ _ _ (narrow (type_width (array_of (suc n) base)) (suc n) limit (array_width (suc n) b) few) (width_of_items p))

  width_of_sizes : {limit h : ℕ} {es : List Expr} {ts : List Token} → Sizes limit h es ts → tallest (map expr_width es) ≤ limit
  width_of_sizes (is.last_size _ p _) = max_within _ 0 _ (width_of_expression p) (omega arith)
  width_of_sizes (is.more_sizes _ p _ q) = max_within _ _ _ (width_of_expression p) (width_of_sizes q)

  pub width_of_arguments : {limit h : ℕ} {es : List Expr} {ts : List Token} → Arguments limit h es ts → counted (map expr_width es) ≤ limit
  width_of_arguments {limit} (is.no_arguments _ _) = max_within 0 0 limit (omega arith) (omega arith)
  width_of_arguments {limit} (is.some_arguments {es = es} _ p _ few) = counted_within es limit few (width_of_listed p)

  pub width_of_listed : {limit h : ℕ} {es : List Expr} {ts : List Token} → Listed limit h es ts → tallest (map expr_width es) ≤ limit
  width_of_listed (is.last_listed p) = max_within _ 0 _ (width_of_expression p) (omega arith)
  width_of_listed (is.more_listed p _ q) = max_within _ _ _ (width_of_expression p) (width_of_listed q)

  pub width_of_init : {limit h : ℕ} {e : Expr} {ts : List Token} → Init limit h e ts → expr_width e ≤ limit
  width_of_init (is.value p) = width_of_expression p
  width_of_init (is.braces {items} p) = narrow _ _ _ (fold-placed Counting _ (node.Braces items) ∙ fold-Braces Counting items) (width_of_items p)

  width_of_items : {limit h : ℕ} {es : List Expr} {ts : List Token} → Items limit h es ts → tallest (map expr_width es) ≤ limit
  width_of_items (is.no_items _ _) = omega arith
  width_of_items (is.some_items _ p _) = width_of_inits p
  width_of_items (is.items_comma _ p _ _) = width_of_inits p

  width_of_inits : {limit h : ℕ} {es : List Expr} {ts : List Token} → Inits limit h es ts → tallest (map expr_width es) ≤ limit
  width_of_inits (is.last_item p) = max_within _ 0 _ (width_of_init p) (omega arith)
  width_of_inits (is.more_items p _ q) = max_within _ _ _ (width_of_init p) (width_of_inits q)
