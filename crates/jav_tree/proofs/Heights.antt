-- The height that the grammar gives an expression is the height of its tree.
use Rattle.std.proofs.Common.{◌≡◌, ℕ, suc, max, min, List, map, option_map, Option, Some, None, refl, sym, ap, ◌∙◌, arith}
use Rattle.jav_tree.specs.declared.types.TypeName.{TypeName}
use Rattle.jav_tree.specs.declared.expr.Expr.{Expr}
use Rattle.jav_tree.specs.declared.expr.ExprNode.{ExprNode}
use Rattle.jav_tree.specs.declared.expr.ExprNode.TheVariants as node
use Rattle.jav_tree.specs.declared.expr.ExprNode.TheOpen.{ExprNode-F}
use Rattle.jav_tree.specs.declared.expr.ExprNode.TheFolds.{fold-roll-ExprNode, fold-roll-Expr}
use Rattle.jav_tree.specs.Height.{above, tallest, tallest_maybe, expr_height, expr_node_height, expr_node_step, expr_step}
use Rattle.mol_base.specs.Token.{Token}
use Rattle.jav_tree.specs.Expressions.{Expression, Shape, Primary, BeforeDot, ArrayCreation, Sizes, Arguments, Listed, Init, Items, Inits, expr_at}
use Rattle.jav_tree.specs.Expressions as is

-- a height as far as a u32 counts
abbrev pub capped : ℕ → ℕ
capped h = min h 0xffff_ffff

pub of_expr_at : (at : ℕ) (n : ExprNode) → expr_height (expr_at at n) ≡ expr_node_height n
of_expr_at at n = fold-roll-Expr _ _ expr_node_step expr_step (record { at = at; node = n })

of-Lit : (at : ℕ) (x0 : List ℕ) → expr_height (expr_at at (node.Lit x0)) ≡ 1
of-Lit at x0 = of_expr_at at (node.Lit x0) ∙ (ap expr_node_height (sym (node.rolls-Lit x0)) ∙ fold-roll-ExprNode _ _ expr_node_step expr_step (ExprNode-F.Lit x0))

of-This : (at : ℕ) → expr_height (expr_at at node.This) ≡ 1
of-This at = of_expr_at at node.This ∙ (ap expr_node_height (sym node.rolls-This) ∙ fold-roll-ExprNode _ _ expr_node_step expr_step ExprNode-F.This)

of-Name : (at : ℕ) (x0 : List ℕ) → expr_height (expr_at at (node.Name x0)) ≡ 1
of-Name at x0 = of_expr_at at (node.Name x0) ∙ (ap expr_node_height (sym (node.rolls-Name x0)) ∙ fold-roll-ExprNode _ _ expr_node_step expr_step (ExprNode-F.Name x0))

of-Dot : (at : ℕ) (x0 : Expr) (x1 : List ℕ) → expr_height (expr_at at (node.Dot x0 x1)) ≡ above (expr_height x0)
of-Dot at x0 x1 = of_expr_at at (node.Dot x0 x1) ∙ (ap expr_node_height (sym (node.rolls-Dot x0 x1)) ∙ fold-roll-ExprNode _ _ expr_node_step expr_step (ExprNode-F.Dot x0 x1))

of-Call : (at : ℕ) (x0 : Option Expr) (x1 : List ℕ) (x2 : List Expr) → expr_height (expr_at at (node.Call x0 x1 x2)) ≡ above (max (tallest_maybe (option_map expr_height x0)) (tallest (map expr_height x2)))
of-Call at None x1 x2 = of_expr_at at (node.Call None x1 x2) ∙ (ap expr_node_height (sym (node.rolls-Call None x1 x2)) ∙ fold-roll-ExprNode _ _ expr_node_step expr_step (ExprNode-F.Call None x1 x2))
of-Call at (Some e) x1 x2 = of_expr_at at (node.Call (Some e) x1 x2) ∙ (ap expr_node_height (sym (node.rolls-Call (Some e) x1 x2)) ∙ fold-roll-ExprNode _ _ expr_node_step expr_step (ExprNode-F.Call (Some e) x1 x2))

of-SuperCall : (at : ℕ) (x0 : List ℕ) (x1 : List Expr) → expr_height (expr_at at (node.SuperCall x0 x1)) ≡ above (tallest (map expr_height x1))
of-SuperCall at x0 x1 = of_expr_at at (node.SuperCall x0 x1) ∙ (ap expr_node_height (sym (node.rolls-SuperCall x0 x1)) ∙ fold-roll-ExprNode _ _ expr_node_step expr_step (ExprNode-F.SuperCall x0 x1))

of-New : (at : ℕ) (x0 : TypeName) (x1 : List Expr) → expr_height (expr_at at (node.New x0 x1)) ≡ above (tallest (map expr_height x1))
of-New at x0 x1 = of_expr_at at (node.New x0 x1) ∙ (ap expr_node_height (sym (node.rolls-New x0 x1)) ∙ fold-roll-ExprNode _ _ expr_node_step expr_step (ExprNode-F.New x0 x1))

of-NewArray : (at : ℕ) (x0 : TypeName) (x1 : List Expr) (x2 : ℕ) → expr_height (expr_at at (node.NewArray x0 x1 x2)) ≡ above (tallest (map expr_height x1))
of-NewArray at x0 x1 x2 = of_expr_at at (node.NewArray x0 x1 x2) ∙ (ap expr_node_height (sym (node.rolls-NewArray x0 x1 x2)) ∙ fold-roll-ExprNode _ _ expr_node_step expr_step (ExprNode-F.NewArray x0 x1 x2))

of-ArrayLit : (at : ℕ) (x0 : TypeName) (x1 : List Expr) → expr_height (expr_at at (node.ArrayLit x0 x1)) ≡ above (tallest (map expr_height x1))
of-ArrayLit at x0 x1 = of_expr_at at (node.ArrayLit x0 x1) ∙ (ap expr_node_height (sym (node.rolls-ArrayLit x0 x1)) ∙ fold-roll-ExprNode _ _ expr_node_step expr_step (ExprNode-F.ArrayLit x0 x1))

of-Braces : (at : ℕ) (x0 : List Expr) → expr_height (expr_at at (node.Braces x0)) ≡ above (tallest (map expr_height x0))
of-Braces at x0 = of_expr_at at (node.Braces x0) ∙ (ap expr_node_height (sym (node.rolls-Braces x0)) ∙ fold-roll-ExprNode _ _ expr_node_step expr_step (ExprNode-F.Braces x0))

of-Index : (at : ℕ) (x0 : Expr) (x1 : Expr) → expr_height (expr_at at (node.Index x0 x1)) ≡ above (max (expr_height x0) (expr_height x1))
of-Index at x0 x1 = of_expr_at at (node.Index x0 x1) ∙ (ap expr_node_height (sym (node.rolls-Index x0 x1)) ∙ fold-roll-ExprNode _ _ expr_node_step expr_step (ExprNode-F.Index x0 x1))

of-Unary : (at : ℕ) (x0 : List ℕ) (x1 : Expr) → expr_height (expr_at at (node.Unary x0 x1)) ≡ above (expr_height x1)
of-Unary at x0 x1 = of_expr_at at (node.Unary x0 x1) ∙ (ap expr_node_height (sym (node.rolls-Unary x0 x1)) ∙ fold-roll-ExprNode _ _ expr_node_step expr_step (ExprNode-F.Unary x0 x1))

of-Post : (at : ℕ) (x0 : Expr) (x1 : List ℕ) → expr_height (expr_at at (node.Post x0 x1)) ≡ above (expr_height x0)
of-Post at x0 x1 = of_expr_at at (node.Post x0 x1) ∙ (ap expr_node_height (sym (node.rolls-Post x0 x1)) ∙ fold-roll-ExprNode _ _ expr_node_step expr_step (ExprNode-F.Post x0 x1))

of-Binary : (at : ℕ) (x0 : Expr) (x1 : List ℕ) (x2 : Expr) → expr_height (expr_at at (node.Binary x0 x1 x2)) ≡ above (max (expr_height x0) (expr_height x2))
of-Binary at x0 x1 x2 = of_expr_at at (node.Binary x0 x1 x2) ∙ (ap expr_node_height (sym (node.rolls-Binary x0 x1 x2)) ∙ fold-roll-ExprNode _ _ expr_node_step expr_step (ExprNode-F.Binary x0 x1 x2))

of-Assign : (at : ℕ) (x0 : Expr) (x1 : List ℕ) (x2 : Expr) → expr_height (expr_at at (node.Assign x0 x1 x2)) ≡ above (max (expr_height x0) (expr_height x2))
of-Assign at x0 x1 x2 = of_expr_at at (node.Assign x0 x1 x2) ∙ (ap expr_node_height (sym (node.rolls-Assign x0 x1 x2)) ∙ fold-roll-ExprNode _ _ expr_node_step expr_step (ExprNode-F.Assign x0 x1 x2))

of-Cond : (at : ℕ) (x0 : Expr) (x1 : Expr) (x2 : Expr) → expr_height (expr_at at (node.Cond x0 x1 x2)) ≡ above (max (expr_height x0) (max (expr_height x1) (expr_height x2)))
of-Cond at x0 x1 x2 = of_expr_at at (node.Cond x0 x1 x2) ∙ (ap expr_node_height (sym (node.rolls-Cond x0 x1 x2)) ∙ fold-roll-ExprNode _ _ expr_node_step expr_step (ExprNode-F.Cond x0 x1 x2))

of-Cast : (at : ℕ) (x0 : TypeName) (x1 : Expr) → expr_height (expr_at at (node.Cast x0 x1)) ≡ above (expr_height x1)
of-Cast at x0 x1 = of_expr_at at (node.Cast x0 x1) ∙ (ap expr_node_height (sym (node.rolls-Cast x0 x1)) ∙ fold-roll-ExprNode _ _ expr_node_step expr_step (ExprNode-F.Cast x0 x1))

of-InstanceOf : (at : ℕ) (x0 : Expr) (x1 : TypeName) → expr_height (expr_at at (node.InstanceOf x0 x1)) ≡ above (expr_height x0)
of-InstanceOf at x0 x1 = of_expr_at at (node.InstanceOf x0 x1) ∙ (ap expr_node_height (sym (node.rolls-InstanceOf x0 x1)) ∙ fold-roll-ExprNode _ _ expr_node_step expr_step (ExprNode-F.InstanceOf x0 x1))

of-Paren : (at : ℕ) (x0 : Expr) → expr_height (expr_at at (node.Paren x0)) ≡ above (expr_height x0)
of-Paren at x0 = of_expr_at at (node.Paren x0) ∙ (ap expr_node_height (sym (node.rolls-Paren x0)) ∙ fold-roll-ExprNode _ _ expr_node_step expr_step (ExprNode-F.Paren x0))

pub one_above : (h k : ℕ) → h ≡ capped k → above h ≡ capped (suc k)
one_above h k e = rw e (omega arith)

pub two_above : (h i j k : ℕ) → h ≡ capped j → i ≡ capped k → above (max h i) ≡ capped (suc (max j k))
two_above h i j k e f = rw (e, f) (omega arith)

three_above : (h i j k l m : ℕ) → h ≡ capped k → i ≡ capped l → j ≡ capped m → above (max h (max i j)) ≡ capped (suc (max k (max l m)))
three_above h i j k l m e f g = rw (e, f, g) (omega arith)

first_above : (h k : ℕ) → h ≡ capped k → above (max 0 h) ≡ capped (suc k)
first_above h k e = rw e (omega arith)

pub highest_of : (h i j k : ℕ) → h ≡ capped j → i ≡ capped k → max h i ≡ capped (max j k)
highest_of h i j k e f = rw (e, f) (omega arith)

pub only_one : (h k : ℕ) → h ≡ capped k → max h 0 ≡ capped k
only_one h k e = rw e (omega arith)

mutual
  pub height_of_expression : {limit level h : ℕ} {e : Expr} {ts : List Token} → Expression limit level h e ts → expr_height e ≡ capped h
  height_of_expression (is.assign _ p _ q) = of-Assign _ _ _ _ ∙ two_above _ _ _ _ (height_of_primary p) (height_of_expression q)
  height_of_expression (is.cond _ p _ q _ r) = of-Cond _ _ _ _ ∙ three_above _ _ _ _ _ _ (height_of_expression p) (height_of_expression q) (height_of_expression r)
  height_of_expression (is.binary _ _ p q) = of-Binary _ _ _ _ ∙ two_above _ _ _ _ (height_of_expression p) (height_of_expression q)
  height_of_expression (is.instance_of _ p _ _) = of-InstanceOf _ _ _ ∙ one_above _ _ (height_of_expression p)
  height_of_expression (is.prefix _ _ p) = of-Unary _ _ _ ∙ one_above _ _ (height_of_expression p)
  height_of_expression (is.step_before _ _ p) = of-Unary _ _ _ ∙ one_above _ _ (height_of_primary p)
  height_of_expression (is.cast _ _ _ _ _ p) = of-Cast _ _ _ ∙ one_above _ _ (height_of_expression p)
  height_of_expression (is.step_after _ p _) = of-Post _ _ _ ∙ one_above _ _ (height_of_primary p)
  height_of_expression (is.creation _ p) = height_of_creation p
  height_of_expression (is.primary p) = height_of_primary p

  height_of_primary : {limit h : ℕ} {shape : Shape} {e : Expr} {ts : List Token} → Primary limit shape h e ts → expr_height e ≡ capped h
  height_of_primary (is.literal _) = of-Lit _ _
  height_of_primary (is.this _) = of-This _
  height_of_primary (is.paren _ p _) = of-Paren _ _ ∙ one_above _ _ (height_of_expression p)
  height_of_primary (is.name _) = of-Name _ _
  height_of_primary (is.field p _ _) = of-Dot _ _ _ ∙ one_above _ _ (height_before_dot p)
  height_of_primary (is.index p _ q _) = of-Index _ _ _ ∙ two_above _ _ _ _ (height_of_primary p) (height_of_expression q)
  height_of_primary (is.call_on {t} {e} {args} p _ _ q) = of-Call e.at (Some e) t.text args ∙ two_above _ _ _ _ (height_before_dot p) (height_of_arguments q)
  height_of_primary (is.call {t} {args} _ q) = of-Call t.start None t.text args ∙ first_above _ _ (height_of_arguments q)
  height_of_primary (is.super_call _ _ _ q) = of-SuperCall _ _ _ ∙ one_above _ _ (height_of_arguments q)
  height_of_primary (is.new _ _ q) = of-New _ _ _ ∙ one_above _ _ (height_of_arguments q)

  height_before_dot : {limit h : ℕ} {e : Expr} {ts : List Token} → BeforeDot limit h e ts → expr_height e ≡ capped h
  height_before_dot (is.primary_before_dot p) = height_of_primary p
  height_before_dot (is.array_before_dot p) = height_of_creation p

  height_of_creation : {limit h : ℕ} {e : Expr} {ts : List Token} → ArrayCreation limit h e ts → expr_height e ≡ capped h
  height_of_creation (is.sized _ _ p _ _) = of-NewArray _ _ _ _ ∙ one_above _ _ (height_of_sizes p)
  height_of_creation (is.filled _ _ _ _ p) = of-ArrayLit _ _ _ ∙ one_above _ _ (height_of_items p)

  height_of_sizes : {limit h : ℕ} {es : List Expr} {ts : List Token} → Sizes limit h es ts → tallest (map expr_height es) ≡ capped h
  height_of_sizes (is.last_size _ p _) = only_one _ _ (height_of_expression p)
  height_of_sizes (is.more_sizes _ p _ q) = highest_of _ _ _ _ (height_of_expression p) (height_of_sizes q)

  pub height_of_arguments : {limit h : ℕ} {es : List Expr} {ts : List Token} → Arguments limit h es ts → tallest (map expr_height es) ≡ capped h
  height_of_arguments (is.no_arguments _ _) = refl
  height_of_arguments (is.some_arguments _ p _ _) = height_of_listed p

  pub height_of_listed : {limit h : ℕ} {es : List Expr} {ts : List Token} → Listed limit h es ts → tallest (map expr_height es) ≡ capped h
  height_of_listed (is.last_listed p) = only_one _ _ (height_of_expression p)
  height_of_listed (is.more_listed p _ q) = highest_of _ _ _ _ (height_of_expression p) (height_of_listed q)

  pub height_of_init : {limit h : ℕ} {e : Expr} {ts : List Token} → Init limit h e ts → expr_height e ≡ capped h
  height_of_init (is.value p) = height_of_expression p
  height_of_init (is.braces p) = of-Braces _ _ ∙ one_above _ _ (height_of_items p)

  height_of_items : {limit h : ℕ} {es : List Expr} {ts : List Token} → Items limit h es ts → tallest (map expr_height es) ≡ capped h
  height_of_items (is.no_items _ _) = refl
  height_of_items (is.some_items _ p _) = height_of_inits p
  height_of_items (is.items_comma _ p _ _) = height_of_inits p

  height_of_inits : {limit h : ℕ} {es : List Expr} {ts : List Token} → Inits limit h es ts → tallest (map expr_height es) ≡ capped h
  height_of_inits (is.last_item p) = only_one _ _ (height_of_init p)
  height_of_inits (is.more_items p _ q) = highest_of _ _ _ _ (height_of_init p) (height_of_inits q)
