-- Expressions by the parts that are read for them.
use Rattle.std.specs.Prelude.{ℕ, ◌∷◌, List, length, map, None, Some}
use Rattle.jav_tree.specs.declared.expr.Expr.{Expr}
use Rattle.jav_tree.specs.declared.expr.ExprNode.TheOpen.{ExprNode-F}
use Rattle.jav_names.specs.DottedNames.{Name, Names}
use Rattle.jav_names.specs.UnitViews.{MemberKey}
use Rattle.mol_resolve_expr.specs.declared.binary.Binary.{Binary}
use Rattle.mol_resolve_expr.specs.declared.binary.Binary.TheVariants as binary
use Rattle.mol_resolve_expr.specs.declared.listed.Listed.{Listed}
use Rattle.mol_resolve_expr.specs.declared.listed.Listed.TheVariants as listed
use Rattle.mol_resolve_expr.specs.declared.unary.Unary.{Unary}
use Rattle.mol_resolve_expr.specs.declared.unary.Unary.TheVariants as unary
use Rattle.mol_resolve_rules.specs.Locals.{Locals}
use Rattle.mol_resolve_rules.specs.Outcomes.{Outcome, silent}
use Rattle.mol_resolve_rules.specs.Readers.{Reader}
use Rattle.mol_resolve_rules.specs.ReadTrees.{Meant, Mode, Reading, whole_path, followers, path_of, reading, alone, values_of, dot_meant, call_meant, choice, node_meant}
use Rattle.mol_values_types.specs.declared.iexpr.IExpr.{IExpr}

-- an expression of one level, of how its parts read
abbrev pub Node : Type 0
Node = ExprNode-F (ℕ → Reading ℕ) (Reading ℕ)

module _ (reader : Reader ℕ MemberKey) (locals : Locals ℕ) where
  -- an expression that stands alone
  abbrev pub alone_of : Expr → Outcome (Meant ℕ)
  alone_of e = alone reader locals (reading reader e)

  -- an expression before a dot and these names
  abbrev pub before_of : Expr → Names → Outcome (Meant ℕ)
  before_of e follow = (reading reader e).means locals (Some follow)

  abbrev pub all_of : List Expr → Outcome (List IExpr)
  all_of es = values_of reader locals (map (reading reader) es)

  -- an expression of these parts, at a place, that stands alone
  abbrev pub node_of : Node → ℕ → Outcome (Meant ℕ)
  node_of node at = node_meant reader node at locals None

  -- a name after an expression and a dot
  abbrev pub dot_of : Expr → Name → Mode → ℕ → Outcome (Meant ℕ)
  dot_of e name mode at =
      dot_meant reader at name mode (before_of e (name ∷ followers mode))
      (path_of reader locals (reading reader e).names (name ∷ followers mode))

-- a choice of its test and its two values
abbrev pub choice_of : Reader ℕ MemberKey → Meant ℕ × (Meant ℕ × Meant ℕ) → Meant ℕ
choice_of reader parts = choice reader parts.0 parts.1.0 parts.1.1

-- what stands over one operand
abbrev pub over_operand : Unary → Reading ℕ → Node
over_operand (unary.Prefix op) operand = ExprNode-F.Unary op.now operand
over_operand (unary.Postfix op) operand = ExprNode-F.Post operand op.now
over_operand (unary.Cast type) operand = ExprNode-F.Cast type.now operand
over_operand (unary.InstanceOf type) operand = ExprNode-F.InstanceOf operand type.now

-- over two; of an item of an array the index comes first
abbrev pub over_operands : Binary → Reading ℕ → Reading ℕ → Node
over_operands (binary.Operator op) left right = ExprNode-F.Binary left op.now right
over_operands (binary.Assignment op) left right = ExprNode-F.Assign left op.now right
over_operands binary.Index index array = ExprNode-F.Index array index

-- over any number of expressions
module _ (reader : Reader ℕ MemberKey) (locals : Locals ℕ) where
  abbrev pub over_list : Listed → List (Reading ℕ) → ℕ → Outcome (Meant ℕ)
  over_list (listed.Call name) args at = node_of reader locals (ExprNode-F.Call None name.now args) at
  -- what a call comes to where the names before it spell a class
  over_list (listed.Through class name) args at =
      call_meant reader at name.now (length args) silent (values_of reader locals args) (whole_path class)
  over_list (listed.SuperCall name) args at = node_of reader locals (ExprNode-F.SuperCall name.now args) at
  over_list (listed.New type) args at = node_of reader locals (ExprNode-F.New type.now args) at
  over_list (listed.NewArray type pairs) sizes at = node_of reader locals (ExprNode-F.NewArray type.now sizes pairs) at
  over_list (listed.ArrayLit type) items at = node_of reader locals (ExprNode-F.ArrayLit type.now items) at
  over_list listed.Braces items at = node_of reader locals (ExprNode-F.Braces items) at
