-- Expressions of how their parts are written.
use Rattle.std.specs.Prelude.{List, length, None, Some, if◌then◌else◌}
use Rattle.mol_base.specs.declared.ident.Id.{Id}
use Rattle.mol_values_types.specs.declared.iexpr.Argument.{Argument}
use Rattle.mol_values_types.specs.declared.iexpr.IExpr.{IExpr}
use Rattle.jav_tree.specs.declared.expr.Expr.{Expr}
use Rattle.jav_tree.specs.declared.expr.ExprNode.TheVariants as node
use Rattle.jav_tree.specs.declared.types.TypeName.TheVariants as types
use Rattle.mol_resolve_rules.specs.Locals.{Locals}
use Rattle.mol_spell_rules.specs.SpelledExpressions.{SpelledExpr, call_form, constructor_text, dot_tree, field_tree, made, name_of, own_form, spelled_expr, static_call_form, type_here}
use Rattle.mol_spell_rules.specs.Writers.{Writer}
use Rattle.mol_spell_expr.specs.Calls.{call_node, receiver}
use Rattle.mol_spell_expr.specs.declared.listed.Listed.{Listed}
use Rattle.mol_spell_expr.specs.declared.listed.Listed.TheVariants as listed
use Rattle.mol_spell_expr.specs.declared.operators.Binary.{Binary}
use Rattle.mol_spell_expr.specs.declared.operators.Binary.TheVariants as binary
use Rattle.mol_spell_expr.specs.declared.operands.Unary.{Unary}
use Rattle.mol_spell_expr.specs.declared.operands.Unary.TheVariants as unary

-- over two operands
abbrev pub over_operands : Binary → Expr → Expr → Expr
over_operands (binary.Operator op) a b = made (node.Binary a op.now b)
over_operands (binary.Assignment op) a b = made (node.Assign a op.now b)
over_operands binary.Index a b = made (node.Index a b)

-- in this file and place, with these locals
module _ (writer : Writer) (locals : Locals Id) where
  abbrev pub tree_of : IExpr → Expr
  tree_of e = (spelled_expr writer locals e).tree

  -- of an argument the value
  abbrev pub argument_tree : Argument → Expr
  argument_tree argument = tree_of argument.value

  -- what stands over one operand
  abbrev pub over_operand : Unary → Expr → Expr
  over_operand (unary.Dot name) e = dot_tree e name.now
  over_operand (unary.Prefix op) e = made (node.Unary op.now e)
  over_operand (unary.Postfix op) e = made (node.Post e op.now)
  over_operand (unary.Cast type) e = made (node.Cast (type_here writer locals type.now).tree e)
  over_operand (unary.InstanceOf type) e = made (node.InstanceOf e (type_here writer locals type.now).tree)

  -- ---- members of `this`, static ones, and those of what an expression gives

  abbrev pub own_call : Id → List Expr → Expr
  own_call method args =
      call_node (receiver writer locals (call_form writer locals method (length args))) (name_of writer locals method) args

  abbrev pub static_call : Id → List Expr → Expr
  static_call method args =
      call_node (receiver writer locals (static_call_form writer locals method (length args))) (name_of writer locals method) args

  abbrev pub field_on : Id → SpelledExpr → Expr
  field_on field e =
      if e.is_this then field_tree writer locals (own_form writer locals field) field else dot_tree e.tree (name_of writer locals field)

  abbrev pub method_on : Id → SpelledExpr → List Expr → Expr
  method_on method e args = if e.is_this then own_call method args else call_node (Some e.tree) (name_of writer locals method) args

  -- ---- over any number of expressions

  abbrev pub over_list : Listed → List Expr → Expr
  over_list (listed.Own method) args = own_call method.now args
  over_list (listed.Static method) args = static_call method.now args
  over_list (listed.Outside name) args = call_node None name.now args
  over_list (listed.Super name) args = made (node.SuperCall name.now args)
  over_list (listed.New constructor) args = made (node.New (types.Named (constructor_text writer locals constructor.now)) args)
  over_list (listed.NewOutside type) args = made (node.New (type_here writer locals type.now).tree args)
  over_list (listed.NewArray type pairs) sizes = made (node.NewArray (type_here writer locals type.now).tree sizes pairs)
  over_list (listed.ArrayLit type) items = made (node.ArrayLit (type_here writer locals type.now).tree items)
  over_list listed.Braces items = made (node.Braces items)
