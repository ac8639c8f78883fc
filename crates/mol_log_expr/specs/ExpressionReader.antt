-- The word form of expressions as a function.
use Rattle.std.specs.Prelude.{ℕ, zero, suc, nat_lt, List, [], length}
use Rattle.mol_base.specs.Spelled.{id_of}
use Rattle.mol_base.specs.declared.ident.Id.{Id}
use Rattle.mol_values_types.specs.declared.iexpr.Argument.{Argument}
use Rattle.mol_values_types.specs.declared.iexpr.IExpr.{IExpr}
use Rattle.mol_values_types.specs.declared.iexpr.IExpr.TheVariants as exprs
use Rattle.mol_log_words.specs.Words.{has_form, count_of, pairs_of}
use Rattle.mol_log_words.specs.Types.{most_dimensions}
use Rattle.mol_log_expr.specs.Scope.{local_of, any}
use Rattle.mol_log_words.specs.Reader.{Parser, ◌>>=◌, pure, refuse, take, passing, repeat}
use Rattle.mol_log_expr.specs.ExpressionHeads.{head_of, unary_form}
use Rattle.mol_log_expr.specs.Expressions.{argument_of}
pub use Rattle.mol_log_expr.specs.Expressions.{operand_role}
use Rattle.mol_log_words.specs.TypeReader.{type_name}
use Rattle.mol_log_words.specs.declared.bounds.Bounds.{Bounds}
use Rattle.mol_log_words.specs.declared.bounds.Bounds.TheVariants.{Few, Sizes, Any}
use Rattle.mol_log_expr.specs.declared.expr_role.ExprRole.{ExprRole}
use Rattle.mol_log_expr.specs.declared.expr_role.ExprRole.TheVariants.{Value, First, Target}
use Rattle.mol_log_words.specs.declared.type_role.TypeRole.TheVariants as type_role
use Rattle.mol_log_words.specs.declared.text_form.TextForm.TheVariants as form
use Rattle.mol_log_expr.specs.declared.expr_head.Head.{Head}
use Rattle.mol_log_expr.specs.declared.expr_head.Head.TheVariants.{Leaf, Call, Outside, Items, Operator, Part}
use Rattle.mol_log_expr.specs.declared.expr_head.LeafHead.{LeafHead}
use Rattle.mol_log_expr.specs.declared.expr_head.LeafHead.TheVariants as leaf
use Rattle.mol_log_expr.specs.declared.expr_head.CallHead.{CallHead}
use Rattle.mol_log_expr.specs.declared.expr_head.CallHead.TheVariants as call
use Rattle.mol_log_expr.specs.declared.expr_head.OutsideHead.{OutsideHead}
use Rattle.mol_log_expr.specs.declared.expr_head.OutsideHead.TheVariants as outside
use Rattle.mol_log_expr.specs.declared.expr_head.ItemsHead.{ItemsHead}
use Rattle.mol_log_expr.specs.declared.expr_head.ItemsHead.TheVariants as items
use Rattle.mol_log_expr.specs.declared.expr_head.OperatorHead.{OperatorHead}
use Rattle.mol_log_expr.specs.declared.expr_head.OperatorHead.TheVariants as operator
use Rattle.mol_log_expr.specs.declared.expr_head.PartHead.{PartHead}
use Rattle.mol_log_expr.specs.declared.expr_head.PartHead.TheVariants as part

-- an expression that holds no other, after its first word
abbrev pub leaf_by : List ℕ → LeafHead → Parser IExpr
leaf_by scope leaf.Lit = do
  t ← take (passing (has_form form.Literal))
  pure (exprs.Lit t)
leaf_by scope leaf.This = pure exprs.This
leaf_by scope leaf.Local = do
  n ← take (local_of scope)
  pure (exprs.Local n)
leaf_by scope leaf.Param = do
  id ← take id_of
  pure (exprs.Param id)
leaf_by scope leaf.Own = do
  id ← take id_of
  pure (exprs.Own id)
leaf_by scope leaf.StaticField = do
  id ← take id_of
  pure (exprs.StaticField id)
leaf_by scope leaf.NewDefault = do
  id ← take id_of
  pure (exprs.NewDefault id)
leaf_by scope leaf.OutsideName = do
  t ← take (passing (has_form form.Name))
  pure (exprs.OutsideName t)
leaf_by scope leaf.OutsideClass = do
  t ← take (passing (has_form form.Dotted))
  pure (exprs.OutsideClass t)

-- `expr` reads expressions no higher than d
module _ (d : ℕ) (expr : ExprRole → Parser IExpr) where
  abbrev pub argument : Parser Argument
  argument = do
    id ← take id_of
    e ← expr Value
    pure (argument_of id e)

  abbrev pub arguments : Parser (List Argument)
  arguments = do
    n ← take (count_of Few (nat_lt 0 d))
    repeat argument n []

  abbrev pub exprs_in : Bounds → ExprRole → Parser (List IExpr)
  exprs_in bounds role = do
    n ← take (count_of bounds (nat_lt 0 d))
    repeat (expr role) n []

  -- a call of this method, after the method's word
  abbrev pub called_by : Id → CallHead → Parser IExpr
  called_by id call.Own = do
    args ← arguments
    pure (exprs.Call id args)
  called_by id call.Static = do
    args ← arguments
    pure (exprs.StaticCall id args)
  called_by id call.On = do
    e ← expr Value
    args ← arguments
    pure (exprs.CallOn id e args)
  called_by id call.Super = do
    args ← arguments
    pure (exprs.SuperCall id args)
  called_by id call.New = do
    args ← arguments
    pure (exprs.New id args)

  abbrev pub call_by : CallHead → Parser IExpr
  call_by head = do
    id ← take id_of
    called_by id head

  abbrev pub outside_by : OutsideHead → Parser IExpr
  outside_by outside.Own = do
    t ← take (passing (has_form form.Name))
    es ← exprs_in Few Value
    pure (exprs.OutsideCall t es)
  outside_by outside.On = do
    t ← take (passing (has_form form.Name))
    e ← expr Value
    es ← exprs_in Few Value
    pure (exprs.OutsideCallOn t e es)
  outside_by outside.Super = do
    t ← take (passing (has_form form.Name))
    es ← exprs_in Few Value
    pure (exprs.OutsideSuperCall t es)
  outside_by outside.New = do
    t ← type_name type_role.Outside most_dimensions
    es ← exprs_in Few Value
    pure (exprs.NewOutside t es)

  abbrev pub items_by : ItemsHead → Parser IExpr
  items_by items.NewArray = do
    t ← type_name type_role.Item most_dimensions
    es ← exprs_in Sizes Value
    n ← take (pairs_of (length es))
    pure (exprs.NewArray t es n)
  items_by items.ArrayLit = do
    t ← type_name type_role.Array most_dimensions
    es ← exprs_in Any First
    pure (exprs.ArrayLit t es)
  items_by items.Braces = do
    es ← exprs_in Any First
    pure (exprs.Braces es)
  items_by items.Index = do
    a ← expr Value
    i ← expr Value
    pure (exprs.Index a i)

  abbrev pub unary_by : ExprRole → Parser IExpr
  unary_by role = do
    op ← take (passing (has_form (unary_form role)))
    e ← expr (operand_role op)
    pure (exprs.Unary op e)

  abbrev pub operator_by : ExprRole → OperatorHead → Parser IExpr
  operator_by role operator.Unary = unary_by role
  operator_by role operator.Post = do
    op ← take (passing (has_form form.Step))
    e ← expr Target
    pure (exprs.Post op e)
  operator_by role operator.Binary = do
    op ← take (passing (has_form form.Binary))
    a ← expr Value
    b ← expr Value
    pure (exprs.Binary op a b)
  operator_by role operator.Assign = do
    op ← take (passing (has_form form.Assignment))
    a ← expr Target
    b ← expr Value
    pure (exprs.Assign op a b)
  operator_by role operator.Cond = do
    c ← expr Value
    a ← expr Value
    b ← expr Value
    pure (exprs.Cond c a b)

  abbrev pub part_by : PartHead → Parser IExpr
  part_by part.Field = do
    id ← take id_of
    e ← expr Value
    pure (exprs.Field id e)
  part_by part.OutsideField = do
    t ← take (passing (has_form form.Name))
    e ← expr Value
    pure (exprs.OutsideField t e)
  part_by part.Cast = do
    t ← type_name type_role.Value most_dimensions
    e ← expr Value
    pure (exprs.Cast t e)
  part_by part.InstanceOf = do
    e ← expr Value
    t ← type_name type_role.Value most_dimensions
    pure (exprs.InstanceOf e t)

  abbrev pub expr_by : List ℕ → ExprRole → Head → Parser IExpr
  expr_by scope role (Leaf head) = leaf_by scope head
  expr_by scope role (Call head) = call_by head
  expr_by scope role (Outside head) = outside_by head
  expr_by scope role (Items head) = items_by head
  expr_by scope role (Operator head) = operator_by role head
  expr_by scope role (Part head) = part_by head

-- an expression that may stand here, no higher than d, whose locals are among scope
unfoldable pub expr : ℕ → List ℕ → ExprRole → Parser IExpr
expr zero scope role = refuse
expr (suc d) scope role = take (head_of role d (any scope)) >>= expr_by d (expr d scope) scope role
