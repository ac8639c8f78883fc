-- What an expression mentions, by what it is.
use Rattle.std.proofs.Common.{◌≡◌, ℕ, List, [], ◌∷◌, ◌++◌, refl, sym, ap, ◌∙◌}
use Rattle.mol_base.specs.declared.ident.Id.{Id}
use Rattle.mol_faults_mentions.specs.mentions.Parts.{argument_mentions, each_argument, each_expr}
use Rattle.mol_table_rules.specs.Mentions.{Mention, a_class, a_field, a_called_method, a_static_method, a_constructor, a_param, named, type_mentions, expr_step, argument_step, expr_mentions, exprs_mentions, arguments_mentions}
use Rattle.mol_values_types.specs.declared.iexpr.Argument.{Argument}
use Rattle.mol_values_types.specs.declared.iexpr.IExpr.{IExpr}
use Rattle.mol_values_types.specs.declared.iexpr.IExpr.TheFolds.{fold-roll-IExpr, fold-roll-Argument, map-IExpr}
use Rattle.mol_values_types.specs.declared.iexpr.IExpr.TheOpen.{IExpr-F}
use Rattle.mol_values_types.specs.declared.iexpr.IExpr.TheVariants as exprs
use Rattle.mol_values_types.specs.declared.iexpr.IExpr.TheViews.{roll-IExpr}
use Rattle.mol_values_types.specs.declared.itype.IType.{IType}

abbrev Name : Type 0
Name = List ℕ

-- what the value of an argument does
pub mentions-argument : (argument : Argument) → argument_mentions argument ≡ expr_mentions argument.value
mentions-argument argument =
    fold-roll-Argument (List Mention) (List Mention) expr_step argument_step (record { param = argument.param; value = argument.value })

module _ (e : IExpr) where
  by_node : (x : IExpr-F IExpr Argument) → e ≡ roll-IExpr x
      → expr_mentions e ≡ expr_step (map-IExpr _ _ _ _ expr_mentions argument_mentions x)
  by_node x is = ap expr_mentions is ∙ fold-roll-IExpr (List Mention) (List Mention) expr_step argument_step x

  pub mentions-Lit : (text : Name) → e ≡ exprs.Lit text → expr_mentions e ≡ []
  mentions-Lit text is = by_node (IExpr-F.Lit text) (is ∙ sym (exprs.rolls-Lit text))

  pub mentions-This : e ≡ exprs.This → expr_mentions e ≡ []
  mentions-This is = by_node IExpr-F.This (is ∙ sym exprs.rolls-This)

  pub mentions-Local : (number : ℕ) → e ≡ exprs.Local number → expr_mentions e ≡ []
  mentions-Local number is = by_node (IExpr-F.Local number) (is ∙ sym (exprs.rolls-Local number))

  pub mentions-Param : (id : Id) → e ≡ exprs.Param id → expr_mentions e ≡ named a_param id
  mentions-Param id is = by_node (IExpr-F.Param id) (is ∙ sym (exprs.rolls-Param id))

  pub mentions-Own : (field : Id) → e ≡ exprs.Own field → expr_mentions e ≡ named a_field field
  mentions-Own field is = by_node (IExpr-F.Own field) (is ∙ sym (exprs.rolls-Own field))

  pub mentions-StaticField : (field : Id) → e ≡ exprs.StaticField field → expr_mentions e ≡ named a_field field
  mentions-StaticField field is = by_node (IExpr-F.StaticField field) (is ∙ sym (exprs.rolls-StaticField field))

  pub mentions-Field : (field : Id) (on : IExpr) → e ≡ exprs.Field field on → expr_mentions e ≡ named a_field field ++ expr_mentions on
  mentions-Field field on is = by_node (IExpr-F.Field field on) (is ∙ sym (exprs.rolls-Field field on))

  pub mentions-Call : (method : Id) (args : List Argument)
      → e ≡ exprs.Call method args → expr_mentions e ≡ named a_called_method method ++ each_argument args
  mentions-Call method args is = by_node (IExpr-F.Call method args) (is ∙ sym (exprs.rolls-Call method args))

  pub mentions-StaticCall : (method : Id) (args : List Argument)
      → e ≡ exprs.StaticCall method args → expr_mentions e ≡ named a_static_method method ++ each_argument args
  mentions-StaticCall method args is = by_node (IExpr-F.StaticCall method args) (is ∙ sym (exprs.rolls-StaticCall method args))

  pub mentions-CallOn : (method : Id) (on : IExpr) (args : List Argument)
      → e ≡ exprs.CallOn method on args → expr_mentions e ≡ named a_called_method method ++ expr_mentions on ++ each_argument args
  mentions-CallOn method on args is = by_node (IExpr-F.CallOn method on args) (is ∙ sym (exprs.rolls-CallOn method on args))

  pub mentions-SuperCall : (method : Id) (args : List Argument)
      → e ≡ exprs.SuperCall method args → expr_mentions e ≡ named a_called_method method ++ each_argument args
  mentions-SuperCall method args is = by_node (IExpr-F.SuperCall method args) (is ∙ sym (exprs.rolls-SuperCall method args))

  pub mentions-New : (constructor : Id) (args : List Argument)
      → e ≡ exprs.New constructor args → expr_mentions e ≡ named a_constructor constructor ++ each_argument args
  mentions-New constructor args is = by_node (IExpr-F.New constructor args) (is ∙ sym (exprs.rolls-New constructor args))

  pub mentions-NewDefault : (class : Id) → e ≡ exprs.NewDefault class → expr_mentions e ≡ named a_class class
  mentions-NewDefault class is = by_node (IExpr-F.NewDefault class) (is ∙ sym (exprs.rolls-NewDefault class))

  pub mentions-Cond : (test : IExpr) (a : IExpr) (b : IExpr)
      → e ≡ exprs.Cond test a b → expr_mentions e ≡ expr_mentions test ++ expr_mentions a ++ expr_mentions b
  mentions-Cond test a b is = by_node (IExpr-F.Cond test a b) (is ∙ sym (exprs.rolls-Cond test a b))

  pub mentions-OutsideName : (name : Name) → e ≡ exprs.OutsideName name → expr_mentions e ≡ []
  mentions-OutsideName name is = by_node (IExpr-F.OutsideName name) (is ∙ sym (exprs.rolls-OutsideName name))

  pub mentions-OutsideClass : (full : Name) → e ≡ exprs.OutsideClass full → expr_mentions e ≡ []
  mentions-OutsideClass full is = by_node (IExpr-F.OutsideClass full) (is ∙ sym (exprs.rolls-OutsideClass full))

  pub mentions-OutsideField : (name : Name) (on : IExpr) → e ≡ exprs.OutsideField name on → expr_mentions e ≡ expr_mentions on
  mentions-OutsideField name on is = by_node (IExpr-F.OutsideField name on) (is ∙ sym (exprs.rolls-OutsideField name on))

  pub mentions-OutsideCall : (name : Name) (args : List IExpr) → e ≡ exprs.OutsideCall name args → expr_mentions e ≡ each_expr args
  mentions-OutsideCall name args is = by_node (IExpr-F.OutsideCall name args) (is ∙ sym (exprs.rolls-OutsideCall name args))

  pub mentions-OutsideCallOn : (name : Name) (on : IExpr) (args : List IExpr)
      → e ≡ exprs.OutsideCallOn name on args → expr_mentions e ≡ expr_mentions on ++ each_expr args
  mentions-OutsideCallOn name on args is = by_node (IExpr-F.OutsideCallOn name on args) (is ∙ sym (exprs.rolls-OutsideCallOn name on args))

  pub mentions-OutsideSuperCall : (name : Name) (args : List IExpr)
      → e ≡ exprs.OutsideSuperCall name args → expr_mentions e ≡ each_expr args
  mentions-OutsideSuperCall name args is = by_node (IExpr-F.OutsideSuperCall name args) (is ∙ sym (exprs.rolls-OutsideSuperCall name args))

  pub mentions-NewOutside : (type : IType) (args : List IExpr)
      → e ≡ exprs.NewOutside type args → expr_mentions e ≡ type_mentions type ++ each_expr args
  mentions-NewOutside type args is = by_node (IExpr-F.NewOutside type args) (is ∙ sym (exprs.rolls-NewOutside type args))

  pub mentions-NewArray : (type : IType) (sizes : List IExpr) (pairs : ℕ)
      → e ≡ exprs.NewArray type sizes pairs → expr_mentions e ≡ type_mentions type ++ each_expr sizes
  mentions-NewArray type sizes pairs is = by_node (IExpr-F.NewArray type sizes pairs) (is ∙ sym (exprs.rolls-NewArray type sizes pairs))

  pub mentions-ArrayLit : (type : IType) (items : List IExpr)
      → e ≡ exprs.ArrayLit type items → expr_mentions e ≡ type_mentions type ++ each_expr items
  mentions-ArrayLit type items is = by_node (IExpr-F.ArrayLit type items) (is ∙ sym (exprs.rolls-ArrayLit type items))

  pub mentions-Braces : (items : List IExpr) → e ≡ exprs.Braces items → expr_mentions e ≡ each_expr items
  mentions-Braces items is = by_node (IExpr-F.Braces items) (is ∙ sym (exprs.rolls-Braces items))

  pub mentions-Index : (array : IExpr) (index : IExpr)
      → e ≡ exprs.Index array index → expr_mentions e ≡ expr_mentions array ++ expr_mentions index
  mentions-Index array index is = by_node (IExpr-F.Index array index) (is ∙ sym (exprs.rolls-Index array index))

  pub mentions-Unary : (op : Name) (a : IExpr) → e ≡ exprs.Unary op a → expr_mentions e ≡ expr_mentions a
  mentions-Unary op a is = by_node (IExpr-F.Unary op a) (is ∙ sym (exprs.rolls-Unary op a))

  pub mentions-Post : (op : Name) (a : IExpr) → e ≡ exprs.Post op a → expr_mentions e ≡ expr_mentions a
  mentions-Post op a is = by_node (IExpr-F.Post op a) (is ∙ sym (exprs.rolls-Post op a))

  pub mentions-Binary : (op : Name) (a : IExpr) (b : IExpr) → e ≡ exprs.Binary op a b → expr_mentions e ≡ expr_mentions a ++ expr_mentions b
  mentions-Binary op a b is = by_node (IExpr-F.Binary op a b) (is ∙ sym (exprs.rolls-Binary op a b))

  pub mentions-Assign : (op : Name) (a : IExpr) (b : IExpr) → e ≡ exprs.Assign op a b → expr_mentions e ≡ expr_mentions a ++ expr_mentions b
  mentions-Assign op a b is = by_node (IExpr-F.Assign op a b) (is ∙ sym (exprs.rolls-Assign op a b))

  pub mentions-Cast : (type : IType) (a : IExpr) → e ≡ exprs.Cast type a → expr_mentions e ≡ type_mentions type ++ expr_mentions a
  mentions-Cast type a is = by_node (IExpr-F.Cast type a) (is ∙ sym (exprs.rolls-Cast type a))

  pub mentions-InstanceOf : (a : IExpr) (type : IType)
      → e ≡ exprs.InstanceOf a type → expr_mentions e ≡ expr_mentions a ++ type_mentions type
  mentions-InstanceOf a type is = by_node (IExpr-F.InstanceOf a type) (is ∙ sym (exprs.rolls-InstanceOf a type))

-- ---- several, as the parts of a body have them

pub exprs-each : (es : List IExpr) → exprs_mentions es ≡ each_expr es
exprs-each [] = refl
exprs-each (e ∷ es) = ap (λ ms. expr_mentions e ++ ms) (exprs-each es)

pub arguments-each : (args : List Argument) → arguments_mentions args ≡ each_argument args
arguments-each [] = refl
arguments-each (arg ∷ args) = λ i. sym (mentions-argument arg) i ++ arguments-each args i
