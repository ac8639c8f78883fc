-- The fault of what an expression mentions, by its parts.
use Rattle.std.specs.Prelude.{◌≡◌, ℕ, List, [], ◌∷◌, ◌++◌, map, Option}
use Rattle.std.proofs.Common.{refl, sym, ap, ◌∙◌}
use Rattle.std.specs.Option.{option_or}
use Rattle.mol_base.specs.declared.ident.Id.{Id}
use Rattle.mol_table_rules.specs.Mentions.{Role, Mention, a_called_method, a_static_method, a_constructor, named, joined, type_mentions, expr_step, argument_step, expr_mentions, exprs_mentions, arguments_mentions}
use Rattle.mol_table_rules.specs.Program.{Knowns}
use Rattle.mol_values_types.specs.declared.iexpr.Argument.{Argument, fold-Argument}
use Rattle.mol_values_types.specs.declared.iexpr.IExpr.{IExpr}
use Rattle.mol_values_types.specs.declared.iexpr.IExpr.TheFolds.{fold-roll-IExpr, fold-roll-Argument, map-IExpr}
use Rattle.mol_values_types.specs.declared.iexpr.IExpr.TheOpen.{IExpr-F}
use Rattle.mol_values_types.specs.declared.iexpr.IExpr.TheVariants as exprs
use Rattle.mol_values_types.specs.declared.iexpr.IExpr.TheViews.{roll-IExpr}
use Rattle.mol_values_types.specs.declared.itype.IType.{IType}
use Rattle.mol_op.specs.Tests.{mention_fault, mentions_fault}
use Rattle.mol_op.specs.declared.fault.OpFault.{OpFault}
use Rattle.mol_op.proofs.Mentioned.{fault-of-parts, fault-of-three, joined-map}

-- ---- arguments

-- an argument mentions what its value does
abbrev argument_mentions : Argument → List Mention
argument_mentions = fold-Argument (List Mention) (List Mention) expr_step argument_step

mentions-are : (argument : Argument) → argument_mentions argument ≡ expr_mentions argument.value
mentions-are argument = fold-roll-Argument (List Mention) (List Mention) expr_step argument_step (record { param = argument.param; value = argument.value })

pub arguments-joined : (arguments : List Argument) → joined (map argument_mentions arguments) ≡ arguments_mentions arguments
arguments-joined [] = refl
arguments-joined (argument ∷ arguments) = λ i. mentions-are argument i ++ arguments-joined arguments i

-- ---- the forms

-- an expression mentions what its layer does
layer : {e : IExpr} (x : IExpr-F IExpr Argument) → roll-IExpr x ≡ e → expr_mentions e ≡ expr_step (map-IExpr _ _ _ _ expr_mentions argument_mentions x)
layer x rolls = ap expr_mentions (sym rolls) ∙ fold-roll-IExpr (List Mention) (List Mention) expr_step argument_step x

module _ (known : Knowns) where
  -- the fault of something that is named
  abbrev of_named : Role → Id → Option OpFault
  of_named role id = mention_fault known (record { role = role; id = id })

  abbrev in_type : IType → Option OpFault
  in_type ty = mentions_fault known (type_mentions ty)

  abbrev in_expr : IExpr → Option OpFault
  in_expr e = mentions_fault known (expr_mentions e)

  abbrev in_exprs : List IExpr → Option OpFault
  in_exprs es = mentions_fault known (exprs_mentions es)

  abbrev in_arguments : List Argument → Option OpFault
  in_arguments arguments = mentions_fault known (arguments_mentions arguments)

  of_call : (e : IExpr) (role : Role) (method : Id) (args : List Argument) → expr_mentions e ≡ named role method ++ joined (map argument_mentions args)
      → in_expr e ≡ option_or (of_named role method) (in_arguments args)
  of_call e role method args is = ap (mentions_fault known) (is ∙ ap (λ rest. named role method ++ rest) (arguments-joined args))

  of_list : (e : IExpr) (es : List IExpr) → expr_mentions e ≡ joined (map expr_mentions es) → in_expr e ≡ in_exprs es
  of_list e es is = ap (mentions_fault known) (is ∙ joined-map expr_mentions es)

  -- something, and then a list
  before_list : (e : IExpr) (front : List Mention) (es : List IExpr) → expr_mentions e ≡ front ++ joined (map expr_mentions es)
      → in_expr e ≡ option_or (mentions_fault known front) (in_exprs es)
  before_list e front es is = fault-of-parts known _ front (exprs_mentions es) (is ∙ ap (λ rest. front ++ rest) (joined-map expr_mentions es))

  pub fault-Call : (method : Id) (args : List Argument) → in_expr (exprs.Call method args) ≡ option_or (of_named a_called_method method) (in_arguments args)
  fault-Call method args = of_call _ a_called_method method args (layer (IExpr-F.Call method args) (exprs.rolls-Call method args))

  pub fault-StaticCall : (method : Id) (args : List Argument) → in_expr (exprs.StaticCall method args) ≡ option_or (of_named a_static_method method) (in_arguments args)
  fault-StaticCall method args = of_call _ a_static_method method args (layer (IExpr-F.StaticCall method args) (exprs.rolls-StaticCall method args))

  pub fault-SuperCall : (method : Id) (args : List Argument) → in_expr (exprs.SuperCall method args) ≡ option_or (of_named a_called_method method) (in_arguments args)
  fault-SuperCall method args = of_call _ a_called_method method args (layer (IExpr-F.SuperCall method args) (exprs.rolls-SuperCall method args))

  pub fault-New : (constructor : Id) (args : List Argument) → in_expr (exprs.New constructor args) ≡ option_or (of_named a_constructor constructor) (in_arguments args)
  fault-New constructor args = of_call _ a_constructor constructor args (layer (IExpr-F.New constructor args) (exprs.rolls-New constructor args))

  pub fault-CallOn : (method : Id) (e : IExpr) (args : List Argument) → in_expr (exprs.CallOn method e args) ≡ option_or (of_named a_called_method method) (option_or (in_expr e) (in_arguments args))
  fault-CallOn method e args =
      ap (mentions_fault known) (layer (IExpr-F.CallOn method e args) (exprs.rolls-CallOn method e args))
      ∙ ap (option_or (of_named a_called_method method))
      (fault-of-parts known _ (expr_mentions e) (arguments_mentions args) (ap (λ rest. expr_mentions e ++ rest) (arguments-joined args)))

  pub fault-Cond : (test a b : IExpr) → in_expr (exprs.Cond test a b) ≡ option_or (in_expr test) (option_or (in_expr a) (in_expr b))
  fault-Cond test a b =
      fault-of-three known _ (expr_mentions test) (expr_mentions a) (expr_mentions b) (layer (IExpr-F.Cond test a b) (exprs.rolls-Cond test a b))

  pub fault-OutsideCall : (name : List ℕ) (es : List IExpr) → in_expr (exprs.OutsideCall name es) ≡ in_exprs es
  fault-OutsideCall name es = of_list _ es (layer (IExpr-F.OutsideCall name es) (exprs.rolls-OutsideCall name es))

  pub fault-OutsideSuperCall : (name : List ℕ) (es : List IExpr) → in_expr (exprs.OutsideSuperCall name es) ≡ in_exprs es
  fault-OutsideSuperCall name es = of_list _ es (layer (IExpr-F.OutsideSuperCall name es) (exprs.rolls-OutsideSuperCall name es))

  pub fault-Braces : (es : List IExpr) → in_expr (exprs.Braces es) ≡ in_exprs es
  fault-Braces es = of_list _ es (layer (IExpr-F.Braces es) (exprs.rolls-Braces es))

  pub fault-OutsideCallOn : (name : List ℕ) (e : IExpr) (es : List IExpr) → in_expr (exprs.OutsideCallOn name e es) ≡ option_or (in_expr e) (in_exprs es)
  fault-OutsideCallOn name e es = before_list _ (expr_mentions e) es (layer (IExpr-F.OutsideCallOn name e es) (exprs.rolls-OutsideCallOn name e es))

  pub fault-NewOutside : (ty : IType) (es : List IExpr) → in_expr (exprs.NewOutside ty es) ≡ option_or (in_type ty) (in_exprs es)
  fault-NewOutside ty es = before_list _ (type_mentions ty) es (layer (IExpr-F.NewOutside ty es) (exprs.rolls-NewOutside ty es))

  pub fault-ArrayLit : (ty : IType) (es : List IExpr) → in_expr (exprs.ArrayLit ty es) ≡ option_or (in_type ty) (in_exprs es)
  fault-ArrayLit ty es = before_list _ (type_mentions ty) es (layer (IExpr-F.ArrayLit ty es) (exprs.rolls-ArrayLit ty es))

  pub fault-NewArray : (ty : IType) (sizes : List IExpr) (pairs : ℕ) → in_expr (exprs.NewArray ty sizes pairs) ≡ option_or (in_type ty) (in_exprs sizes)
  fault-NewArray ty sizes pairs = before_list _ (type_mentions ty) sizes (layer (IExpr-F.NewArray ty sizes pairs) (exprs.rolls-NewArray ty sizes pairs))

  pub fault-Index : (a b : IExpr) → in_expr (exprs.Index a b) ≡ option_or (in_expr a) (in_expr b)
  fault-Index a b = fault-of-parts known _ (expr_mentions a) (expr_mentions b) (layer (IExpr-F.Index a b) (exprs.rolls-Index a b))

  pub fault-Binary : (op : List ℕ) (a b : IExpr) → in_expr (exprs.Binary op a b) ≡ option_or (in_expr a) (in_expr b)
  fault-Binary op a b = fault-of-parts known _ (expr_mentions a) (expr_mentions b) (layer (IExpr-F.Binary op a b) (exprs.rolls-Binary op a b))

  pub fault-Assign : (op : List ℕ) (a b : IExpr) → in_expr (exprs.Assign op a b) ≡ option_or (in_expr a) (in_expr b)
  fault-Assign op a b = fault-of-parts known _ (expr_mentions a) (expr_mentions b) (layer (IExpr-F.Assign op a b) (exprs.rolls-Assign op a b))

  pub fault-Cast : (ty : IType) (e : IExpr) → in_expr (exprs.Cast ty e) ≡ option_or (in_type ty) (in_expr e)
  fault-Cast ty e = fault-of-parts known _ (type_mentions ty) (expr_mentions e) (layer (IExpr-F.Cast ty e) (exprs.rolls-Cast ty e))

  pub fault-InstanceOf : (e : IExpr) (ty : IType) → in_expr (exprs.InstanceOf e ty) ≡ option_or (in_expr e) (in_type ty)
  fault-InstanceOf e ty = fault-of-parts known _ (expr_mentions e) (type_mentions ty) (layer (IExpr-F.InstanceOf e ty) (exprs.rolls-InstanceOf e ty))

pub ruleset of_calls = (fault-Call, fault-StaticCall, fault-SuperCall, fault-New, fault-CallOn)

pub ruleset of_lists = (fault-OutsideCall, fault-OutsideSuperCall, fault-Braces, fault-OutsideCallOn, fault-NewOutside, fault-ArrayLit, fault-NewArray)

pub ruleset expression_faults = (of_calls, of_lists, fault-Cond, fault-Index, fault-Binary, fault-Assign, fault-Cast, fault-InstanceOf)
