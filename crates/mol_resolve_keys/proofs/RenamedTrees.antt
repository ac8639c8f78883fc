-- What renaming makes of types and expressions, from what it makes of their parts.
use Rattle.std.proofs.Common.{◌≡◌, ℕ, List, map, sym, ◌∙◌, ap}
use Rattle.mol_base.specs.declared.ident.Id.{Id}
use Rattle.jav_names.specs.DottedNames.{Name}
use Rattle.mol_values_types.specs.Renamed as rename
use Rattle.mol_values_types.specs.Renamed.{rename_type, rename_expr, rename_argument}
use Rattle.mol_values_types.specs.declared.iexpr.Argument.{Argument}
use Rattle.mol_values_types.specs.declared.iexpr.IExpr.{IExpr}
use Rattle.mol_values_types.specs.declared.iexpr.IExpr.TheFolds.{fold-roll-IExpr, fold-roll-Argument, map-IExpr}
use Rattle.mol_values_types.specs.declared.iexpr.IExpr.TheOpen.{IExpr-F}
use Rattle.mol_values_types.specs.declared.iexpr.IExpr.TheVariants as exprs
use Rattle.mol_values_types.specs.declared.iexpr.IExpr.TheViews.{roll-IExpr}
use Rattle.mol_values_types.specs.declared.itype.IType.{IType}
use Rattle.mol_values_types.specs.declared.itype.IType.TheFolds.{fold-roll-IType, map-IType}
use Rattle.mol_values_types.specs.declared.itype.IType.TheOpen.{IType-F}
use Rattle.mol_values_types.specs.declared.itype.IType.TheVariants as types
use Rattle.mol_values_types.specs.declared.itype.IType.TheViews.{roll-IType}

module _ (name : Id → Id) where
  -- ---- types

  rolled-type : (x : IType-F IType) → rename_type name (roll-IType x) ≡ rename.type_step name (map-IType _ _ (rename_type name) x)
  rolled-type x = fold-roll-IType IType (rename.type_step name) x

  pub renamed-Boolean : rename_type name types.Boolean ≡ types.Boolean
  renamed-Boolean = ap (rename_type name) (sym types.rolls-Boolean) ∙ rolled-type IType-F.Boolean

  pub renamed-Byte : rename_type name types.Byte ≡ types.Byte
  renamed-Byte = ap (rename_type name) (sym types.rolls-Byte) ∙ rolled-type IType-F.Byte

  pub renamed-Short : rename_type name types.Short ≡ types.Short
  renamed-Short = ap (rename_type name) (sym types.rolls-Short) ∙ rolled-type IType-F.Short

  pub renamed-Char : rename_type name types.Char ≡ types.Char
  renamed-Char = ap (rename_type name) (sym types.rolls-Char) ∙ rolled-type IType-F.Char

  pub renamed-Int : rename_type name types.Int ≡ types.Int
  renamed-Int = ap (rename_type name) (sym types.rolls-Int) ∙ rolled-type IType-F.Int

  pub renamed-Long : rename_type name types.Long ≡ types.Long
  renamed-Long = ap (rename_type name) (sym types.rolls-Long) ∙ rolled-type IType-F.Long

  pub renamed-Void : rename_type name types.Void ≡ types.Void
  renamed-Void = ap (rename_type name) (sym types.rolls-Void) ∙ rolled-type IType-F.Void

  pub renamed-Class : (id : Id) → rename_type name (types.Class id) ≡ types.Class (name id)
  renamed-Class id = ap (rename_type name) (sym (types.rolls-Class id)) ∙ rolled-type (IType-F.Class id)

  pub renamed-Imported : (full rest : Name) → rename_type name (types.Imported full rest) ≡ types.Imported full rest
  renamed-Imported full rest = ap (rename_type name) (sym (types.rolls-Imported full rest)) ∙ rolled-type (IType-F.Imported full rest)

  pub renamed-Written : (text : Name) → rename_type name (types.Written text) ≡ types.Written text
  renamed-Written text = ap (rename_type name) (sym (types.rolls-Written text)) ∙ rolled-type (IType-F.Written text)

  pub renamed-Array : (item : IType) → rename_type name (types.Array item) ≡ types.Array (rename_type name item)
  renamed-Array item = ap (rename_type name) (sym (types.rolls-Array item)) ∙ rolled-type (IType-F.Array item)

  -- ---- expressions

  rolled-expr : (x : IExpr-F IExpr Argument) → rename_expr name (roll-IExpr x)
      ≡ rename.expr_step name (map-IExpr _ _ _ _ (rename_expr name) (rename_argument name) x)
  rolled-expr x = fold-roll-IExpr IExpr Argument (rename.expr_step name) (rename.argument_step name) x

  pub renamed-argument : (param : Id) (value : IExpr)
      → rename_argument name (record { param = param; value = value }) ≡ record { param = name param; value = rename_expr name value }
  renamed-argument param value =
      fold-roll-Argument IExpr Argument (rename.expr_step name) (rename.argument_step name) (record { param = param; value = value })

  pub renamed-Lit : (text : Name) → rename_expr name (exprs.Lit text) ≡ exprs.Lit text
  renamed-Lit text = ap (rename_expr name) (sym (exprs.rolls-Lit text)) ∙ rolled-expr (IExpr-F.Lit text)

  pub renamed-This : rename_expr name exprs.This ≡ exprs.This
  renamed-This = ap (rename_expr name) (sym exprs.rolls-This) ∙ rolled-expr IExpr-F.This

  pub renamed-Local : (number : ℕ) → rename_expr name (exprs.Local number) ≡ exprs.Local number
  renamed-Local number = ap (rename_expr name) (sym (exprs.rolls-Local number)) ∙ rolled-expr (IExpr-F.Local number)

  pub renamed-Param : (id : Id) → rename_expr name (exprs.Param id) ≡ exprs.Param (name id)
  renamed-Param id = ap (rename_expr name) (sym (exprs.rolls-Param id)) ∙ rolled-expr (IExpr-F.Param id)

  pub renamed-Own : (field : Id) → rename_expr name (exprs.Own field) ≡ exprs.Own (name field)
  renamed-Own field = ap (rename_expr name) (sym (exprs.rolls-Own field)) ∙ rolled-expr (IExpr-F.Own field)

  pub renamed-StaticField : (field : Id) → rename_expr name (exprs.StaticField field) ≡ exprs.StaticField (name field)
  renamed-StaticField field = ap (rename_expr name) (sym (exprs.rolls-StaticField field)) ∙ rolled-expr (IExpr-F.StaticField field)

  pub renamed-Field : (field : Id) (e : IExpr) → rename_expr name (exprs.Field field e) ≡ exprs.Field (name field) (rename_expr name e)
  renamed-Field field e = ap (rename_expr name) (sym (exprs.rolls-Field field e)) ∙ rolled-expr (IExpr-F.Field field e)

  pub renamed-Call : (method : Id) (args : List Argument) → rename_expr name (exprs.Call method args)
      ≡ exprs.Call (name method) (map (rename_argument name) args)
  renamed-Call method args = ap (rename_expr name) (sym (exprs.rolls-Call method args)) ∙ rolled-expr (IExpr-F.Call method args)

  pub renamed-StaticCall : (method : Id) (args : List Argument) → rename_expr name (exprs.StaticCall method args)
      ≡ exprs.StaticCall (name method) (map (rename_argument name) args)
  renamed-StaticCall method args =
      ap (rename_expr name) (sym (exprs.rolls-StaticCall method args)) ∙ rolled-expr (IExpr-F.StaticCall method args)

  pub renamed-CallOn : (method : Id) (e : IExpr) (args : List Argument) → rename_expr name (exprs.CallOn method e args)
      ≡ exprs.CallOn (name method) (rename_expr name e) (map (rename_argument name) args)
  renamed-CallOn method e args = ap (rename_expr name) (sym (exprs.rolls-CallOn method e args)) ∙ rolled-expr (IExpr-F.CallOn method e args)

  pub renamed-SuperCall : (method : Id) (args : List Argument) → rename_expr name (exprs.SuperCall method args)
      ≡ exprs.SuperCall (name method) (map (rename_argument name) args)
  renamed-SuperCall method args =
      ap (rename_expr name) (sym (exprs.rolls-SuperCall method args)) ∙ rolled-expr (IExpr-F.SuperCall method args)

  pub renamed-New : (constructor : Id) (args : List Argument) → rename_expr name (exprs.New constructor args)
      ≡ exprs.New (name constructor) (map (rename_argument name) args)
  renamed-New constructor args = ap (rename_expr name) (sym (exprs.rolls-New constructor args)) ∙ rolled-expr (IExpr-F.New constructor args)

  pub renamed-NewDefault : (class : Id) → rename_expr name (exprs.NewDefault class) ≡ exprs.NewDefault (name class)
  renamed-NewDefault class = ap (rename_expr name) (sym (exprs.rolls-NewDefault class)) ∙ rolled-expr (IExpr-F.NewDefault class)

  pub renamed-Cond : (test : IExpr) (a : IExpr) (b : IExpr) → rename_expr name (exprs.Cond test a b)
      ≡ exprs.Cond (rename_expr name test) (rename_expr name a) (rename_expr name b)
  renamed-Cond test a b = ap (rename_expr name) (sym (exprs.rolls-Cond test a b)) ∙ rolled-expr (IExpr-F.Cond test a b)

  pub renamed-OutsideName : (text : Name) → rename_expr name (exprs.OutsideName text) ≡ exprs.OutsideName text
  renamed-OutsideName text = ap (rename_expr name) (sym (exprs.rolls-OutsideName text)) ∙ rolled-expr (IExpr-F.OutsideName text)

  pub renamed-OutsideClass : (full : Name) → rename_expr name (exprs.OutsideClass full) ≡ exprs.OutsideClass full
  renamed-OutsideClass full = ap (rename_expr name) (sym (exprs.rolls-OutsideClass full)) ∙ rolled-expr (IExpr-F.OutsideClass full)

  pub renamed-OutsideField : (text : Name) (e : IExpr) → rename_expr name (exprs.OutsideField text e)
      ≡ exprs.OutsideField text (rename_expr name e)
  renamed-OutsideField text e = ap (rename_expr name) (sym (exprs.rolls-OutsideField text e)) ∙ rolled-expr (IExpr-F.OutsideField text e)

  pub renamed-OutsideCall : (text : Name) (args : List IExpr) → rename_expr name (exprs.OutsideCall text args)
      ≡ exprs.OutsideCall text (map (rename_expr name) args)
  renamed-OutsideCall text args =
      ap (rename_expr name) (sym (exprs.rolls-OutsideCall text args)) ∙ rolled-expr (IExpr-F.OutsideCall text args)

  pub renamed-OutsideCallOn : (text : Name) (e : IExpr) (args : List IExpr) → rename_expr name (exprs.OutsideCallOn text e args)
      ≡ exprs.OutsideCallOn text (rename_expr name e) (map (rename_expr name) args)
  renamed-OutsideCallOn text e args =
      ap (rename_expr name) (sym (exprs.rolls-OutsideCallOn text e args)) ∙ rolled-expr (IExpr-F.OutsideCallOn text e args)

  pub renamed-OutsideSuperCall : (text : Name) (args : List IExpr) → rename_expr name (exprs.OutsideSuperCall text args)
      ≡ exprs.OutsideSuperCall text (map (rename_expr name) args)
  renamed-OutsideSuperCall text args =
      ap (rename_expr name) (sym (exprs.rolls-OutsideSuperCall text args)) ∙ rolled-expr (IExpr-F.OutsideSuperCall text args)

  pub renamed-NewOutside : (type : IType) (args : List IExpr) → rename_expr name (exprs.NewOutside type args)
      ≡ exprs.NewOutside (rename_type name type) (map (rename_expr name) args)
  renamed-NewOutside type args = ap (rename_expr name) (sym (exprs.rolls-NewOutside type args)) ∙ rolled-expr (IExpr-F.NewOutside type args)

  pub renamed-NewArray : (type : IType) (sizes : List IExpr) (pairs : ℕ) → rename_expr name (exprs.NewArray type sizes pairs)
      ≡ exprs.NewArray (rename_type name type) (map (rename_expr name) sizes) pairs
  renamed-NewArray type sizes pairs =
      ap (rename_expr name) (sym (exprs.rolls-NewArray type sizes pairs)) ∙ rolled-expr (IExpr-F.NewArray type sizes pairs)

  pub renamed-ArrayLit : (type : IType) (items : List IExpr) → rename_expr name (exprs.ArrayLit type items)
      ≡ exprs.ArrayLit (rename_type name type) (map (rename_expr name) items)
  renamed-ArrayLit type items = ap (rename_expr name) (sym (exprs.rolls-ArrayLit type items)) ∙ rolled-expr (IExpr-F.ArrayLit type items)

  pub renamed-Braces : (items : List IExpr) → rename_expr name (exprs.Braces items) ≡ exprs.Braces (map (rename_expr name) items)
  renamed-Braces items = ap (rename_expr name) (sym (exprs.rolls-Braces items)) ∙ rolled-expr (IExpr-F.Braces items)

  pub renamed-Index : (e : IExpr) (i : IExpr) → rename_expr name (exprs.Index e i) ≡ exprs.Index (rename_expr name e) (rename_expr name i)
  renamed-Index e i = ap (rename_expr name) (sym (exprs.rolls-Index e i)) ∙ rolled-expr (IExpr-F.Index e i)

  pub renamed-Unary : (op : Name) (e : IExpr) → rename_expr name (exprs.Unary op e) ≡ exprs.Unary op (rename_expr name e)
  renamed-Unary op e = ap (rename_expr name) (sym (exprs.rolls-Unary op e)) ∙ rolled-expr (IExpr-F.Unary op e)

  pub renamed-Post : (op : Name) (e : IExpr) → rename_expr name (exprs.Post op e) ≡ exprs.Post op (rename_expr name e)
  renamed-Post op e = ap (rename_expr name) (sym (exprs.rolls-Post op e)) ∙ rolled-expr (IExpr-F.Post op e)

  pub renamed-Binary : (op : Name) (a : IExpr) (b : IExpr) → rename_expr name (exprs.Binary op a b)
      ≡ exprs.Binary op (rename_expr name a) (rename_expr name b)
  renamed-Binary op a b = ap (rename_expr name) (sym (exprs.rolls-Binary op a b)) ∙ rolled-expr (IExpr-F.Binary op a b)

  pub renamed-Assign : (op : Name) (a : IExpr) (b : IExpr) → rename_expr name (exprs.Assign op a b)
      ≡ exprs.Assign op (rename_expr name a) (rename_expr name b)
  renamed-Assign op a b = ap (rename_expr name) (sym (exprs.rolls-Assign op a b)) ∙ rolled-expr (IExpr-F.Assign op a b)

  pub renamed-Cast : (type : IType) (e : IExpr) → rename_expr name (exprs.Cast type e)
      ≡ exprs.Cast (rename_type name type) (rename_expr name e)
  renamed-Cast type e = ap (rename_expr name) (sym (exprs.rolls-Cast type e)) ∙ rolled-expr (IExpr-F.Cast type e)

  pub renamed-InstanceOf : (e : IExpr) (type : IType) → rename_expr name (exprs.InstanceOf e type)
      ≡ exprs.InstanceOf (rename_expr name e) (rename_type name type)
  renamed-InstanceOf e type = ap (rename_expr name) (sym (exprs.rolls-InstanceOf e type)) ∙ rolled-expr (IExpr-F.InstanceOf e type)
