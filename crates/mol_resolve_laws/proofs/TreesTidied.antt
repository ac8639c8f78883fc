-- Expressions that stay as they are when they are tidied.
use Rattle.std.specs.Prelude.{◌≡◌, ℕ, List, [], ◌∷◌, map, Option, None}
use Rattle.std.proofs.Common.{refl, sym, ap, ◌∙◌}
use Rattle.std.specs.List.{AllByRecursion}
use Rattle.jav_names.specs.DottedNames.{Name}
use Rattle.mol_base.specs.declared.ident.Id.{Id}
use Rattle.mol_resolve_rules.specs.ReadTrees.{with_params}
use Rattle.mol_table_rules.proofs.Tidied as tidied
use Rattle.mol_table_rules.proofs.Tidied.{argument_is}
use Rattle.mol_table_rules.specs.Tidy as tidying
use Rattle.mol_table_rules.specs.Tidy.{arguments_for, creation, tidy_expr, tidy_argument}
use Rattle.mol_values_types.specs.declared.iexpr.Argument.{Argument}
use Rattle.mol_values_types.specs.declared.iexpr.IExpr.{IExpr}
use Rattle.mol_values_types.specs.declared.iexpr.IExpr.TheFolds.{fold-roll-IExpr, map-IExpr}
use Rattle.mol_values_types.specs.declared.iexpr.IExpr.TheOpen.{IExpr-F}
use Rattle.mol_values_types.specs.declared.iexpr.IExpr.TheVariants as exprs
use Rattle.mol_values_types.specs.declared.iexpr.IExpr.TheViews.{roll-IExpr}
use Rattle.mol_values_types.specs.declared.itype.IType.{IType}
use Rattle.mol_values_types.specs.declared.param.Param.{Param}

module _ (present : Id → List Param) (bare : Id → Option Id) where
  abbrev texpr : IExpr → IExpr
  texpr = tidy_expr present bare

  abbrev targument : Argument → Argument
  targument = tidy_argument present bare

  abbrev pub IsTidied : IExpr → Type 0
  IsTidied e = texpr e ≡ e

  abbrev pub AreTidied : List IExpr → Type 0
  AreTidied es = AllByRecursion IsTidied es

  -- these arguments are those that tidying finds for the method
  abbrev pub AreFound : Id → List Argument → Type 0
  AreFound method args = arguments_for (present method) args ≡ args

  pub same-all : (es : List IExpr) → AreTidied es → map texpr es ≡ es
  same-all [] all = refl
  same-all (e ∷ es) all = λ i. all.0 i ∷ same-all es all.1 i

  same-arguments : (ids : List Id) (es : List IExpr) → AreTidied es → map targument (with_params ids es) ≡ with_params ids es
  same-arguments [] es all = refl
  same-arguments (id ∷ ids) [] all = refl
  same-arguments (id ∷ ids) (e ∷ es) all =
      let first = argument_is present bare (record { param = id; value = e }) ∙ (λ i. record { param = id; value = all.0 i }) in
      λ i. first i ∷ same-arguments ids es all.1 i

  -- the arguments of a call
  pub same-given : (method : Id) (ids : List Id) (es : List IExpr) → AreFound method (with_params ids es) → AreTidied es
      → arguments_for (present method) (map targument (with_params ids es)) ≡ with_params ids es
  same-given method ids es are all = ap (arguments_for (present method)) (same-arguments ids es all) ∙ are

  -- an expression stays where its parts do
  made : (x : IExpr-F IExpr Argument) (e : IExpr) → roll-IExpr x ≡ e
      → tidying.expr_step present bare (map-IExpr _ _ _ _ texpr targument x) ≡ e → IsTidied e
  made x e rolls same = ap texpr (sym rolls)
      ∙ fold-roll-IExpr IExpr Argument (tidying.expr_step present bare) (tidying.argument_step present bare) x ∙ same

  -- ---- words

  pub tidied-Lit : (text : Name) → IsTidied (exprs.Lit text)
  tidied-Lit text = made (IExpr-F.Lit text) (exprs.Lit text) (exprs.rolls-Lit text) refl

  pub tidied-This : IsTidied exprs.This
  tidied-This = made IExpr-F.This exprs.This exprs.rolls-This refl

  pub tidied-Local : (number : ℕ) → IsTidied (exprs.Local number)
  tidied-Local number = made (IExpr-F.Local number) (exprs.Local number) (exprs.rolls-Local number) refl

  pub tidied-Param : (id : Id) → IsTidied (exprs.Param id)
  tidied-Param id = made (IExpr-F.Param id) (exprs.Param id) (exprs.rolls-Param id) refl

  pub tidied-Own : (id : Id) → IsTidied (exprs.Own id)
  tidied-Own id = made (IExpr-F.Own id) (exprs.Own id) (exprs.rolls-Own id) refl

  pub tidied-StaticField : (id : Id) → IsTidied (exprs.StaticField id)
  tidied-StaticField id = made (IExpr-F.StaticField id) (exprs.StaticField id) (exprs.rolls-StaticField id) refl

  pub tidied-OutsideName : (name : Name) → IsTidied (exprs.OutsideName name)
  tidied-OutsideName name = made (IExpr-F.OutsideName name) (exprs.OutsideName name) (exprs.rolls-OutsideName name) refl

  pub tidied-OutsideClass : (full : Name) → IsTidied (exprs.OutsideClass full)
  tidied-OutsideClass full = made (IExpr-F.OutsideClass full) (exprs.OutsideClass full) (exprs.rolls-OutsideClass full) refl

  pub tidied-NewDefault : (class : Id) → bare class ≡ None → IsTidied (exprs.NewDefault class)
  tidied-NewDefault class none = tidied.tidied-NewDefault present bare class ∙ ap (creation class) none

  -- ---- of a part

  pub tidied-Field : (field : Id) (e : IExpr) → IsTidied e → IsTidied (exprs.Field field e)
  tidied-Field field e is = made (IExpr-F.Field field e) (exprs.Field field e) (exprs.rolls-Field field e) (λ i. exprs.Field field (is i))

  pub tidied-OutsideField : (name : Name) (e : IExpr) → IsTidied e → IsTidied (exprs.OutsideField name e)
  tidied-OutsideField name e is = made (IExpr-F.OutsideField name e) (exprs.OutsideField name e) (exprs.rolls-OutsideField name e)
      (λ i. exprs.OutsideField name (is i))

  pub tidied-Unary : (op : Name) (e : IExpr) → IsTidied e → IsTidied (exprs.Unary op e)
  tidied-Unary op e is = made (IExpr-F.Unary op e) (exprs.Unary op e) (exprs.rolls-Unary op e) (λ i. exprs.Unary op (is i))

  pub tidied-Post : (op : Name) (e : IExpr) → IsTidied e → IsTidied (exprs.Post op e)
  tidied-Post op e is = made (IExpr-F.Post op e) (exprs.Post op e) (exprs.rolls-Post op e) (λ i. exprs.Post op (is i))

  pub tidied-Cast : (type : IType) (e : IExpr) → IsTidied e → IsTidied (exprs.Cast type e)
  tidied-Cast type e is = made (IExpr-F.Cast type e) (exprs.Cast type e) (exprs.rolls-Cast type e) (λ i. exprs.Cast type (is i))

  pub tidied-InstanceOf : (e : IExpr) (type : IType) → IsTidied e → IsTidied (exprs.InstanceOf e type)
  tidied-InstanceOf e type is = made (IExpr-F.InstanceOf e type) (exprs.InstanceOf e type) (exprs.rolls-InstanceOf e type)
      (λ i. exprs.InstanceOf (is i) type)

  -- ---- of several parts

  module _ (a b : IExpr) (first : IsTidied a) (second : IsTidied b) where
    pub tidied-Index : IsTidied (exprs.Index a b)
    tidied-Index = made (IExpr-F.Index a b) (exprs.Index a b) (exprs.rolls-Index a b) (λ i. exprs.Index (first i) (second i))

    pub tidied-Binary : (op : Name) → IsTidied (exprs.Binary op a b)
    tidied-Binary op = made (IExpr-F.Binary op a b) (exprs.Binary op a b) (exprs.rolls-Binary op a b)
        (λ i. exprs.Binary op (first i) (second i))

    pub tidied-Assign : (op : Name) → IsTidied (exprs.Assign op a b)
    tidied-Assign op = made (IExpr-F.Assign op a b) (exprs.Assign op a b) (exprs.rolls-Assign op a b)
        (λ i. exprs.Assign op (first i) (second i))

    pub tidied-Cond : (test : IExpr) → IsTidied test → IsTidied (exprs.Cond test a b)
    tidied-Cond test is = made (IExpr-F.Cond test a b) (exprs.Cond test a b) (exprs.rolls-Cond test a b)
        (λ i. exprs.Cond (is i) (first i) (second i))

  -- ---- of a list

  module _ (es : List IExpr) (all : AreTidied es) where
    pub tidied-Braces : IsTidied (exprs.Braces es)
    tidied-Braces = made (IExpr-F.Braces es) (exprs.Braces es) (exprs.rolls-Braces es) (λ i. exprs.Braces (same-all es all i))

    pub tidied-ArrayLit : (type : IType) → IsTidied (exprs.ArrayLit type es)
    tidied-ArrayLit type = made (IExpr-F.ArrayLit type es) (exprs.ArrayLit type es) (exprs.rolls-ArrayLit type es)
        (λ i. exprs.ArrayLit type (same-all es all i))

    pub tidied-NewArray : (type : IType) (pairs : ℕ) → IsTidied (exprs.NewArray type es pairs)
    tidied-NewArray type pairs = made (IExpr-F.NewArray type es pairs) (exprs.NewArray type es pairs) (exprs.rolls-NewArray type es pairs)
        (λ i. exprs.NewArray type (same-all es all i) pairs)

    pub tidied-NewOutside : (type : IType) → IsTidied (exprs.NewOutside type es)
    tidied-NewOutside type = made (IExpr-F.NewOutside type es) (exprs.NewOutside type es) (exprs.rolls-NewOutside type es)
        (λ i. exprs.NewOutside type (same-all es all i))

    pub tidied-OutsideCall : (name : Name) → IsTidied (exprs.OutsideCall name es)
    tidied-OutsideCall name = made (IExpr-F.OutsideCall name es) (exprs.OutsideCall name es) (exprs.rolls-OutsideCall name es)
        (λ i. exprs.OutsideCall name (same-all es all i))

    pub tidied-OutsideSuperCall : (name : Name) → IsTidied (exprs.OutsideSuperCall name es)
    tidied-OutsideSuperCall name = made (IExpr-F.OutsideSuperCall name es) (exprs.OutsideSuperCall name es)
        (exprs.rolls-OutsideSuperCall name es) (λ i. exprs.OutsideSuperCall name (same-all es all i))

    pub tidied-OutsideCallOn : (name : Name) (e : IExpr) → IsTidied e → IsTidied (exprs.OutsideCallOn name e es)
    tidied-OutsideCallOn name e is = made (IExpr-F.OutsideCallOn name e es) (exprs.OutsideCallOn name e es)
        (exprs.rolls-OutsideCallOn name e es) (λ i. exprs.OutsideCallOn name (is i) (same-all es all i))

    -- ---- calls, with an argument for each parameter

    module _ (method : Id) (ids : List Id) (are : AreFound method (with_params ids es)) where
      abbrev args : List Argument
      args = with_params ids es

      pub tidied-Call : IsTidied (exprs.Call method args)
      tidied-Call = made (IExpr-F.Call method args) (exprs.Call method args) (exprs.rolls-Call method args)
          (λ i. exprs.Call method (same-given method ids es are all i))

      pub tidied-StaticCall : IsTidied (exprs.StaticCall method args)
      tidied-StaticCall = made (IExpr-F.StaticCall method args) (exprs.StaticCall method args) (exprs.rolls-StaticCall method args)
          (λ i. exprs.StaticCall method (same-given method ids es are all i))

      pub tidied-SuperCall : IsTidied (exprs.SuperCall method args)
      tidied-SuperCall = made (IExpr-F.SuperCall method args) (exprs.SuperCall method args) (exprs.rolls-SuperCall method args)
          (λ i. exprs.SuperCall method (same-given method ids es are all i))

      pub tidied-New : IsTidied (exprs.New method args)
      tidied-New = made (IExpr-F.New method args) (exprs.New method args) (exprs.rolls-New method args)
          (λ i. exprs.New method (same-given method ids es are all i))

      pub tidied-CallOn : (e : IExpr) → IsTidied e → IsTidied (exprs.CallOn method e args)
      tidied-CallOn e is = made (IExpr-F.CallOn method e args) (exprs.CallOn method e args) (exprs.rolls-CallOn method e args)
          (λ i. exprs.CallOn method (is i) (same-given method ids es are all i))
