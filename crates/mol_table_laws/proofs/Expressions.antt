-- Expressions are tidied alike by two lists of parameters that agree on what the tidied one mentions. An argument that is dropped may
-- mention what it will.
use Rattle.std.specs.Prelude.{◌≡◌, Bool, true, false, List, [], ◌∷◌, ◌++◌, map, Option, if◌then◌else◌}
use Rattle.std.proofs.Common.{refl, sym, ap, subst, ◌∙◌}
use Rattle.std.specs.List.{AllByRecursion}
use Rattle.mol_base.specs.declared.ident.Id.{Id}
use Rattle.mol_table_rules.specs.Mentions as mentioning
use Rattle.mol_table_rules.specs.Mentions.{Mention, Role, joined, named, type_mentions, expr_mentions}
use Rattle.mol_table_rules.specs.Program.{same_id}
use Rattle.mol_table_rules.specs.Tidy as tidying
use Rattle.mol_table_rules.specs.Tidy.{value_of, argument_for, arguments_for, tidy_expr, tidy_argument}
use Rattle.mol_values_types.specs.declared.iexpr.Argument.{Argument, fold-Argument}
use Rattle.mol_values_types.specs.declared.iexpr.IExpr.{IExpr}
use Rattle.mol_values_types.specs.declared.iexpr.IExpr.TheFolds.{fold-roll-IExpr, fold-roll-Argument, ind-IExpr, map-IExpr}
use Rattle.mol_values_types.specs.declared.iexpr.IExpr.TheOpen.{IExpr-F}
use Rattle.mol_values_types.specs.declared.iexpr.IExpr.TheVariants as exprs
use Rattle.mol_values_types.specs.declared.iexpr.IExpr.TheViews.{roll-IExpr, roll-Argument}
use Rattle.mol_values_types.specs.declared.param.Param.{Param}
use Rattle.mol_table_rules.proofs.Tidied.{argument_is}

-- ---- one tidying

module _ (present : Id → List Param) (bare : Id → Option Id) where
  expr-is : (x : IExpr-F IExpr Argument) → tidy_expr present bare (roll-IExpr x)
      ≡ tidying.expr_step present bare (map-IExpr _ _ _ _ (tidy_expr present bare) (tidy_argument present bare) x)
  expr-is x = fold-roll-IExpr IExpr Argument (tidying.expr_step present bare) (tidying.argument_step present bare) x

  -- the argument for a parameter, among one more
  value-step : (argument : Argument) (args : List Argument) (param : Param) → value_of (map (tidy_argument present bare) (argument ∷ args)) param
      ≡ (if same_id param.id argument.param then tidy_expr present bare argument.value else value_of (map (tidy_argument present bare) args) param)
  value-step argument args param =
      ap (λ (a : Argument). value_of (a ∷ map (tidy_argument present bare) args) param) (argument_is present bare argument)

-- ---- mentions

abbrev pub argument_mentions : Argument → List Mention
argument_mentions = fold-Argument (List Mention) (List Mention) mentioning.expr_step mentioning.argument_step

mentions-is : (x : IExpr-F IExpr Argument) → expr_mentions (roll-IExpr x)
    ≡ mentioning.expr_step (map-IExpr _ _ _ _ expr_mentions argument_mentions x)
mentions-is x = fold-roll-IExpr (List Mention) (List Mention) mentioning.expr_step mentioning.argument_step x

pub argument-mentions : (argument : Argument) → argument_mentions argument ≡ expr_mentions argument.value
argument-mentions argument =
    fold-roll-Argument (List Mention) (List Mention) mentioning.expr_step mentioning.argument_step
    (record { param = argument.param; value = argument.value })

-- ---- two tidyings

module _ (here there : Id → List Param) where
  -- both have the same parameters for what is mentioned
  abbrev pub AreGood : List Mention → Type 0
  AreGood = AllByRecursion (λ (mention : Mention). here mention.id ≡ there mention.id)

  pub front : (xs ys : List Mention) → AreGood (xs ++ ys) → AreGood xs
  front [] ys good = tt {0}
  front (x ∷ xs) ys good = (good.0, front xs ys good.1)

  pub back : (xs ys : List Mention) → AreGood (xs ++ ys) → AreGood ys
  back [] ys good = good
  back (x ∷ xs) ys good = back xs ys good.1

module _ (here there : Id → List Param) (bare : Id → Option Id) where
  abbrev Good : List Mention → Type 0
  Good = AreGood here there

  abbrev ta : IExpr → IExpr
  ta = tidy_expr here bare

  abbrev tb : IExpr → IExpr
  tb = tidy_expr there bare

  abbrev ga : Argument → Argument
  ga = tidy_argument here bare

  abbrev gb : Argument → Argument
  gb = tidy_argument there bare

  -- what the tidied form mentions, and what tidied arguments of a method do
  abbrev seen : IExpr → List Mention
  seen e = expr_mentions (ta e)

  abbrev pub IsAlike : IExpr → Type 0
  IsAlike e = Good (seen e) → ta e ≡ tb e

  abbrev IsAlikeArgument : Argument → Type 0
  IsAlikeArgument argument = IsAlike argument.value

  abbrev With : Type 0
  With = (e : IExpr) × IsAlike e

  abbrev pub WithArgument : Type 0
  WithArgument = (argument : Argument) × IsAlikeArgument argument

  abbrev ones : List With → List IExpr
  ones es = map (λ p. p.0) es

  abbrev pub arguments : List WithArgument → List Argument
  arguments args = map (λ p. p.0) args

  abbrev all_seen : List With → List Mention
  all_seen es = joined (map expr_mentions (map ta (ones es)))

  abbrev given : List WithArgument → List Argument
  given args = map ga (arguments args)

  abbrev given_there : List WithArgument → List Argument
  given_there args = map gb (arguments args)

  abbrev given_seen : List Param → List WithArgument → List Mention
  given_seen params args = joined (map argument_mentions (arguments_for params (given args)))

  pair-alike : (a b : With) → Good (seen a.0 ++ seen b.0) → (ta a.0 ≡ tb a.0) × (ta b.0 ≡ tb b.0)
  pair-alike a b good = (a.1 (front here there (seen a.0) (seen b.0) good), b.1 (back here there (seen a.0) (seen b.0) good))

  all-alike : (es : List With) → Good (all_seen es) → map ta (ones es) ≡ map tb (ones es)
  all-alike [] good = refl
  all-alike (e ∷ es) good =
      let first = e.1 (front here there (seen e.0) (all_seen es) good) in
      let more = all-alike es (back here there (seen e.0) (all_seen es) good) in
      λ i. first i ∷ more i

  -- the argument for a parameter
  value-alike : (args : List WithArgument) (param : Param) → Good (expr_mentions (value_of (given args) param))
      → value_of (given args) param ≡ value_of (given_there args) param
  value-alike [] param good = refl
  value-alike (p ∷ args) param good =
      value-step here bare p.0 (arguments args) param
      ∙ by (same_id param.id p.0.param) (value-alike args param)
      (subst (λ e. Good (expr_mentions e)) (value-step here bare p.0 (arguments args) param) good)
      ∙ sym (value-step there bare p.0 (arguments args) param)
    where
      by : (b : Bool)
          → (Good (expr_mentions (value_of (given args) param)) → value_of (given args) param ≡ value_of (given_there args) param)
          → Good (expr_mentions (if b then ta p.0.value else value_of (given args) param))
          → (if b then ta p.0.value else value_of (given args) param) ≡ (if b then tb p.0.value else value_of (given_there args) param)
      by true rest so = p.1 so
      by false rest so = rest so

  pub arguments-alike : (params : List Param) (args : List WithArgument) → Good (given_seen params args)
      → arguments_for params (given args) ≡ arguments_for params (given_there args)
  arguments-alike [] args good = refl
  arguments-alike (param ∷ params) args good =
      let one = argument_for (given args) param in
      let first = front here there (argument_mentions one) (given_seen params args) good in
      let value = value-alike args param (subst Good (argument-mentions one) first) in
      let more = arguments-alike params args (back here there (argument_mentions one) (given_seen params args) good) in
      λ i. record { param = param.id; value = value i } ∷ more i

  -- the arguments of a method that is mentioned
  call-alike : (role : Role) (method : Id) (args : List WithArgument) → Good (named role method ++ given_seen (here method) args)
      → arguments_for (here method) (given args) ≡ arguments_for (there method) (given_there args)
  call-alike role method args good =
      arguments-alike (here method) args good.1 ∙ ap (λ params. arguments_for params (given_there args)) good.0

  from : (x z w : IExpr-F IExpr Argument) → tidying.expr_step here bare (map-IExpr _ _ _ _ ta ga x) ≡ roll-IExpr z
      → tidying.expr_step there bare (map-IExpr _ _ _ _ tb gb x) ≡ roll-IExpr w
      → (Good (mentioning.expr_step (map-IExpr _ _ _ _ expr_mentions argument_mentions z)) → roll-IExpr z ≡ roll-IExpr w)
      → IsAlike (roll-IExpr x)
  from x z w first second same good =
      expr-is here bare x ∙ first
      ∙ same (subst Good (ap expr_mentions (expr-is here bare x ∙ first) ∙ mentions-is z) good)
      ∙ sym (expr-is there bare x ∙ second)

  -- what stays as it is
  leaf : (x : IExpr-F IExpr Argument) → tidying.expr_step here bare (map-IExpr _ _ _ _ ta ga x) ≡ roll-IExpr x
      → tidying.expr_step there bare (map-IExpr _ _ _ _ tb gb x) ≡ roll-IExpr x → IsAlike (roll-IExpr x)
  leaf x first second = from x x x first second (λ good. refl)

  layer-alike : (y : IExpr-F With WithArgument) → IsAlike (roll-IExpr (map-IExpr _ _ _ _ (λ p. p.0) (λ p. p.0) y))
  layer-alike (IExpr-F.Lit text) = leaf (IExpr-F.Lit text) (sym (exprs.rolls-Lit text)) (sym (exprs.rolls-Lit text))
  layer-alike IExpr-F.This = leaf IExpr-F.This (sym exprs.rolls-This) (sym exprs.rolls-This)
  layer-alike (IExpr-F.Local number) = leaf (IExpr-F.Local number) (sym (exprs.rolls-Local number)) (sym (exprs.rolls-Local number))
  layer-alike (IExpr-F.Param id) = leaf (IExpr-F.Param id) (sym (exprs.rolls-Param id)) (sym (exprs.rolls-Param id))
  layer-alike (IExpr-F.Own field) = leaf (IExpr-F.Own field) (sym (exprs.rolls-Own field)) (sym (exprs.rolls-Own field))
  layer-alike (IExpr-F.StaticField field) =
      leaf (IExpr-F.StaticField field) (sym (exprs.rolls-StaticField field)) (sym (exprs.rolls-StaticField field))
  layer-alike (IExpr-F.OutsideName name) =
      leaf (IExpr-F.OutsideName name) (sym (exprs.rolls-OutsideName name)) (sym (exprs.rolls-OutsideName name))
  layer-alike (IExpr-F.OutsideClass full) =
      leaf (IExpr-F.OutsideClass full) (sym (exprs.rolls-OutsideClass full)) (sym (exprs.rolls-OutsideClass full))
  layer-alike (IExpr-F.NewDefault class) =
      λ good. expr-is here bare (IExpr-F.NewDefault class) ∙ sym (expr-is there bare (IExpr-F.NewDefault class))
  layer-alike (IExpr-F.Field field e) =
      from (IExpr-F.Field field e.0) (IExpr-F.Field field (ta e.0)) (IExpr-F.Field field (tb e.0))
      (sym (exprs.rolls-Field field (ta e.0))) (sym (exprs.rolls-Field field (tb e.0)))
      (λ good. ap (λ v. roll-IExpr (IExpr-F.Field field v)) (e.1 good.1))
  layer-alike (IExpr-F.OutsideField name e) =
      from (IExpr-F.OutsideField name e.0) (IExpr-F.OutsideField name (ta e.0)) (IExpr-F.OutsideField name (tb e.0))
      (sym (exprs.rolls-OutsideField name (ta e.0))) (sym (exprs.rolls-OutsideField name (tb e.0)))
      (λ good. ap (λ v. roll-IExpr (IExpr-F.OutsideField name v)) (e.1 good))
  layer-alike (IExpr-F.Unary op e) =
      from (IExpr-F.Unary op e.0) (IExpr-F.Unary op (ta e.0)) (IExpr-F.Unary op (tb e.0))
      (sym (exprs.rolls-Unary op (ta e.0))) (sym (exprs.rolls-Unary op (tb e.0)))
      (λ good. ap (λ v. roll-IExpr (IExpr-F.Unary op v)) (e.1 good))
  layer-alike (IExpr-F.Post op e) =
      from (IExpr-F.Post op e.0) (IExpr-F.Post op (ta e.0)) (IExpr-F.Post op (tb e.0))
      (sym (exprs.rolls-Post op (ta e.0))) (sym (exprs.rolls-Post op (tb e.0)))
      (λ good. ap (λ v. roll-IExpr (IExpr-F.Post op v)) (e.1 good))
  layer-alike (IExpr-F.Cast ty e) =
      from (IExpr-F.Cast ty e.0) (IExpr-F.Cast ty (ta e.0)) (IExpr-F.Cast ty (tb e.0))
      (sym (exprs.rolls-Cast ty (ta e.0))) (sym (exprs.rolls-Cast ty (tb e.0)))
      (λ good. ap (λ v. roll-IExpr (IExpr-F.Cast ty v)) (e.1 (back here there (type_mentions ty) (seen e.0) good)))
  layer-alike (IExpr-F.InstanceOf e ty) =
      from (IExpr-F.InstanceOf e.0 ty) (IExpr-F.InstanceOf (ta e.0) ty) (IExpr-F.InstanceOf (tb e.0) ty)
      (sym (exprs.rolls-InstanceOf (ta e.0) ty)) (sym (exprs.rolls-InstanceOf (tb e.0) ty))
      (λ good. ap (λ v. roll-IExpr (IExpr-F.InstanceOf v ty)) (e.1 (front here there (seen e.0) (type_mentions ty) good)))
  layer-alike (IExpr-F.Index a b) =
      from (IExpr-F.Index a.0 b.0) (IExpr-F.Index (ta a.0) (ta b.0)) (IExpr-F.Index (tb a.0) (tb b.0))
      (sym (exprs.rolls-Index (ta a.0) (ta b.0))) (sym (exprs.rolls-Index (tb a.0) (tb b.0)))
      (λ good. let both = pair-alike a b good in λ i. roll-IExpr (IExpr-F.Index (both.0 i) (both.1 i)))
  layer-alike (IExpr-F.Binary op a b) =
      from (IExpr-F.Binary op a.0 b.0) (IExpr-F.Binary op (ta a.0) (ta b.0)) (IExpr-F.Binary op (tb a.0) (tb b.0))
      (sym (exprs.rolls-Binary op (ta a.0) (ta b.0))) (sym (exprs.rolls-Binary op (tb a.0) (tb b.0)))
      (λ good. let both = pair-alike a b good in λ i. roll-IExpr (IExpr-F.Binary op (both.0 i) (both.1 i)))
  layer-alike (IExpr-F.Assign op a b) =
      from (IExpr-F.Assign op a.0 b.0) (IExpr-F.Assign op (ta a.0) (ta b.0)) (IExpr-F.Assign op (tb a.0) (tb b.0))
      (sym (exprs.rolls-Assign op (ta a.0) (ta b.0))) (sym (exprs.rolls-Assign op (tb a.0) (tb b.0)))
      (λ good. let both = pair-alike a b good in λ i. roll-IExpr (IExpr-F.Assign op (both.0 i) (both.1 i)))
  layer-alike (IExpr-F.Cond test a b) =
      from (IExpr-F.Cond test.0 a.0 b.0) (IExpr-F.Cond (ta test.0) (ta a.0) (ta b.0)) (IExpr-F.Cond (tb test.0) (tb a.0) (tb b.0))
      (sym (exprs.rolls-Cond (ta test.0) (ta a.0) (ta b.0))) (sym (exprs.rolls-Cond (tb test.0) (tb a.0) (tb b.0)))
      (λ good. let both = pair-alike test a (front here there (seen test.0 ++ seen a.0) (seen b.0) good) in
      let last = b.1 (back here there (seen test.0 ++ seen a.0) (seen b.0) good) in
      λ i. roll-IExpr (IExpr-F.Cond (both.0 i) (both.1 i) (last i)))
  layer-alike (IExpr-F.OutsideCall name es) =
      from (IExpr-F.OutsideCall name (ones es)) (IExpr-F.OutsideCall name (map ta (ones es))) (IExpr-F.OutsideCall name (map tb (ones es)))
      (sym (exprs.rolls-OutsideCall name (map ta (ones es)))) (sym (exprs.rolls-OutsideCall name (map tb (ones es))))
      (λ good. ap (λ v. roll-IExpr (IExpr-F.OutsideCall name v)) (all-alike es good))
  layer-alike (IExpr-F.OutsideSuperCall name es) =
      from (IExpr-F.OutsideSuperCall name (ones es)) (IExpr-F.OutsideSuperCall name (map ta (ones es)))
      (IExpr-F.OutsideSuperCall name (map tb (ones es)))
      (sym (exprs.rolls-OutsideSuperCall name (map ta (ones es)))) (sym (exprs.rolls-OutsideSuperCall name (map tb (ones es))))
      (λ good. ap (λ v. roll-IExpr (IExpr-F.OutsideSuperCall name v)) (all-alike es good))
  layer-alike (IExpr-F.NewOutside ty es) =
      from (IExpr-F.NewOutside ty (ones es)) (IExpr-F.NewOutside ty (map ta (ones es))) (IExpr-F.NewOutside ty (map tb (ones es)))
      (sym (exprs.rolls-NewOutside ty (map ta (ones es)))) (sym (exprs.rolls-NewOutside ty (map tb (ones es))))
      (λ good. ap (λ v. roll-IExpr (IExpr-F.NewOutside ty v)) (all-alike es (back here there (type_mentions ty) (all_seen es) good)))
  layer-alike (IExpr-F.NewArray ty es pairs) =
      from (IExpr-F.NewArray ty (ones es) pairs) (IExpr-F.NewArray ty (map ta (ones es)) pairs) (IExpr-F.NewArray ty (map tb (ones es)) pairs)
      (sym (exprs.rolls-NewArray ty (map ta (ones es)) pairs)) (sym (exprs.rolls-NewArray ty (map tb (ones es)) pairs))
      (λ good. ap (λ v. roll-IExpr (IExpr-F.NewArray ty v pairs)) (all-alike es (back here there (type_mentions ty) (all_seen es) good)))
  layer-alike (IExpr-F.ArrayLit ty es) =
      from (IExpr-F.ArrayLit ty (ones es)) (IExpr-F.ArrayLit ty (map ta (ones es))) (IExpr-F.ArrayLit ty (map tb (ones es)))
      (sym (exprs.rolls-ArrayLit ty (map ta (ones es)))) (sym (exprs.rolls-ArrayLit ty (map tb (ones es))))
      (λ good. ap (λ v. roll-IExpr (IExpr-F.ArrayLit ty v)) (all-alike es (back here there (type_mentions ty) (all_seen es) good)))
  layer-alike (IExpr-F.Braces es) =
      from (IExpr-F.Braces (ones es)) (IExpr-F.Braces (map ta (ones es))) (IExpr-F.Braces (map tb (ones es)))
      (sym (exprs.rolls-Braces (map ta (ones es)))) (sym (exprs.rolls-Braces (map tb (ones es))))
      (λ good. ap (λ v. roll-IExpr (IExpr-F.Braces v)) (all-alike es good))
  layer-alike (IExpr-F.OutsideCallOn name e es) =
      from (IExpr-F.OutsideCallOn name e.0 (ones es)) (IExpr-F.OutsideCallOn name (ta e.0) (map ta (ones es)))
      (IExpr-F.OutsideCallOn name (tb e.0) (map tb (ones es)))
      (sym (exprs.rolls-OutsideCallOn name (ta e.0) (map ta (ones es)))) (sym (exprs.rolls-OutsideCallOn name (tb e.0) (map tb (ones es))))
      (λ good. let first = e.1 (front here there (seen e.0) (all_seen es) good) in
      let rest = all-alike es (back here there (seen e.0) (all_seen es) good) in
      λ i. roll-IExpr (IExpr-F.OutsideCallOn name (first i) (rest i)))
  layer-alike (IExpr-F.Call method args) =
      let first = arguments_for (here method) (given args) in
      let second = arguments_for (there method) (given_there args) in
      from (IExpr-F.Call method (arguments args)) (IExpr-F.Call method first) (IExpr-F.Call method second)
      (sym (exprs.rolls-Call method first)) (sym (exprs.rolls-Call method second))
      (λ good. ap (λ v. roll-IExpr (IExpr-F.Call method v)) (call-alike mentioning.a_called_method method args good))
  layer-alike (IExpr-F.StaticCall method args) =
      let first = arguments_for (here method) (given args) in
      let second = arguments_for (there method) (given_there args) in
      from (IExpr-F.StaticCall method (arguments args)) (IExpr-F.StaticCall method first) (IExpr-F.StaticCall method second)
      (sym (exprs.rolls-StaticCall method first)) (sym (exprs.rolls-StaticCall method second))
      (λ good. ap (λ v. roll-IExpr (IExpr-F.StaticCall method v)) (call-alike mentioning.a_static_method method args good))
  layer-alike (IExpr-F.SuperCall method args) =
      let first = arguments_for (here method) (given args) in
      let second = arguments_for (there method) (given_there args) in
      from (IExpr-F.SuperCall method (arguments args)) (IExpr-F.SuperCall method first) (IExpr-F.SuperCall method second)
      (sym (exprs.rolls-SuperCall method first)) (sym (exprs.rolls-SuperCall method second))
      (λ good. ap (λ v. roll-IExpr (IExpr-F.SuperCall method v)) (call-alike mentioning.a_called_method method args good))
  layer-alike (IExpr-F.New constructor args) =
      let first = arguments_for (here constructor) (given args) in
      let second = arguments_for (there constructor) (given_there args) in
      from (IExpr-F.New constructor (arguments args)) (IExpr-F.New constructor first) (IExpr-F.New constructor second)
      (sym (exprs.rolls-New constructor first)) (sym (exprs.rolls-New constructor second))
      (λ good. ap (λ v. roll-IExpr (IExpr-F.New constructor v)) (call-alike mentioning.a_constructor constructor args good))
  layer-alike (IExpr-F.CallOn method e args) =
      let first = arguments_for (here method) (given args) in
      let second = arguments_for (there method) (given_there args) in
      let passed = given_seen (here method) args in
      from (IExpr-F.CallOn method e.0 (arguments args)) (IExpr-F.CallOn method (ta e.0) first) (IExpr-F.CallOn method (tb e.0) second)
      (sym (exprs.rolls-CallOn method (ta e.0) first)) (sym (exprs.rolls-CallOn method (tb e.0) second))
      (λ good. let on = e.1 (front here there (seen e.0) passed good.1) in
      let rest = call-alike mentioning.a_called_method method args (good.0, back here there (seen e.0) passed good.1) in
      λ i. roll-IExpr (IExpr-F.CallOn method (on i) (rest i)))

  -- an expression is tidied alike
  pub expr-alike : (e : IExpr) → IsAlike e
  expr-alike = ind-IExpr IsAlike IsAlikeArgument (λ x y is. subst (λ z. IsAlike (roll-IExpr z)) is (layer-alike y))
      (λ x y is. subst (λ z. IsAlikeArgument (roll-Argument z)) is y.value.1)
