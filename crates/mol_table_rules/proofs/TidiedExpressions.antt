-- Expressions that are tidied once more stay as they are: arguments that are looked up again are the same, since no parameter stands
-- twice in a list, and a creation that came in is one of a constructor without parameters.
use Rattle.std.specs.Prelude.{◌≡◌, ◌==◌, Bool, true, false, ◌||◌, not, ℕ, List, [], ◌∷◌, map, drop, codes, Option, None, Some, if◌then◌else◌}
use Rattle.std.proofs.Common.{refl, sym, ap, subst, ◌∙◌, true≢false}
use Rattle.std.specs.Cmp.{eq_by_cmp_equiv}
use Rattle.std.specs.List.{AllByRecursion, list_any}
use Rattle.mol_base.specs.Lexical.Characters.{first}
use Rattle.mol_base.specs.Order.{id_cmp-total}
use Rattle.mol_base.specs.declared.ident.Id.{Id}
use Rattle.mol_table_rules.specs.Forms.{differ}
use Rattle.mol_table_rules.specs.Program.{same_id}
use Rattle.mol_table_rules.specs.Tidy as tidying
use Rattle.mol_table_rules.specs.Tidy.{value_of, argument_for, arguments_for, filler_expr, creation, tidy_expr, tidy_argument}
use Rattle.mol_values_types.specs.declared.iexpr.Argument.{Argument}
use Rattle.mol_values_types.specs.declared.iexpr.IExpr.{IExpr}
use Rattle.mol_values_types.specs.declared.iexpr.IExpr.TheOpen.{IExpr-F}
use Rattle.mol_values_types.specs.declared.iexpr.IExpr.TheFolds.{fold-roll-IExpr, ind-IExpr, map-IExpr}
use Rattle.mol_values_types.specs.declared.iexpr.IExpr.TheVariants as exprs
use Rattle.mol_values_types.specs.declared.iexpr.IExpr.TheViews.{roll-IExpr, roll-Argument}
use Rattle.mol_values_types.specs.declared.param.Param.{Param}
use Rattle.mol_table_rules.proofs.Kept.{value-holds}
use Rattle.mol_table_rules.proofs.Living.{same_id-own}
use Rattle.mol_table_rules.proofs.Tidied.{argument_is}
use Rattle.mol_table_rules.proofs.TidyRules.{and-both}

-- ---- the arguments of a call

neither : (a b : Bool) → (a || b) ≡ false → (a ≡ false) × (b ≡ false)
neither true b e = absurd (true≢false e)
neither false b e = (refl, e)

is-false : (a : Bool) → not a ≡ true → a ≡ false
is-false true e = absurd (true≢false (sym e))
is-false false e = refl

abbrev pub ids : List Param → List Id
ids params = map (λ (param : Param). param.id) params

-- an argument for none of the parameters is looked up for none of them
pub passed-over : (argument : Argument) (args : List Argument) (params : List Param)
    → list_any (same_id argument.param) (ids params) ≡ false → arguments_for params (argument ∷ args) ≡ arguments_for params args
passed-over argument args [] apart = refl
passed-over argument args (param ∷ params) apart =
    let parts = neither (same_id argument.param param.id) (list_any (same_id argument.param) (ids params)) apart in
    let unlike : same_id param.id argument.param ≡ false = (eq_by_cmp_equiv id_cmp-total).symm param.id argument.param ∙ parts.0 in
    λ i. record { param = param.id; value = if unlike i then argument.value else value_of args param } ∷ passed-over argument args params parts.1 i

-- what was looked up for each parameter is found for each of them
looked-up-again : (args : List Argument) (params : List Param) → differ (ids params) ≡ true → arguments_for params (arguments_for params args) ≡ arguments_for params args
looked-up-again args [] apart = refl
looked-up-again args (param ∷ params) apart =
    let parts = and-both (not (list_any (same_id param.id) (ids params))) (differ (ids params)) apart in
    let rest = passed-over (argument_for args param) (arguments_for params args) params (is-false _ parts.0) ∙ looked-up-again args params parts.1 in
    λ i. record { param = param.id; value = if same_id-own param.id i then value_of args param else value_of (arguments_for params args) param } ∷ rest i

module _ (present : Id → List Param) (bare : Id → Option Id) (apart : (method : Id) → differ (ids (present method)) ≡ true)
    (plain : (class constructor : Id) → bare class ≡ Some constructor → present constructor ≡ []) where
  abbrev texpr : IExpr → IExpr
  texpr = tidy_expr present bare

  abbrev targument : Argument → Argument
  targument = tidy_argument present bare

  abbrev targuments : Id → List Argument → List Argument
  targuments method args = arguments_for (present method) (map targument args)

  -- ---- expressions

  -- what is proved of an expression
  abbrev pub Stays : IExpr → Type 0
  Stays e = texpr (texpr e) ≡ texpr e

  abbrev StaysArgument : Argument → Type 0
  StaysArgument argument = Stays argument.value

  abbrev pub With : Type 0
  With = (e : IExpr) × Stays e

  abbrev WithArgument : Type 0
  WithArgument = (argument : Argument) × StaysArgument argument

  abbrev bare_ones : List With → List IExpr
  bare_ones es = map (λ p. p.0) es

  abbrev bare_arguments : List WithArgument → List Argument
  bare_arguments args = map (λ p. p.0) args

  expr-is : (x : IExpr-F IExpr Argument) → texpr (roll-IExpr x) ≡ tidying.expr_step present bare (map-IExpr _ _ _ _ texpr targument x)
  expr-is x = fold-roll-IExpr IExpr Argument (tidying.expr_step present bare) (tidying.argument_step present bare) x

  lit-is : (text : List ℕ) → texpr (exprs.Lit text) ≡ exprs.Lit text
  lit-is text = ap texpr (sym (exprs.rolls-Lit text)) ∙ expr-is (IExpr-F.Lit text)

  abbrev minus_or : List ℕ → Bool → IExpr
  minus_or text b = if b then exprs.Unary (codes "-") (exprs.Lit (drop 1 text)) else exprs.Lit text

  filler-is : (text : List ℕ) → texpr (filler_expr text) ≡ filler_expr text
  filler-is text = at (first text == 45) where
    at : (b : Bool) → texpr (minus_or text b) ≡ minus_or text b
    at true =
        ap texpr (sym (exprs.rolls-Unary (codes "-") (exprs.Lit (drop 1 text)))) ∙ expr-is (IExpr-F.Unary (codes "-") (exprs.Lit (drop 1 text)))
        ∙ ap (exprs.Unary (codes "-")) (lit-is (drop 1 text))
    at false = lit-is text

  all-stay : (es : List With) → map texpr (map texpr (bare_ones es)) ≡ map texpr (bare_ones es)
  all-stay [] = refl
  all-stay (e ∷ es) = λ i. e.1 i ∷ all-stay es i

  abbrev AreTidied : List Argument → Type 0
  AreTidied args = AllByRecursion (λ (argument : Argument). texpr argument.value ≡ argument.value) args

  arguments-tidied : (args : List WithArgument) → AreTidied (map targument (bare_arguments args))
  arguments-tidied [] = tt {0}
  arguments-tidied (p ∷ args) = (subst (λ (argument : Argument). texpr argument.value ≡ argument.value) (sym (argument_is present bare p.0)) p.1, arguments-tidied args)

  present-tidied : (params : List Param) (args : List Argument) → AreTidied args → map targument (arguments_for params args) ≡ arguments_for params args
  present-tidied [] args all = refl
  present-tidied (param ∷ params) args all =
      let value : texpr (value_of args param) ≡ value_of args param = value-holds (λ e. texpr e ≡ e) args all param (filler-is param.filler) in
      let head : targument (argument_for args param) ≡ argument_for args param = argument_is present bare (argument_for args param) ∙ (λ i. record { param = param.id; value = value i }) in
      λ i. head i ∷ present-tidied params args all i

  arguments-stay : (method : Id) (args : List WithArgument) → targuments method (targuments method (bare_arguments args)) ≡ targuments method (bare_arguments args)
  arguments-stay method args =
      let given : List Argument = map targument (bare_arguments args) in
      ap (arguments_for (present method)) (present-tidied (present method) given (arguments-tidied args))
      ∙ looked-up-again given (present method) (apart method)

  from : (x z : IExpr-F IExpr Argument) → tidying.expr_step present bare (map-IExpr _ _ _ _ texpr targument x) ≡ roll-IExpr z
      → tidying.expr_step present bare (map-IExpr _ _ _ _ texpr targument z) ≡ tidying.expr_step present bare (map-IExpr _ _ _ _ texpr targument x) → Stays (roll-IExpr x)
  from x z rolled same = ap texpr (expr-is x ∙ rolled) ∙ expr-is z ∙ same ∙ sym (expr-is x)

  layer-stays : (y : IExpr-F With WithArgument) → Stays (roll-IExpr (map-IExpr _ _ _ _ (λ p. p.0) (λ p. p.0) y))
  layer-stays (IExpr-F.Lit text) = from (IExpr-F.Lit text) (IExpr-F.Lit text) (sym (exprs.rolls-Lit text)) refl
  layer-stays IExpr-F.This = from IExpr-F.This IExpr-F.This (sym exprs.rolls-This) refl
  layer-stays (IExpr-F.Local number) = from (IExpr-F.Local number) (IExpr-F.Local number) (sym (exprs.rolls-Local number)) refl
  layer-stays (IExpr-F.Param id) = from (IExpr-F.Param id) (IExpr-F.Param id) (sym (exprs.rolls-Param id)) refl
  layer-stays (IExpr-F.Own field) = from (IExpr-F.Own field) (IExpr-F.Own field) (sym (exprs.rolls-Own field)) refl
  layer-stays (IExpr-F.StaticField field) =
      from (IExpr-F.StaticField field) (IExpr-F.StaticField field) (sym (exprs.rolls-StaticField field)) refl
  layer-stays (IExpr-F.OutsideName name) =
      from (IExpr-F.OutsideName name) (IExpr-F.OutsideName name) (sym (exprs.rolls-OutsideName name)) refl
  layer-stays (IExpr-F.OutsideClass full) =
      from (IExpr-F.OutsideClass full) (IExpr-F.OutsideClass full) (sym (exprs.rolls-OutsideClass full)) refl
  layer-stays (IExpr-F.Field field e) =
      from (IExpr-F.Field field e.0) (IExpr-F.Field field (texpr e.0))
      (sym (exprs.rolls-Field field (texpr e.0))) (λ j. exprs.Field field (e.1 j))
  layer-stays (IExpr-F.Call method args) =
      from (IExpr-F.Call method (bare_arguments args)) (IExpr-F.Call method (targuments method (bare_arguments args)))
      (sym (exprs.rolls-Call method (targuments method (bare_arguments args)))) (λ j. exprs.Call method (arguments-stay method args j))
  layer-stays (IExpr-F.StaticCall method args) =
      from (IExpr-F.StaticCall method (bare_arguments args)) (IExpr-F.StaticCall method (targuments method (bare_arguments args)))
      (sym (exprs.rolls-StaticCall method (targuments method (bare_arguments args)))) (λ j. exprs.StaticCall method (arguments-stay method args j))
  layer-stays (IExpr-F.SuperCall method args) =
      from (IExpr-F.SuperCall method (bare_arguments args)) (IExpr-F.SuperCall method (targuments method (bare_arguments args)))
      (sym (exprs.rolls-SuperCall method (targuments method (bare_arguments args)))) (λ j. exprs.SuperCall method (arguments-stay method args j))
  layer-stays (IExpr-F.New method args) =
      from (IExpr-F.New method (bare_arguments args)) (IExpr-F.New method (targuments method (bare_arguments args)))
      (sym (exprs.rolls-New method (targuments method (bare_arguments args)))) (λ j. exprs.New method (arguments-stay method args j))
  layer-stays (IExpr-F.CallOn method e args) =
      from (IExpr-F.CallOn method e.0 (bare_arguments args)) (IExpr-F.CallOn method (texpr e.0) (targuments method (bare_arguments args)))
      (sym (exprs.rolls-CallOn method (texpr e.0) (targuments method (bare_arguments args)))) (λ j. exprs.CallOn method (e.1 j) (arguments-stay method args j))
  layer-stays (IExpr-F.Cond test a b) =
      from (IExpr-F.Cond test.0 a.0 b.0) (IExpr-F.Cond (texpr test.0) (texpr a.0) (texpr b.0))
      (sym (exprs.rolls-Cond (texpr test.0) (texpr a.0) (texpr b.0))) (λ j. exprs.Cond (test.1 j) (a.1 j) (b.1 j))
  layer-stays (IExpr-F.OutsideField name e) =
      from (IExpr-F.OutsideField name e.0) (IExpr-F.OutsideField name (texpr e.0))
      (sym (exprs.rolls-OutsideField name (texpr e.0))) (λ j. exprs.OutsideField name (e.1 j))
  layer-stays (IExpr-F.OutsideCall name es) =
      from (IExpr-F.OutsideCall name (bare_ones es)) (IExpr-F.OutsideCall name (map texpr (bare_ones es)))
      (sym (exprs.rolls-OutsideCall name (map texpr (bare_ones es)))) (λ j. exprs.OutsideCall name (all-stay es j))
  layer-stays (IExpr-F.OutsideSuperCall name es) =
      from (IExpr-F.OutsideSuperCall name (bare_ones es)) (IExpr-F.OutsideSuperCall name (map texpr (bare_ones es)))
      (sym (exprs.rolls-OutsideSuperCall name (map texpr (bare_ones es)))) (λ j. exprs.OutsideSuperCall name (all-stay es j))
  layer-stays (IExpr-F.OutsideCallOn name e es) =
      from (IExpr-F.OutsideCallOn name e.0 (bare_ones es)) (IExpr-F.OutsideCallOn name (texpr e.0) (map texpr (bare_ones es)))
      (sym (exprs.rolls-OutsideCallOn name (texpr e.0) (map texpr (bare_ones es)))) (λ j. exprs.OutsideCallOn name (e.1 j) (all-stay es j))
  layer-stays (IExpr-F.NewOutside ty es) =
      from (IExpr-F.NewOutside ty (bare_ones es)) (IExpr-F.NewOutside ty (map texpr (bare_ones es)))
      (sym (exprs.rolls-NewOutside ty (map texpr (bare_ones es)))) (λ j. exprs.NewOutside ty (all-stay es j))
  layer-stays (IExpr-F.NewArray ty es pairs) =
      from (IExpr-F.NewArray ty (bare_ones es) pairs) (IExpr-F.NewArray ty (map texpr (bare_ones es)) pairs)
      (sym (exprs.rolls-NewArray ty (map texpr (bare_ones es)) pairs)) (λ j. exprs.NewArray ty (all-stay es j) pairs)
  layer-stays (IExpr-F.ArrayLit ty es) =
      from (IExpr-F.ArrayLit ty (bare_ones es)) (IExpr-F.ArrayLit ty (map texpr (bare_ones es)))
      (sym (exprs.rolls-ArrayLit ty (map texpr (bare_ones es)))) (λ j. exprs.ArrayLit ty (all-stay es j))
  layer-stays (IExpr-F.Braces es) =
      from (IExpr-F.Braces (bare_ones es)) (IExpr-F.Braces (map texpr (bare_ones es)))
      (sym (exprs.rolls-Braces (map texpr (bare_ones es)))) (λ j. exprs.Braces (all-stay es j))
  layer-stays (IExpr-F.Index e i) =
      from (IExpr-F.Index e.0 i.0) (IExpr-F.Index (texpr e.0) (texpr i.0))
      (sym (exprs.rolls-Index (texpr e.0) (texpr i.0))) (λ j. exprs.Index (e.1 j) (i.1 j))
  layer-stays (IExpr-F.Unary op e) =
      from (IExpr-F.Unary op e.0) (IExpr-F.Unary op (texpr e.0))
      (sym (exprs.rolls-Unary op (texpr e.0))) (λ j. exprs.Unary op (e.1 j))
  layer-stays (IExpr-F.Post op e) =
      from (IExpr-F.Post op e.0) (IExpr-F.Post op (texpr e.0))
      (sym (exprs.rolls-Post op (texpr e.0))) (λ j. exprs.Post op (e.1 j))
  layer-stays (IExpr-F.Binary op a b) =
      from (IExpr-F.Binary op a.0 b.0) (IExpr-F.Binary op (texpr a.0) (texpr b.0))
      (sym (exprs.rolls-Binary op (texpr a.0) (texpr b.0))) (λ j. exprs.Binary op (a.1 j) (b.1 j))
  layer-stays (IExpr-F.Assign op a b) =
      from (IExpr-F.Assign op a.0 b.0) (IExpr-F.Assign op (texpr a.0) (texpr b.0))
      (sym (exprs.rolls-Assign op (texpr a.0) (texpr b.0))) (λ j. exprs.Assign op (a.1 j) (b.1 j))
  layer-stays (IExpr-F.Cast ty e) =
      from (IExpr-F.Cast ty e.0) (IExpr-F.Cast ty (texpr e.0))
      (sym (exprs.rolls-Cast ty (texpr e.0))) (λ j. exprs.Cast ty (e.1 j))
  layer-stays (IExpr-F.InstanceOf e ty) =
      from (IExpr-F.InstanceOf e.0 ty) (IExpr-F.InstanceOf (texpr e.0) ty)
      (sym (exprs.rolls-InstanceOf (texpr e.0) ty)) (λ j. exprs.InstanceOf (e.1 j) ty)
  layer-stays (IExpr-F.NewDefault class) = at (bare class) refl where
    at : (o : Option Id) → bare class ≡ o → Stays (roll-IExpr (IExpr-F.NewDefault class))
    at None e = from (IExpr-F.NewDefault class) (IExpr-F.NewDefault class) (ap (creation class) e ∙ sym (exprs.rolls-NewDefault class)) refl
    at (Some constructor) e =
        from (IExpr-F.NewDefault class) (IExpr-F.New constructor []) (ap (creation class) e ∙ sym (exprs.rolls-New constructor []))
        (ap (λ params. exprs.New constructor (arguments_for params [])) (plain class constructor e) ∙ sym (ap (creation class) e))

  pub expr-stays : (e : IExpr) → Stays e
  expr-stays = ind-IExpr Stays StaysArgument (λ x y is. subst (λ z. Stays (roll-IExpr z)) is (layer-stays y))
      (λ x y is. subst (λ z. StaysArgument (roll-Argument z)) is y.value.1)

  -- ---- arguments outside of expressions

  abbrev with-laws : List Argument → List WithArgument
  with-laws [] = []
  with-laws (argument ∷ args) = (argument, expr-stays argument.value) ∷ with-laws args

  same-arguments : (args : List Argument) → bare_arguments (with-laws args) ≡ args
  same-arguments [] = refl
  same-arguments (argument ∷ args) = λ i. argument ∷ same-arguments args i

  pub call-stays : (method : Id) (args : List Argument) → targuments method (targuments method args) ≡ targuments method args
  call-stays method args = subst (λ (list : List Argument). targuments method (targuments method list) ≡ targuments method list) (same-arguments args) (arguments-stay method (with-laws args))
