-- Tidying keeps the forms of expressions, and what a tidied expression mentions passes a test that all passes which the
-- expression mentions, and the constructors that come in.
use Rattle.std.specs.Prelude.{◌≡◌, ℕ, ◌+◌, ◌==◌, Bool, true, false, ◌&&◌, ◌||◌, not, nat_le, List, [], ◌∷◌, ◌++◌, map, drop, length, Option, None, Some, if◌then◌else◌, codes}
use Rattle.std.proofs.Common.{suc, refl, sym, ap, subst, ◌∙◌, true≢false}
use Rattle.std.proofs.lemmas.List.Folds.{list_all-append}
use Rattle.std.specs.List.{AllByRecursion, list_all}
use Rattle.mol_base.specs.Lexical.Characters.{first}
use Rattle.mol_base.specs.declared.ident.Id.{Id}
use Rattle.mol_base.specs.Operators.{is_prefix, is_step}
use Rattle.mol_table_rules.specs.ExpressionForms as forms
use Rattle.mol_table_rules.specs.ExpressionForms.{Shape, plain, target, statement, is_value, is_first_value, are_values, are_arguments, shape_of}
use Rattle.mol_table_rules.specs.Mentions as mention
use Rattle.mol_table_rules.specs.Mentions.{Mention, a_constructor, named, joined, expr_mentions}
use Rattle.mol_table_rules.specs.Program.{same_id}
use Rattle.mol_table_rules.specs.Tidy as tidy
use Rattle.mol_table_rules.specs.Tidy.{value_of, argument_for, arguments_for, filler_expr, creation, tidy_expr, tidy_argument}
use Rattle.mol_values_types.specs.TokenForms.{is_literal, is_filler}
use Rattle.mol_values_types.specs.declared.iexpr.Argument.{Argument, fold-Argument}
use Rattle.mol_values_types.specs.declared.iexpr.IExpr.{IExpr}
use Rattle.mol_values_types.specs.declared.iexpr.IExpr.TheOpen.{IExpr-F}
use Rattle.mol_values_types.specs.declared.iexpr.IExpr.TheFolds.{fold-roll-IExpr, fold-roll-Argument, ind-IExpr, map-IExpr}
use Rattle.mol_values_types.specs.declared.iexpr.IExpr.TheVariants as exprs
use Rattle.mol_values_types.specs.declared.iexpr.IExpr.TheViews.{roll-IExpr, roll-Argument}
use Rattle.mol_values_types.specs.declared.param.Param.{Param}
use Rattle.mol_table_rules.proofs.Fillers.{filler-number, filler-literal}
use Rattle.mol_table_rules.proofs.Tidied.{argument_is}

pub and-imp : (a b c d : Bool) → (a ≡ true → b ≡ true) → (c ≡ true → d ≡ true) → (a && c) ≡ true → (b && d) ≡ true
and-imp true b c d f g e = ap (λ x. x && d) (f refl) ∙ g e
and-imp false b c d f g e = absurd (true≢false (sym e))

pub all-imp : {X : Type 0} (p : X → Bool) (xs ys us vs : List X) → (list_all p xs ≡ true → list_all p us ≡ true) → (list_all p ys ≡ true → list_all p vs ≡ true)
    → list_all p (xs ++ ys) ≡ true → list_all p (us ++ vs) ≡ true
all-imp p xs ys us vs f g e = list_all-append p us vs ∙ and-imp _ _ _ _ f g (sym (list_all-append p xs ys) ∙ e)

and-both : (a b : Bool) → (a && b) ≡ true → (a ≡ true) × (b ≡ true)
and-both true b e = (refl, e)
and-both false b e = absurd (true≢false (sym e))

and-of : (a b : Bool) → a ≡ true → b ≡ true → (a && b) ≡ true
and-of a b e f = ap (λ x. x && b) e ∙ f

mapped_length : {X Y Z : Type 0} (f : X → Y) (h : Z → X) (xs : List Z) → length (map f (map h xs)) ≡ length xs
mapped_length f h [] = refl
mapped_length f h (x ∷ xs) = ap suc (mapped_length f h xs)

same_length : {X Y Z : Type 0} (f : X → Y) (g : Z → Y) (h : Z → X) (xs : List Z) → length (map f (map h xs)) ≡ length (map g xs)
same_length f g h [] = refl
same_length f g h (x ∷ xs) = ap suc (same_length f g h xs)

-- a shape that what has it may stand wherever what has the other may
pub record Keeps (old new : Shape) : Type 0 where
  pub braces : new.braces ≡ old.braces
  pub target : new.target ≡ old.target
  pub statement : new.statement ≡ old.statement
  pub formed : old.formed ≡ true → new.formed ≡ true

keeps-same : (shape : Shape) → Keeps shape shape
keeps-same shape = record { braces = refl; target = refl; statement = refl; formed = λ h. h }

keeps-plain : (a b : Bool) → (a ≡ true → b ≡ true) → Keeps (plain a) (plain b)
keeps-plain a b f = record { braces = refl; target = refl; statement = refl; formed = f }

keeps-target : (a b : Bool) → (a ≡ true → b ≡ true) → Keeps (target a) (target b)
keeps-target a b f = record { braces = refl; target = refl; statement = refl; formed = f }

keeps-statement : (a b : Bool) → (a ≡ true → b ≡ true) → Keeps (statement a) (statement b)
keeps-statement a b f = record { braces = refl; target = refl; statement = refl; formed = f }

pub value-kept : (old new : Shape) → Keeps old new → is_value old ≡ true → is_value new ≡ true
value-kept old new keeps = and-imp old.formed new.formed (not old.braces) (not new.braces) keeps.formed (λ h. ap not keeps.braces ∙ h)

-- an argument has the shape of its value, and mentions what that does
abbrev pub argument_shape : Argument → Shape
argument_shape = fold-Argument Shape Shape forms.shape_step forms.argument_step

abbrev pub argument_mentions : Argument → List Mention
argument_mentions = fold-Argument (List Mention) (List Mention) mention.expr_step mention.argument_step

shape_is : (argument : Argument) → argument_shape argument ≡ shape_of argument.value
shape_is argument = fold-roll-Argument Shape Shape forms.shape_step forms.argument_step (record { param = argument.param; value = argument.value })

mentions_are : (argument : Argument) → argument_mentions argument ≡ expr_mentions argument.value
mentions_are argument = fold-roll-Argument (List Mention) (List Mention) mention.expr_step mention.argument_step (record { param = argument.param; value = argument.value })

-- ---- fillers

shape-Lit : (text : List ℕ) → shape_of (exprs.Lit text) ≡ plain (is_literal text)
shape-Lit text = ap shape_of (sym (exprs.rolls-Lit text)) ∙ fold-roll-IExpr Shape Shape forms.shape_step forms.argument_step (IExpr-F.Lit text)

shape-Unary : (op : List ℕ) (e : IExpr) → shape_of (exprs.Unary op e) ≡ forms.shape_step (IExpr-F.Unary op (shape_of e))
shape-Unary op e = ap shape_of (sym (exprs.rolls-Unary op e)) ∙ fold-roll-IExpr Shape Shape forms.shape_step forms.argument_step (IExpr-F.Unary op e)

mentions-Lit : (text : List ℕ) → expr_mentions (exprs.Lit text) ≡ []
mentions-Lit text = ap expr_mentions (sym (exprs.rolls-Lit text)) ∙ fold-roll-IExpr (List Mention) (List Mention) mention.expr_step mention.argument_step (IExpr-F.Lit text)

mentions-Unary : (op : List ℕ) (e : IExpr) → expr_mentions (exprs.Unary op e) ≡ expr_mentions e
mentions-Unary op e = ap expr_mentions (sym (exprs.rolls-Unary op e)) ∙ fold-roll-IExpr (List Mention) (List Mention) mention.expr_step mention.argument_step (IExpr-F.Unary op e)

is_value-plain : (b : Bool) → b ≡ true → is_value (plain b) ≡ true
is_value-plain b e = ap (λ x. x && true) e

filler-value : (text : List ℕ) → is_filler text ≡ true → is_value (shape_of (filler_expr text)) ≡ true
filler-value text is = at (first text == 45) refl where
  at : (b : Bool) → (first text == 45) ≡ b → is_value (shape_of (if b then exprs.Unary (codes "-") (exprs.Lit (drop 1 text)) else exprs.Lit text)) ≡ true
  at true e =
      ap is_value (shape-Unary (codes "-") (exprs.Lit (drop 1 text)))
      ∙ ap (λ shape. is_value (forms.shape_step (IExpr-F.Unary (codes "-") shape))) (shape-Lit (drop 1 text) ∙ ap plain (filler-number text is e))
  at false e = ap is_value (shape-Lit text ∙ ap plain (filler-literal text is e))

filler-mentions : (text : List ℕ) → expr_mentions (filler_expr text) ≡ []
filler-mentions text = at (first text == 45) where
  at : (b : Bool) → expr_mentions (if b then exprs.Unary (codes "-") (exprs.Lit (drop 1 text)) else exprs.Lit text) ≡ []
  at true = mentions-Unary (codes "-") (exprs.Lit (drop 1 text)) ∙ mentions-Lit (drop 1 text)
  at false = mentions-Lit text

-- what holds of each argument and of a filler holds of the value for a parameter
pub value-holds : (Q : IExpr → Type 0) (args : List Argument) → AllByRecursion (λ (argument : Argument). Q argument.value) args
    → (param : Param) → Q (filler_expr param.filler) → Q (value_of args param)
value-holds Q [] all param filler = filler
value-holds Q (argument ∷ args) all param filler = at (same_id param.id argument.param) (value-holds Q args all.1 param filler) where
  at : (b : Bool) → Q (value_of args param) → Q (if b then argument.value else value_of args param)
  at true later = all.0
  at false later = later

abbrev pub are_fillers : List Param → Bool
are_fillers params = list_all (λ (param : Param). is_filler param.filler) params

module _ (present : Id → List Param) (bare : Id → Option Id) (passes : Mention → Bool)
    (few : (method : Id) → nat_le (length (present method)) 255 ≡ true)
    (fillers : (method : Id) → are_fillers (present method) ≡ true)
    (constructors : (class constructor : Id) → bare class ≡ Some constructor → passes (record { role = a_constructor; id = constructor }) ≡ true) where
  abbrev tidied : IExpr → IExpr
  tidied = tidy_expr present bare

  abbrev tidied_argument : Argument → Argument
  tidied_argument = tidy_argument present bare

  abbrev all : List Mention → Bool
  all = list_all passes

  -- what is proved of an expression: both laws
  abbrev pub Kept : IExpr → Type 0
  Kept e = Keeps (shape_of e) (shape_of (tidied e)) × (all (expr_mentions e) ≡ true → all (expr_mentions (tidied e)) ≡ true)

  abbrev KeptArgument : Argument → Type 0
  KeptArgument argument = Kept argument.value

  abbrev With : Type 0
  With = (e : IExpr) × Kept e

  abbrev WithArgument : Type 0
  WithArgument = (argument : Argument) × KeptArgument argument

  abbrev bare_ones : List With → List IExpr
  bare_ones es = map (λ p. p.0) es

  abbrev bare_arguments : List WithArgument → List Argument
  bare_arguments args = map (λ p. p.0) args

  one-value : (e : With) → is_value (shape_of e.0) ≡ true → is_value (shape_of (tidied e.0)) ≡ true
  one-value e = value-kept (shape_of e.0) (shape_of (tidied e.0)) e.1.0

  values : (es : List With) → are_values (map shape_of (bare_ones es)) ≡ true → are_values (map shape_of (map tidied (bare_ones es))) ≡ true
  values [] h = refl
  values (e ∷ es) h = and-imp _ _ _ _ (one-value e) (values es) h

  firsts : (es : List With) → list_all is_first_value (map shape_of (bare_ones es)) ≡ true → list_all is_first_value (map shape_of (map tidied (bare_ones es))) ≡ true
  firsts [] h = refl
  firsts (e ∷ es) h = and-imp _ _ _ _ e.1.0.formed (firsts es) h

  lengths : (es : List With) → length (map shape_of (map tidied (bare_ones es))) ≡ length (map shape_of (bare_ones es))
  lengths es = same_length shape_of shape_of tidied (bare_ones es)

  outside-arguments : (es : List With) → are_arguments (map shape_of (bare_ones es)) ≡ true → are_arguments (map shape_of (map tidied (bare_ones es))) ≡ true
  outside-arguments es h = and-imp _ _ _ _ (values es) (λ h. ap (λ n. nat_le n 255) (lengths es) ∙ h) h

  all-mentions : (es : List With) → all (joined (map expr_mentions (bare_ones es))) ≡ true → all (joined (map expr_mentions (map tidied (bare_ones es)))) ≡ true
  all-mentions [] h = refl
  all-mentions (e ∷ es) h =
      all-imp passes (expr_mentions e.0) (joined (map expr_mentions (bare_ones es))) (expr_mentions (tidied e.0)) (joined (map expr_mentions (map tidied (bare_ones es)))) e.1.1 (all-mentions es) h

  -- ---- the arguments of a call

  values-tidied : (args : List WithArgument) → are_values (map argument_shape (bare_arguments args)) ≡ true
      → AllByRecursion (λ (argument : Argument). is_value (shape_of argument.value) ≡ true) (map tidied_argument (bare_arguments args))
  values-tidied [] h = tt {0}
  values-tidied (p ∷ args) h =
      let parts = and-both _ _ h in (
        ap (λ (argument : Argument). is_value (shape_of argument.value)) (argument_is present bare p.0)
            ∙ value-kept (shape_of p.0.value) (shape_of (tidied p.0.value)) p.1.0 (sym (ap is_value (shape_is p.0)) ∙ parts.0),
        values-tidied args parts.1,
      )

  mentions-tidied : (args : List WithArgument) → all (joined (map argument_mentions (bare_arguments args))) ≡ true
      → AllByRecursion (λ (argument : Argument). all (expr_mentions argument.value) ≡ true) (map tidied_argument (bare_arguments args))
  mentions-tidied [] h = tt {0}
  mentions-tidied (p ∷ args) h =
      let parts = and-both _ _ (sym (list_all-append passes (argument_mentions p.0) (joined (map argument_mentions (bare_arguments args)))) ∙ h) in (
        ap (λ (argument : Argument). all (expr_mentions argument.value)) (argument_is present bare p.0) ∙ p.1.1 (sym (ap all (mentions_are p.0)) ∙ parts.0),
        mentions-tidied args parts.1,
      )

  values-present : (params : List Param) → are_fillers params ≡ true → (args : List Argument)
      → AllByRecursion (λ (argument : Argument). is_value (shape_of argument.value) ≡ true) args → are_values (map argument_shape (arguments_for params args)) ≡ true
  values-present [] known args h = refl
  values-present (param ∷ params) known args h =
      let parts = and-both _ _ known in
      and-of _ _ (ap is_value (shape_is (argument_for args param)) ∙ value-holds (λ e. is_value (shape_of e) ≡ true) args h param (filler-value param.filler parts.0))
      (values-present params parts.1 args h)

  mentions-present : (params : List Param) (args : List Argument)
      → AllByRecursion (λ (argument : Argument). all (expr_mentions argument.value) ≡ true) args → all (joined (map argument_mentions (arguments_for params args))) ≡ true
  mentions-present [] args h = refl
  mentions-present (param ∷ params) args h =
      list_all-append passes (argument_mentions (argument_for args param)) (joined (map argument_mentions (arguments_for params args)))
      ∙ and-of _ _ (ap all (mentions_are (argument_for args param)) ∙ value-holds (λ e. all (expr_mentions e) ≡ true) args h param (ap all (filler-mentions param.filler)))
      (mentions-present params args h)

  arguments : (method : Id) (args : List WithArgument) → are_arguments (map argument_shape (bare_arguments args)) ≡ true
      → are_arguments (map argument_shape (arguments_for (present method) (map tidied_argument (bare_arguments args)))) ≡ true
  arguments method args h =
      and-of _ _ (values-present (present method) (fillers method) _ (values-tidied args (and-both _ _ h).0))
      (ap (λ n. nat_le n 255) (mapped_length argument_shape (argument_for (map tidied_argument (bare_arguments args))) (present method)) ∙ few method)

  argument-mentions : (method : Id) (args : List WithArgument) → all (joined (map argument_mentions (bare_arguments args))) ≡ true
      → all (joined (map argument_mentions (arguments_for (present method) (map tidied_argument (bare_arguments args))))) ≡ true
  argument-mentions method args h = mentions-present (present method) _ (mentions-tidied args h)

  -- ---- each variant

  tidied-is : (x : IExpr-F IExpr Argument) → tidied (roll-IExpr x) ≡ tidy.expr_step present bare (map-IExpr _ _ _ _ tidied tidied_argument x)
  tidied-is x = fold-roll-IExpr IExpr Argument (tidy.expr_step present bare) (tidy.argument_step present bare) x

  from : (x z : IExpr-F IExpr Argument) → tidied (roll-IExpr x) ≡ roll-IExpr z
      → Keeps (forms.shape_step (map-IExpr _ _ _ _ shape_of argument_shape x)) (forms.shape_step (map-IExpr _ _ _ _ shape_of argument_shape z))
      → (all (mention.expr_step (map-IExpr _ _ _ _ expr_mentions argument_mentions x)) ≡ true → all (mention.expr_step (map-IExpr _ _ _ _ expr_mentions argument_mentions z)) ≡ true)
      → Kept (roll-IExpr x)
  from x z is keeps refers =
      let shape : (y : IExpr-F IExpr Argument) → shape_of (roll-IExpr y) ≡ forms.shape_step (map-IExpr _ _ _ _ shape_of argument_shape y) = fold-roll-IExpr Shape Shape forms.shape_step forms.argument_step in
      let mentioned : (y : IExpr-F IExpr Argument) → expr_mentions (roll-IExpr y) ≡ mention.expr_step (map-IExpr _ _ _ _ expr_mentions argument_mentions y) = fold-roll-IExpr (List Mention) (List Mention) mention.expr_step mention.argument_step in (
        subst (λ s. Keeps s (shape_of (tidied (roll-IExpr x)))) (sym (shape x)) (subst (λ s. Keeps (forms.shape_step (map-IExpr _ _ _ _ shape_of argument_shape x)) s) (sym (ap shape_of is ∙ shape z)) keeps),
        λ h. ap all (ap expr_mentions is ∙ mentioned z) ∙ refers (sym (ap all (mentioned x)) ∙ h),
      )

  kept_layer : (y : IExpr-F With WithArgument) → Kept (roll-IExpr (map-IExpr _ _ _ _ (λ p. p.0) (λ p. p.0) y))
  kept_layer (IExpr-F.Lit text) =
      from (IExpr-F.Lit text) (IExpr-F.Lit text) (tidied-is (IExpr-F.Lit text) ∙ sym (exprs.rolls-Lit text))
      (keeps-same _)
      (λ h. h)
  kept_layer IExpr-F.This =
      from IExpr-F.This IExpr-F.This (tidied-is IExpr-F.This ∙ sym exprs.rolls-This)
      (keeps-same _)
      (λ h. h)
  kept_layer (IExpr-F.Local number) =
      from (IExpr-F.Local number) (IExpr-F.Local number) (tidied-is (IExpr-F.Local number) ∙ sym (exprs.rolls-Local number))
      (keeps-same _)
      (λ h. h)
  kept_layer (IExpr-F.Param id) =
      from (IExpr-F.Param id) (IExpr-F.Param id) (tidied-is (IExpr-F.Param id) ∙ sym (exprs.rolls-Param id))
      (keeps-same _)
      (λ h. h)
  kept_layer (IExpr-F.Own field) =
      from (IExpr-F.Own field) (IExpr-F.Own field) (tidied-is (IExpr-F.Own field) ∙ sym (exprs.rolls-Own field))
      (keeps-same _)
      (λ h. h)
  kept_layer (IExpr-F.StaticField field) =
      from (IExpr-F.StaticField field) (IExpr-F.StaticField field) (tidied-is (IExpr-F.StaticField field) ∙ sym (exprs.rolls-StaticField field))
      (keeps-same _)
      (λ h. h)
  kept_layer (IExpr-F.OutsideName name) =
      from (IExpr-F.OutsideName name) (IExpr-F.OutsideName name) (tidied-is (IExpr-F.OutsideName name) ∙ sym (exprs.rolls-OutsideName name))
      (keeps-same _)
      (λ h. h)
  kept_layer (IExpr-F.OutsideClass full) =
      from (IExpr-F.OutsideClass full) (IExpr-F.OutsideClass full) (tidied-is (IExpr-F.OutsideClass full) ∙ sym (exprs.rolls-OutsideClass full))
      (keeps-same _)
      (λ h. h)
  kept_layer (IExpr-F.Field field e) =
      from (IExpr-F.Field field e.0) (IExpr-F.Field field (tidied e.0)) (tidied-is (IExpr-F.Field field e.0) ∙ sym (exprs.rolls-Field field (tidied e.0)))
      (keeps-target _ _ (one-value e))
      (all-imp passes (named mention.a_field field) (expr_mentions e.0) (named mention.a_field field) (expr_mentions (tidied e.0)) (λ h. h) e.1.1)
  kept_layer (IExpr-F.Call method args) =
      from (IExpr-F.Call method (bare_arguments args)) (IExpr-F.Call method (arguments_for (present method) (map tidied_argument (bare_arguments args)))) (tidied-is (IExpr-F.Call method (bare_arguments args)) ∙ sym (exprs.rolls-Call method (arguments_for (present method) (map tidied_argument (bare_arguments args)))))
      (keeps-statement _ _ (arguments method args))
      (all-imp passes (named mention.a_called_method method) (joined (map argument_mentions (bare_arguments args))) (named mention.a_called_method method) (joined (map argument_mentions (arguments_for (present method) (map tidied_argument (bare_arguments args))))) (λ h. h) (argument-mentions method args))
  kept_layer (IExpr-F.StaticCall method args) =
      from (IExpr-F.StaticCall method (bare_arguments args)) (IExpr-F.StaticCall method (arguments_for (present method) (map tidied_argument (bare_arguments args)))) (tidied-is (IExpr-F.StaticCall method (bare_arguments args)) ∙ sym (exprs.rolls-StaticCall method (arguments_for (present method) (map tidied_argument (bare_arguments args)))))
      (keeps-statement _ _ (arguments method args))
      (all-imp passes (named mention.a_static_method method) (joined (map argument_mentions (bare_arguments args))) (named mention.a_static_method method) (joined (map argument_mentions (arguments_for (present method) (map tidied_argument (bare_arguments args))))) (λ h. h) (argument-mentions method args))
  kept_layer (IExpr-F.SuperCall method args) =
      from (IExpr-F.SuperCall method (bare_arguments args)) (IExpr-F.SuperCall method (arguments_for (present method) (map tidied_argument (bare_arguments args)))) (tidied-is (IExpr-F.SuperCall method (bare_arguments args)) ∙ sym (exprs.rolls-SuperCall method (arguments_for (present method) (map tidied_argument (bare_arguments args)))))
      (keeps-statement _ _ (arguments method args))
      (all-imp passes (named mention.a_called_method method) (joined (map argument_mentions (bare_arguments args))) (named mention.a_called_method method) (joined (map argument_mentions (arguments_for (present method) (map tidied_argument (bare_arguments args))))) (λ h. h) (argument-mentions method args))
  kept_layer (IExpr-F.New method args) =
      from (IExpr-F.New method (bare_arguments args)) (IExpr-F.New method (arguments_for (present method) (map tidied_argument (bare_arguments args)))) (tidied-is (IExpr-F.New method (bare_arguments args)) ∙ sym (exprs.rolls-New method (arguments_for (present method) (map tidied_argument (bare_arguments args)))))
      (keeps-statement _ _ (arguments method args))
      (all-imp passes (named mention.a_constructor method) (joined (map argument_mentions (bare_arguments args))) (named mention.a_constructor method) (joined (map argument_mentions (arguments_for (present method) (map tidied_argument (bare_arguments args))))) (λ h. h) (argument-mentions method args))
  kept_layer (IExpr-F.CallOn method e args) =
      from (IExpr-F.CallOn method e.0 (bare_arguments args)) (IExpr-F.CallOn method (tidied e.0) (arguments_for (present method) (map tidied_argument (bare_arguments args)))) (tidied-is (IExpr-F.CallOn method e.0 (bare_arguments args)) ∙ sym (exprs.rolls-CallOn method (tidied e.0) (arguments_for (present method) (map tidied_argument (bare_arguments args)))))
      (keeps-statement _ _ (and-imp _ _ _ _ (one-value e) (arguments method args)))
      (all-imp passes (named mention.a_called_method method ++ expr_mentions e.0) (joined (map argument_mentions (bare_arguments args))) (named mention.a_called_method method ++ expr_mentions (tidied e.0)) (joined (map argument_mentions (arguments_for (present method) (map tidied_argument (bare_arguments args))))) (all-imp passes (named mention.a_called_method method) (expr_mentions e.0) (named mention.a_called_method method) (expr_mentions (tidied e.0)) (λ h. h) e.1.1) (argument-mentions method args))
  kept_layer (IExpr-F.Cond test a b) =
      from (IExpr-F.Cond test.0 a.0 b.0) (IExpr-F.Cond (tidied test.0) (tidied a.0) (tidied b.0)) (tidied-is (IExpr-F.Cond test.0 a.0 b.0) ∙ sym (exprs.rolls-Cond (tidied test.0) (tidied a.0) (tidied b.0)))
      (keeps-plain _ _ (and-imp _ _ _ _ (and-imp _ _ _ _ (one-value test) (one-value a)) (one-value b)))
      (all-imp passes (expr_mentions test.0 ++ expr_mentions a.0) (expr_mentions b.0) (expr_mentions (tidied test.0) ++ expr_mentions (tidied a.0)) (expr_mentions (tidied b.0)) (all-imp passes (expr_mentions test.0) (expr_mentions a.0) (expr_mentions (tidied test.0)) (expr_mentions (tidied a.0)) test.1.1 a.1.1) b.1.1)
  kept_layer (IExpr-F.OutsideField name e) =
      from (IExpr-F.OutsideField name e.0) (IExpr-F.OutsideField name (tidied e.0)) (tidied-is (IExpr-F.OutsideField name e.0) ∙ sym (exprs.rolls-OutsideField name (tidied e.0)))
      (keeps-target _ _ (and-imp _ _ _ _ (λ h. h) (one-value e)))
      e.1.1
  kept_layer (IExpr-F.OutsideCall name es) =
      from (IExpr-F.OutsideCall name (bare_ones es)) (IExpr-F.OutsideCall name (map tidied (bare_ones es))) (tidied-is (IExpr-F.OutsideCall name (bare_ones es)) ∙ sym (exprs.rolls-OutsideCall name (map tidied (bare_ones es))))
      (keeps-statement _ _ (and-imp _ _ _ _ (λ h. h) (outside-arguments es)))
      (all-mentions es)
  kept_layer (IExpr-F.OutsideSuperCall name es) =
      from (IExpr-F.OutsideSuperCall name (bare_ones es)) (IExpr-F.OutsideSuperCall name (map tidied (bare_ones es))) (tidied-is (IExpr-F.OutsideSuperCall name (bare_ones es)) ∙ sym (exprs.rolls-OutsideSuperCall name (map tidied (bare_ones es))))
      (keeps-statement _ _ (and-imp _ _ _ _ (λ h. h) (outside-arguments es)))
      (all-mentions es)
  kept_layer (IExpr-F.OutsideCallOn name e es) =
      from (IExpr-F.OutsideCallOn name e.0 (bare_ones es)) (IExpr-F.OutsideCallOn name (tidied e.0) (map tidied (bare_ones es))) (tidied-is (IExpr-F.OutsideCallOn name e.0 (bare_ones es)) ∙ sym (exprs.rolls-OutsideCallOn name (tidied e.0) (map tidied (bare_ones es))))
      (keeps-statement _ _ (and-imp _ _ _ _ (and-imp _ _ _ _ (λ h. h) (one-value e)) (outside-arguments es)))
      (all-imp passes (expr_mentions e.0) (joined (map expr_mentions (bare_ones es))) (expr_mentions (tidied e.0)) (joined (map expr_mentions (map tidied (bare_ones es)))) e.1.1 (all-mentions es))
  kept_layer (IExpr-F.NewOutside ty es) =
      from (IExpr-F.NewOutside ty (bare_ones es)) (IExpr-F.NewOutside ty (map tidied (bare_ones es))) (tidied-is (IExpr-F.NewOutside ty (bare_ones es)) ∙ sym (exprs.rolls-NewOutside ty (map tidied (bare_ones es))))
      (keeps-statement _ _ (and-imp _ _ _ _ (λ h. h) (outside-arguments es)))
      (all-imp passes (mention.type_mentions ty) (joined (map expr_mentions (bare_ones es))) (mention.type_mentions ty) (joined (map expr_mentions (map tidied (bare_ones es)))) (λ h. h) (all-mentions es))
  kept_layer (IExpr-F.NewArray ty es pairs) =
      from (IExpr-F.NewArray ty (bare_ones es) pairs) (IExpr-F.NewArray ty (map tidied (bare_ones es)) pairs) (tidied-is (IExpr-F.NewArray ty (bare_ones es) pairs) ∙ sym (exprs.rolls-NewArray ty (map tidied (bare_ones es)) pairs))
      (keeps-plain _ _ (and-imp _ _ _ _ (and-imp _ _ _ _ (and-imp _ _ _ _ (λ h. h) (values es)) (λ h. ap (λ n. nat_le 1 n) (lengths es) ∙ h)) (λ h. ap (λ n. nat_le (n + pairs) 255) (lengths es) ∙ h)))
      (all-imp passes (mention.type_mentions ty) (joined (map expr_mentions (bare_ones es))) (mention.type_mentions ty) (joined (map expr_mentions (map tidied (bare_ones es)))) (λ h. h) (all-mentions es))
  kept_layer (IExpr-F.ArrayLit ty es) =
      from (IExpr-F.ArrayLit ty (bare_ones es)) (IExpr-F.ArrayLit ty (map tidied (bare_ones es))) (tidied-is (IExpr-F.ArrayLit ty (bare_ones es)) ∙ sym (exprs.rolls-ArrayLit ty (map tidied (bare_ones es))))
      (keeps-plain _ _ (and-imp _ _ _ _ (λ h. h) (firsts es)))
      (all-imp passes (mention.type_mentions ty) (joined (map expr_mentions (bare_ones es))) (mention.type_mentions ty) (joined (map expr_mentions (map tidied (bare_ones es)))) (λ h. h) (all-mentions es))
  kept_layer (IExpr-F.Braces es) =
      from (IExpr-F.Braces (bare_ones es)) (IExpr-F.Braces (map tidied (bare_ones es))) (tidied-is (IExpr-F.Braces (bare_ones es)) ∙ sym (exprs.rolls-Braces (map tidied (bare_ones es))))
      (record { braces = refl; target = refl; statement = refl; formed = firsts es })
      (all-mentions es)
  kept_layer (IExpr-F.Index e i) =
      from (IExpr-F.Index e.0 i.0) (IExpr-F.Index (tidied e.0) (tidied i.0)) (tidied-is (IExpr-F.Index e.0 i.0) ∙ sym (exprs.rolls-Index (tidied e.0) (tidied i.0)))
      (keeps-target _ _ (and-imp _ _ _ _ (one-value e) (one-value i)))
      (all-imp passes (expr_mentions e.0) (expr_mentions i.0) (expr_mentions (tidied e.0)) (expr_mentions (tidied i.0)) e.1.1 i.1.1)
  kept_layer (IExpr-F.Unary op e) =
      from (IExpr-F.Unary op e.0) (IExpr-F.Unary op (tidied e.0)) (tidied-is (IExpr-F.Unary op e.0) ∙ sym (exprs.rolls-Unary op (tidied e.0)))
      (record { braces = refl; target = refl; statement = refl; formed = (and-imp _ _ _ _ (one-value e) (λ h. ap (λ t. is_prefix op || (is_step op && t)) e.1.0.target ∙ h)) })
      e.1.1
  kept_layer (IExpr-F.Post op e) =
      from (IExpr-F.Post op e.0) (IExpr-F.Post op (tidied e.0)) (tidied-is (IExpr-F.Post op e.0) ∙ sym (exprs.rolls-Post op (tidied e.0)))
      (keeps-statement _ _ (and-imp _ _ _ _ (and-imp _ _ _ _ (one-value e) (λ h. h)) (λ h. e.1.0.target ∙ h)))
      e.1.1
  kept_layer (IExpr-F.Binary op a b) =
      from (IExpr-F.Binary op a.0 b.0) (IExpr-F.Binary op (tidied a.0) (tidied b.0)) (tidied-is (IExpr-F.Binary op a.0 b.0) ∙ sym (exprs.rolls-Binary op (tidied a.0) (tidied b.0)))
      (keeps-plain _ _ (and-imp _ _ _ _ (and-imp _ _ _ _ (λ h. h) (one-value a)) (one-value b)))
      (all-imp passes (expr_mentions a.0) (expr_mentions b.0) (expr_mentions (tidied a.0)) (expr_mentions (tidied b.0)) a.1.1 b.1.1)
  kept_layer (IExpr-F.Assign op a b) =
      from (IExpr-F.Assign op a.0 b.0) (IExpr-F.Assign op (tidied a.0) (tidied b.0)) (tidied-is (IExpr-F.Assign op a.0 b.0) ∙ sym (exprs.rolls-Assign op (tidied a.0) (tidied b.0)))
      (keeps-statement _ _ (and-imp _ _ _ _ (and-imp _ _ _ _ (and-imp _ _ _ _ (λ h. h) (one-value a)) (λ h. a.1.0.target ∙ h)) (one-value b)))
      (all-imp passes (expr_mentions a.0) (expr_mentions b.0) (expr_mentions (tidied a.0)) (expr_mentions (tidied b.0)) a.1.1 b.1.1)
  kept_layer (IExpr-F.Cast ty e) =
      from (IExpr-F.Cast ty e.0) (IExpr-F.Cast ty (tidied e.0)) (tidied-is (IExpr-F.Cast ty e.0) ∙ sym (exprs.rolls-Cast ty (tidied e.0)))
      (keeps-plain _ _ (and-imp _ _ _ _ (λ h. h) (one-value e)))
      (all-imp passes (mention.type_mentions ty) (expr_mentions e.0) (mention.type_mentions ty) (expr_mentions (tidied e.0)) (λ h. h) e.1.1)
  kept_layer (IExpr-F.InstanceOf e ty) =
      from (IExpr-F.InstanceOf e.0 ty) (IExpr-F.InstanceOf (tidied e.0) ty) (tidied-is (IExpr-F.InstanceOf e.0 ty) ∙ sym (exprs.rolls-InstanceOf (tidied e.0) ty))
      (keeps-plain _ _ (and-imp _ _ _ _ (one-value e) (λ h. h)))
      (all-imp passes (expr_mentions e.0) (mention.type_mentions ty) (expr_mentions (tidied e.0)) (mention.type_mentions ty) e.1.1 (λ h. h))
  kept_layer (IExpr-F.NewDefault class) = at (bare class) refl where
    at : (o : Option Id) → bare class ≡ o → Kept (roll-IExpr (IExpr-F.NewDefault class))
    at None e =
        from (IExpr-F.NewDefault class) (IExpr-F.NewDefault class) (tidied-is (IExpr-F.NewDefault class) ∙ ap (creation class) e ∙ sym (exprs.rolls-NewDefault class)) (keeps-same _) (λ h. h)
    at (Some constructor) e =
        from (IExpr-F.NewDefault class) (IExpr-F.New constructor []) (tidied-is (IExpr-F.NewDefault class) ∙ ap (creation class) e ∙ sym (exprs.rolls-New constructor []))
        (keeps-statement true true (λ h. h)) (λ h. and-of _ _ (constructors class constructor e) refl)

  -- tidying keeps the form of an expression, and what it mentions passes the test
  pub kept : (e : IExpr) → Kept e
  kept = ind-IExpr Kept KeptArgument (λ x y is. subst (λ z. Kept (roll-IExpr z)) is (kept_layer y))
      (λ x y is. subst (λ z. KeptArgument (roll-Argument z)) is y.value.1)

  -- ---- arguments outside of expressions

  abbrev with-laws : List Argument → List WithArgument
  with-laws [] = []
  with-laws (argument ∷ args) = (argument, kept argument.value) ∷ with-laws args

  same-arguments : (args : List Argument) → bare_arguments (with-laws args) ≡ args
  same-arguments [] = refl
  same-arguments (argument ∷ args) = λ i. argument ∷ same-arguments args i

  shapes-are : (args : List Argument) → map argument_shape args ≡ map (λ (argument : Argument). shape_of argument.value) args
  shapes-are [] = refl
  shapes-are (argument ∷ args) = λ i. shape_is argument i ∷ shapes-are args i

  joined-are : (args : List Argument) → joined (map argument_mentions args) ≡ mention.arguments_mentions args
  joined-are [] = refl
  joined-are (argument ∷ args) = λ i. mentions_are argument i ++ joined-are args i

  -- arguments of a call that is no expression
  pub arguments-kept : (method : Id) (args : List Argument) → are_arguments (map (λ (argument : Argument). shape_of argument.value) args) ≡ true
      → are_arguments (map (λ (argument : Argument). shape_of argument.value) (arguments_for (present method) (map tidied_argument args))) ≡ true
  arguments-kept method args h =
      let own : are_arguments (map argument_shape args) ≡ true → are_arguments (map argument_shape (arguments_for (present method) (map tidied_argument args))) ≡ true =
      subst (λ (list : List Argument). are_arguments (map argument_shape list) ≡ true → are_arguments (map argument_shape (arguments_for (present method) (map tidied_argument list))) ≡ true)
      (same-arguments args) (arguments method (with-laws args)) in
      sym (ap are_arguments (shapes-are (arguments_for (present method) (map tidied_argument args)))) ∙ own (ap are_arguments (shapes-are args) ∙ h)

  pub mentions-kept : (method : Id) (args : List Argument) → all (mention.arguments_mentions args) ≡ true
      → all (mention.arguments_mentions (arguments_for (present method) (map tidied_argument args))) ≡ true
  mentions-kept method args h =
      let own : all (joined (map argument_mentions args)) ≡ true → all (joined (map argument_mentions (arguments_for (present method) (map tidied_argument args)))) ≡ true =
      subst (λ (list : List Argument). all (joined (map argument_mentions list)) ≡ true → all (joined (map argument_mentions (arguments_for (present method) (map tidied_argument list)))) ≡ true)
      (same-arguments args) (argument-mentions method (with-laws args)) in
      sym (ap all (joined-are (arguments_for (present method) (map tidied_argument args)))) ∙ own (ap all (joined-are args) ∙ h)
