-- Expressions with the form that their text has, whose mentions pass a test.
use Rattle.std.proofs.Common.{◌≡◌, suc, ◌≤◌, Bool, true, List, [], ◌∷◌, ◌++◌, map, length, refl, sym, ◌∙◌, ap, subst, arith}
use Rattle.std.proofs.lemmas.Bool.{and_from, and_parts, le-leb}
use Rattle.std.specs.List.{list_all}
use Rattle.std.proofs.lemmas.List.{length-map}
use Rattle.std.proofs.lemmas.List.Folds.{list_all-append}
use Rattle.mol_base.specs.Limits.{max_items}
use Rattle.mol_base.specs.declared.ident.Id.{Id}
use Rattle.jav_tree.specs.PrintableExpressions.{ExprUses, value_where, target_where, effect_where}
use Rattle.mol_resolve_rules.specs.ReadTrees.{with_params}
use Rattle.mol_table_rules.specs.ExpressionForms as forms
use Rattle.mol_table_rules.specs.ExpressionForms.{Shape, plain, target, statement, is_value, is_first_value, are_values, are_arguments, shape_of, is_statement}
use Rattle.mol_table_rules.specs.Mentions as mention
use Rattle.mol_table_rules.specs.Mentions.{Mention, joined, expr_mentions}
use Rattle.mol_values_types.specs.declared.iexpr.Argument.{Argument, fold-Argument}
use Rattle.mol_values_types.specs.declared.iexpr.IExpr.{IExpr}
use Rattle.mol_values_types.specs.declared.iexpr.IExpr.TheFolds.{fold-roll-IExpr, fold-roll-Argument, map-IExpr}
use Rattle.mol_values_types.specs.declared.iexpr.IExpr.TheOpen.{IExpr-F}
use Rattle.mol_values_types.specs.declared.iexpr.IExpr.TheViews.{roll-IExpr}
use Rattle.mol_resolve_laws.proofs.Right.{Passes, passes-both}
use Rattle.mol_resolve_laws.proofs.Tests.{never, and-imp}

-- ---- shapes

-- Whatever the text may be, the expression may be.
pub record ShapeRight (uses : ExprUses) (shape : Shape) : Type 0 where
  pub value : uses.is_value ≡ true → is_value shape ≡ true
  pub first : uses.is_first_value ≡ true → shape.formed ≡ true
  pub target : uses.is_target ≡ true → shape.target ≡ true
  pub statement : uses.is_statement ≡ true → (is_value shape ≡ true) × (shape.statement ≡ true)

pub right-value : (a b : Bool) → (a ≡ true → b ≡ true) → ShapeRight (value_where a) (plain b)
right-value a b holds = record {
  value = λ is. and_from b true (holds is) refl;
  first = holds;
  target = never;
  statement = never;
}

pub right-target : (a b : Bool) → (a ≡ true → b ≡ true) → ShapeRight (target_where a) (target b)
right-target a b holds = record {
  value = λ is. and_from b true (holds is) refl;
  first = holds;
  target = λ is. refl;
  statement = never;
}

pub right-effect : (a b : Bool) → (a ≡ true → b ≡ true) → ShapeRight (effect_where a) (statement b)
right-effect a b holds = record {
  value = λ is. and_from b true (holds is) refl;
  first = holds;
  target = never;
  statement = λ is. (and_from b true (holds is) refl, refl);
}

-- ---- lists

abbrev pub argument_shape : Argument → Shape
argument_shape = fold-Argument Shape Shape forms.shape_step forms.argument_step

abbrev pub argument_mentions : Argument → List Mention
argument_mentions = fold-Argument (List Mention) (List Mention) mention.expr_step mention.argument_step

pub shape-is : (argument : Argument) → argument_shape argument ≡ shape_of argument.value
shape-is argument = fold-roll-Argument Shape Shape forms.shape_step forms.argument_step
    (record { param = argument.param; value = argument.value })

pub mentions-are : (argument : Argument) → argument_mentions argument ≡ expr_mentions argument.value
mentions-are argument = fold-roll-Argument (List Mention) (List Mention) mention.expr_step mention.argument_step
    (record { param = argument.param; value = argument.value })

module _ (test : Mention → Bool) where
  pub record ExprRight (uses : ExprUses) (e : IExpr) : Type 0 where
    pub shape : ShapeRight uses (shape_of e)
    pub mentions : Passes test (expr_mentions e)

  -- an expression is right by its parts
  pub made : (uses : ExprUses) (x : IExpr-F IExpr Argument) → ShapeRight uses
      (forms.shape_step (map-IExpr _ _ _ _ shape_of argument_shape x))
      → Passes test (mention.expr_step (map-IExpr _ _ _ _ expr_mentions argument_mentions x)) → ExprRight uses (roll-IExpr x)
  made uses x shape mentions = record {
    shape = subst (ShapeRight uses) (sym (fold-roll-IExpr Shape Shape forms.shape_step forms.argument_step x)) shape;
    mentions = ap (list_all test) (fold-roll-IExpr (List Mention) (List Mention) mention.expr_step mention.argument_step x) ∙ mentions;
  }

  pub record ListRight (uses : List ExprUses) (es : List IExpr) : Type 0 where
    pub values : list_all (λ (e : ExprUses). e.is_value) uses ≡ true → are_values (map shape_of es) ≡ true
    pub firsts : list_all (λ (e : ExprUses). e.is_first_value) uses ≡ true → list_all is_first_value (map shape_of es) ≡ true
    pub statements : list_all (λ (e : ExprUses). e.is_statement) uses ≡ true → list_all is_statement es ≡ true
    pub mentions : Passes test (joined (map expr_mentions es))
    pub count : length es ≡ length uses

  pub right-none : ListRight [] []
  right-none = record { values = λ is. refl; firsts = λ is. refl; statements = λ is. refl; mentions = refl; count = refl }

  pub right-more : (uses : ExprUses) (e : IExpr) (more : List ExprUses) (es : List IExpr) → ExprRight uses e → ListRight more es
      → ListRight (uses ∷ more) (e ∷ es)
  right-more uses e more es right rest = record {
    values = and-imp uses.is_value (is_value (shape_of e)) _ _ right.shape.value rest.values;
    firsts = and-imp uses.is_first_value (is_first_value (shape_of e)) _ _ right.shape.first rest.firsts;
    statements = and-imp uses.is_statement (is_statement e) _ _
        (λ is. let may = right.shape.statement is in and_from _ _ may.0 may.1) rest.statements;
    mentions = passes-both test (expr_mentions e) (joined (map expr_mentions es)) right.mentions rest.mentions;
    count = ap suc rest.count;
  }

  -- ---- arguments

  passes-parts : (xs ys : List Mention) → Passes test (xs ++ ys) → Passes test xs × Passes test ys
  passes-parts xs ys is = and_parts _ _ (sym (list_all-append test xs ys) ∙ is)

  mapped-length : (es : List IExpr) → length (map shape_of es) ≡ length es
  mapped-length es = length-map es shape_of

  argument-values : (ids : List Id) (es : List IExpr) → are_values (map shape_of es) ≡ true
      → are_values (map argument_shape (with_params ids es)) ≡ true
  argument-values [] es is = refl
  argument-values (id ∷ ids) [] is = refl
  argument-values (id ∷ ids) (e ∷ es) is =
      and-imp (is_value (shape_of e)) (is_value (argument_shape (record { param = id; value = e }))) _ _
      (λ value. ap is_value (shape-is (record { param = id; value = e })) ∙ value) (argument-values ids es) is

  pub argument-mentions : (ids : List Id) (es : List IExpr) → Passes test (joined (map expr_mentions es))
      → Passes test (joined (map argument_mentions (with_params ids es)))
  argument-mentions [] es is = refl
  argument-mentions (id ∷ ids) [] is = refl
  argument-mentions (id ∷ ids) (e ∷ es) is =
      let parts = passes-parts (expr_mentions e) (joined (map expr_mentions es)) is in
      passes-both test (argument_mentions (record { param = id; value = e })) (joined (map argument_mentions (with_params ids es)))
      (ap (list_all test) (mentions-are (record { param = id; value = e })) ∙ parts.0) (argument-mentions ids es parts.1)

  argument-count : (ids : List Id) (es : List IExpr) → length (map argument_shape (with_params ids es)) ≤ length es
  argument-count [] es = omega arith
  argument-count (id ∷ ids) [] = omega arith
  argument-count (id ∷ ids) (e ∷ es) = let fewer = argument-count ids es in omega (arith, fewer)

  module _ (uses : List ExprUses) (es : List IExpr) (right : ListRight uses es) (few : length uses ≤ max_items)
      (are : list_all (λ (e : ExprUses). e.is_value) uses ≡ true) where
    pub right-arguments : (ids : List Id) → are_arguments (map argument_shape (with_params ids es)) ≡ true
    right-arguments ids = and_from _ _ (argument-values ids es (right.values are))
        (le-leb _ _ (let fewer = argument-count ids es in let same = right.count in omega (arith, fewer, same, few)))

    pub right-outside : are_arguments (map shape_of es) ≡ true
    right-outside = and_from _ _ (right.values are)
        (le-leb _ _ (let same = right.count in let as_many = mapped-length es in omega (arith, same, as_many, few)))
