-- The expressions that are read have their forms.
use Rattle.std.specs.Prelude.{◌≡◌, ℕ, Bool, true, ◌&&◌, nat_le, List, [], ◌∷◌, length, map}
use Rattle.std.proofs.Common.{suc, refl, sym, ap, ◌∙◌}
use Rattle.std.specs.List.{list_all}
use Rattle.mol_base.specs.Limits.{max_items}
use Rattle.mol_base.specs.Operators.{is_assignment}
use Rattle.mol_base.specs.declared.ident.Id.{Id}
use Rattle.mol_table_rules.specs.ExpressionForms.{Shape, plain, target, statement, is_value, are_values, are_arguments}
use Rattle.mol_table_rules.specs.ExpressionForms.{is_binary, is_expression, is_statement, shape_of, shape_step, argument_step}
use Rattle.mol_values_types.specs.TokenForms.{is_literal}
use Rattle.mol_values_types.specs.declared.iexpr.Argument.{Argument, fold-Argument}
use Rattle.mol_values_types.specs.declared.iexpr.IExpr.{IExpr}
use Rattle.mol_values_types.specs.declared.iexpr.IExpr.TheFolds.{fold-roll-IExpr, fold-roll-Argument, map-IExpr}
use Rattle.mol_values_types.specs.declared.iexpr.IExpr.TheOpen.{IExpr-F}
use Rattle.mol_values_types.specs.declared.iexpr.IExpr.TheVariants as exprs
use Rattle.mol_values_types.specs.declared.iexpr.IExpr.TheViews.{roll-IExpr}
use Rattle.test_op.specs.Given.{is_argument, are_given}

abbrev argument_shape : Argument → Shape
argument_shape = fold-Argument Shape Shape shape_step argument_step

-- the shape of what is made of its parts
made : (x : IExpr-F IExpr Argument) (e : IExpr) → roll-IExpr x ≡ e
    → shape_of e ≡ shape_step (map-IExpr _ _ _ _ shape_of argument_shape x)
made x e is = ap shape_of (sym is) ∙ fold-roll-IExpr Shape Shape shape_step argument_step x

pub and-of : (a b : Bool) → a ≡ true → b ≡ true → (a && b) ≡ true
and-of a b e f = ap (λ x. x && b) e ∙ f

-- ---- arguments

shape_is : (argument : Argument) → argument_shape argument ≡ shape_of argument.value
shape_is argument = fold-roll-Argument Shape Shape shape_step argument_step (record { param = argument.param; value = argument.value })

values-are : (arguments : List Argument) → are_values (map argument_shape arguments) ≡ list_all is_argument arguments
values-are [] = refl
values-are (argument ∷ arguments) = λ i. is_value (shape_is argument i) && values-are arguments i

shapes-length : (arguments : List Argument) → length (map argument_shape arguments) ≡ length arguments
shapes-length [] = refl
shapes-length (argument ∷ arguments) = ap suc (shapes-length arguments)

given : (arguments : List Argument) → are_given arguments ≡ true → are_arguments (map argument_shape arguments) ≡ true
given arguments are = (λ i. values-are arguments i && nat_le (shapes-length arguments i) max_items) ∙ are

-- the same, where each argument has the shape of its value
pub given-shapes : (arguments : List Argument) → are_given arguments ≡ true
    → are_arguments (map (λ (argument : Argument). shape_of argument.value) arguments) ≡ true
given-shapes arguments are = (λ i. are_arguments (each arguments i)) ∙ given arguments are where
  each : (arguments : List Argument) → map (λ (argument : Argument). shape_of argument.value) arguments ≡ map argument_shape arguments
  each [] = refl
  each (argument ∷ arguments) = λ i. sym (shape_is argument) i ∷ each arguments i

-- ---- what holds no other

pub lit_formed : (text : List ℕ) → is_literal text ≡ true → is_expression (exprs.Lit text) ≡ true
lit_formed text is = ap is_value (made (IExpr-F.Lit text) (exprs.Lit text) (exprs.rolls-Lit text)) ∙ ap (λ b. b && true) is

pub local_formed : (number : ℕ) → is_expression (exprs.Local number) ≡ true
local_formed number = ap is_value (made (IExpr-F.Local number) (exprs.Local number) (exprs.rolls-Local number))

pub param_formed : (id : Id) → is_expression (exprs.Param id) ≡ true
param_formed id = ap is_value (made (IExpr-F.Param id) (exprs.Param id) (exprs.rolls-Param id))

own_shape : (field : Id) → shape_of (exprs.Own field) ≡ target true
own_shape field = made (IExpr-F.Own field) (exprs.Own field) (exprs.rolls-Own field)

pub own_formed : (field : Id) → is_expression (exprs.Own field) ≡ true
own_formed field = ap is_value (own_shape field)

pub static_field_formed : (field : Id) → is_expression (exprs.StaticField field) ≡ true
static_field_formed field = ap is_value (made (IExpr-F.StaticField field) (exprs.StaticField field) (exprs.rolls-StaticField field))

pub new_default_formed : (class : Id) → is_expression (exprs.NewDefault class) ≡ true
new_default_formed class = ap is_value (made (IExpr-F.NewDefault class) (exprs.NewDefault class) (exprs.rolls-NewDefault class))

pub ruleset leaves = (lit_formed, local_formed, param_formed, own_formed, static_field_formed, new_default_formed)

-- ---- calls

pub call_formed : (method : Id) (arguments : List Argument) → are_given arguments ≡ true
    → is_expression (exprs.Call method arguments) ≡ true
call_formed method arguments are =
    ap is_value (made (IExpr-F.Call method arguments) (exprs.Call method arguments) (exprs.rolls-Call method arguments))
    ∙ ap (λ b. b && true) (given arguments are)

pub static_call_formed : (method : Id) (arguments : List Argument) → are_given arguments ≡ true
    → is_expression (exprs.StaticCall method arguments) ≡ true
static_call_formed method arguments are =
    ap is_value (made (IExpr-F.StaticCall method arguments) (exprs.StaticCall method arguments) (exprs.rolls-StaticCall method arguments))
    ∙ ap (λ b. b && true) (given arguments are)

pub super_call_formed : (method : Id) (arguments : List Argument) → are_given arguments ≡ true
    → is_expression (exprs.SuperCall method arguments) ≡ true
super_call_formed method arguments are =
    ap is_value (made (IExpr-F.SuperCall method arguments) (exprs.SuperCall method arguments) (exprs.rolls-SuperCall method arguments))
    ∙ ap (λ b. b && true) (given arguments are)

pub new_formed : (constructor : Id) (arguments : List Argument) → are_given arguments ≡ true
    → is_expression (exprs.New constructor arguments) ≡ true
new_formed constructor arguments are =
    ap is_value (made (IExpr-F.New constructor arguments) (exprs.New constructor arguments) (exprs.rolls-New constructor arguments))
    ∙ ap (λ b. b && true) (given arguments are)

module _ (method : Id) (e : IExpr) (arguments : List Argument) (is : is_expression e ≡ true) (are : are_given arguments ≡ true) where
  call_on_shape : shape_of (exprs.CallOn method e arguments) ≡ statement true
  call_on_shape =
      made (IExpr-F.CallOn method e arguments) (exprs.CallOn method e arguments) (exprs.rolls-CallOn method e arguments)
      ∙ ap statement (and-of (is_expression e) (are_arguments (map argument_shape arguments)) is (given arguments are))

  pub call_on_formed : is_expression (exprs.CallOn method e arguments) ≡ true
  call_on_formed = ap is_value call_on_shape

  pub call_on_statement : is_statement (exprs.CallOn method e arguments) ≡ true
  call_on_statement = ap (λ (shape : Shape). is_value shape && shape.statement) call_on_shape

-- ---- operators

pub binary_formed : (operator : List ℕ) (a b : IExpr) → is_binary operator ≡ true → is_expression a ≡ true → is_expression b ≡ true
    → is_expression (exprs.Binary operator a b) ≡ true
binary_formed operator a b op left right =
    ap is_value (made (IExpr-F.Binary operator a b) (exprs.Binary operator a b) (exprs.rolls-Binary operator a b))
    ∙ ap (λ x. x && true)
    (and-of (is_binary operator && is_expression a) (is_expression b) (and-of (is_binary operator) (is_expression a) op left) right)

pub assign_statement : (operator : List ℕ) (field : Id) (value : IExpr) → is_assignment operator ≡ true → is_expression value ≡ true
    → is_statement (exprs.Assign operator (exprs.Own field) value) ≡ true
assign_statement operator field value op is =
    let own = exprs.Own field in
    ap (λ (shape : Shape). is_value shape && shape.statement)
    (made (IExpr-F.Assign operator own value) (exprs.Assign operator own value) (exprs.rolls-Assign operator own value)
    ∙ (λ i. statement (op i && is_value (own_shape field i) && (own_shape field i).target && is i)))
