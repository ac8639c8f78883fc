-- Expressions that words spell have the forms of the expressions in values.
use Rattle.std.proofs.Common.{◌≡◌, ℕ, ◌+◌, List, map, length, Bool, true, false, refl, sym, ap, ◌∙◌, arith}
use Rattle.std.specs.Prelude.{◌&&◌, ◌||◌, not, nat_le, nat_lt, if◌then◌else◌}
use Rattle.std.specs.List.{list_all}
use Rattle.std.proofs.lemmas.Bool.Decides.{nat_tests}
use Rattle.std.proofs.lemmas.List.{length-map}
use Rattle.mol_base.proofs.Tags.{both_true}
use Rattle.mol_base.specs.Limits.{max_items}
use Rattle.mol_base.specs.Operators.{is_prefix, is_step}
use Rattle.mol_base.specs.declared.ident.Id.{Id}
use Rattle.mol_table_rules.specs.ExpressionForms.{Shape, plain, target, statement, is_value, is_first_value, are_values, are_arguments}
use Rattle.mol_table_rules.specs.ExpressionForms.{shape_step, argument_step, shape_of}
use Rattle.mol_table_rules.proofs.Kept.{argument_shape}
use Rattle.mol_values_types.specs.declared.iexpr.Argument.{Argument}
use Rattle.mol_values_types.specs.declared.iexpr.IExpr.{IExpr}
use Rattle.mol_values_types.specs.declared.iexpr.IExpr.TheFolds.{fold-roll-IExpr, fold-roll-Argument, map-IExpr}
use Rattle.mol_values_types.specs.declared.iexpr.IExpr.TheOpen.{IExpr-F}
use Rattle.mol_values_types.specs.declared.iexpr.IExpr.TheVariants as exprs
use Rattle.mol_values_types.specs.declared.iexpr.IExpr.TheViews.{roll-IExpr}
use Rattle.mol_log_words.specs.Words.{Word, has_form, within}
use Rattle.mol_log_words.specs.declared.bounds.Bounds.TheVariants.{Few, Sizes}
use Rattle.mol_log_expr.specs.ExpressionHeads.{allows, unary_form, is_target, is_action}
use Rattle.mol_log_expr.specs.Expressions.{IsExpr, literal, this, local, param, own, static_field, new_default, outside_name}
use Rattle.mol_log_expr.specs.Expressions.{outside_class, call, static_call, super_call, new, call_on, outside_call, outside_super}
use Rattle.mol_log_expr.specs.Expressions.{outside_call_on, new_outside, new_array, array_literal, braces, index, unary, post, binary}
use Rattle.mol_log_expr.specs.Expressions.{assign, cond, field, outside_field, cast, instance_of, AreArguments, no_arguments}
use Rattle.mol_log_expr.specs.Expressions.{more_arguments, AreExprs, no_exprs, more_exprs, argument_of}
use Rattle.mol_log_expr.specs.declared.expr_head.Head.{Head}
use Rattle.mol_log_expr.specs.declared.expr_head.Head.TheVariants.{Leaf, Call, Outside, Items, Operator, Part}
use Rattle.mol_log_expr.specs.declared.expr_head.LeafHead.TheVariants as leaf_at
use Rattle.mol_log_expr.specs.declared.expr_head.CallHead.TheVariants as call_at
use Rattle.mol_log_expr.specs.declared.expr_head.OutsideHead.TheVariants as outside_at
use Rattle.mol_log_expr.specs.declared.expr_head.ItemsHead.TheVariants as items_at
use Rattle.mol_log_expr.specs.declared.expr_head.OperatorHead.TheVariants as operator_at
use Rattle.mol_log_expr.specs.declared.expr_head.PartHead.TheVariants as part_at
use Rattle.mol_log_expr.specs.declared.expr_role.ExprRole.{ExprRole}
use Rattle.mol_log_expr.specs.declared.expr_role.ExprRole.TheVariants.{Value, First, Target, Statement}
use Rattle.mol_log.proofs.entries_lemmas.SpelledTypes.{and-of, or-right, value_type, outside_type, item_type, no_array, array_type, an_array}

-- what may stand at a place of a role
abbrev pub fits_role : ExprRole → Shape → Bool
fits_role Value shape = is_value shape
fits_role First shape = is_first_value shape
fits_role Target shape = is_value shape && shape.target
fits_role Statement shape = is_value shape && shape.statement

-- ---- shapes that are known by the word that an expression begins with

never : {A : Type 0} {b : Bool} → b ≡ true → b ≡ false → A
never holds fails = let clash = sym holds ∙ fails in absurd cc

plain_fits : (r : ExprRole) (head : Head) (b : Bool) → is_target head ≡ false → is_action head ≡ false → allows r head ≡ true → b ≡ true
    → fits_role r (plain b) ≡ true
plain_fits Value head b t s a is = and-of b true is refl
plain_fits First head b t s a is = is
plain_fits Target head b t s a is = never a t
plain_fits Statement head b t s a is = never a s

target_fits : (r : ExprRole) (head : Head) (b : Bool) → is_action head ≡ false → allows r head ≡ true → b ≡ true
    → fits_role r (target b) ≡ true
target_fits Value head b s a is = and-of b true is refl
target_fits First head b s a is = is
target_fits Target head b s a is = and-of (b && true) true (and-of b true is refl) refl
target_fits Statement head b s a is = never a s

statement_fits : (r : ExprRole) (head : Head) (b : Bool) → is_target head ≡ false → allows r head ≡ true → b ≡ true
    → fits_role r (statement b) ≡ true
statement_fits Value head b t a is = and-of b true is refl
statement_fits First head b t a is = is
statement_fits Target head b t a is = never a t
statement_fits Statement head b t a is = and-of (b && true) true (and-of b true is refl) refl

-- items in braces may stand as a first value alone
braces_fit : (r : ExprRole) (b : Bool) → allows r (Items items_at.Braces) ≡ true → b ≡ true
    → fits_role r (record { formed = b; braces = true; target = false; statement = false }) ≡ true
braces_fit Value b a is = never a refl
braces_fit First b a is = is
braces_fit Target b a is = never a refl
braces_fit Statement b a is = never a refl

-- ---- prefix operators: `++` and `--` step what may stand left of an assignment

abbrev operand : Bool → ExprRole
operand step = if step then Target else Value

operand_fits : (before step : Bool) (e : Shape) → (before || step) ≡ true → fits_role (operand step) e ≡ true
    → (is_value e && (before || (step && e.target))) ≡ true
operand_fits before true e some is =
    let parts = both_true (is_value e) e.target is in
    and-of (is_value e) _ parts.0 (or-right before e.target parts.1)
operand_fits true false e some is = and-of (is_value e) true is refl
operand_fits false false e some is = absurd cc

abbrev allowed : ExprRole → Bool → Bool → Bool
allowed Statement before step = step
allowed role before step = before || step

unary_fits : (r : ExprRole) (before step : Bool) (e : Shape) → allows r (Operator operator_at.Unary) ≡ true
    → allowed r before step ≡ true → fits_role (operand step) e ≡ true
    → fits_role r (record {
      formed = is_value e && (before || (step && e.target));
      braces = false;
      target = false;
      statement = step;
    }) ≡ true
unary_fits Value before step e a some is = and-of _ true (operand_fits before step e some is) refl
unary_fits First before step e a some is = operand_fits before step e some is
unary_fits Target before step e a some is = never a refl
unary_fits Statement before step e a some is =
    and-of _ step (and-of _ true (operand_fits before step e (or-right before step some) is) refl) some

allowed_form : (r : ExprRole) (op : Word) → has_form (unary_form r) op ≡ true → allowed r (is_prefix op) (is_step op) ≡ true
allowed_form Value op is = is
allowed_form First op is = is
allowed_form Target op is = is
allowed_form Statement op is = is

-- ---- expressions

-- the shape of an expression, by those of its parts
shaped : (r : ExprRole) {e : IExpr} (x : IExpr-F IExpr Argument) → roll-IExpr x ≡ e
    → fits_role r (shape_step (map-IExpr _ _ _ _ shape_of argument_shape x)) ≡ true → fits_role r (shape_of e) ≡ true
shaped r x is fits = ap (fits_role r) (ap shape_of (sym is) ∙ fold-roll-IExpr Shape Shape shape_step argument_step x) ∙ fits

argument_is : (id : Id) (e : IExpr) → argument_shape (argument_of id e) ≡ shape_of e
argument_is id e = fold-roll-Argument Shape Shape shape_step argument_step (record { param = id; value = e })

pub few : {A : Type 0} (f : A → Shape) (xs : List A) → are_values (map f xs) ≡ true → within Few (length xs) ≡ true
    → are_arguments (map f xs) ≡ true
few f xs values count = and-of _ _ values (ap (λ n. nat_le n max_items) (length-map xs f) ∙ count)

some_sizes : (n : ℕ) → within Sizes n ≡ true → nat_le 1 n ≡ true
some_sizes n is = let some = (both_true (nat_lt 0 n) (nat_le n max_items) is).0 in grind (arith, nat_tests)

mutual
  pub fits : {r : ExprRole} {d : ℕ} {s : List ℕ} {e : IExpr} {ts : List Word} → IsExpr r d s e ts → fits_role r (shape_of e) ≡ true
  fits (literal {r = r} {t = t} a f) = shaped r (IExpr-F.Lit t) (exprs.rolls-Lit t) (plain_fits r (Leaf leaf_at.Lit) _ refl refl a f)
  fits (this {r = r} a) = shaped r IExpr-F.This exprs.rolls-This (plain_fits r (Leaf leaf_at.This) _ refl refl a refl)
  fits (local {r = r} {n = n} a c h) = shaped r (IExpr-F.Local n) (exprs.rolls-Local n) (target_fits r (Leaf leaf_at.Local) _ refl a refl)
  fits (param {r = r} {id = id} a i) = shaped r (IExpr-F.Param id) (exprs.rolls-Param id) (target_fits r (Leaf leaf_at.Param) _ refl a refl)
  fits (own {r = r} {id = id} a i) = shaped r (IExpr-F.Own id) (exprs.rolls-Own id) (target_fits r (Leaf leaf_at.Own) _ refl a refl)
  fits (static_field {r = r} {id = id} a i) =
      shaped r (IExpr-F.StaticField id) (exprs.rolls-StaticField id) (target_fits r (Leaf leaf_at.StaticField) _ refl a refl)
  fits (new_default {r = r} {id = id} a i) =
      shaped r (IExpr-F.NewDefault id) (exprs.rolls-NewDefault id) (statement_fits r (Leaf leaf_at.NewDefault) _ refl a refl)
  fits (outside_name {r = r} {t = t} a f) =
      shaped r (IExpr-F.OutsideName t) (exprs.rolls-OutsideName t) (target_fits r (Leaf leaf_at.OutsideName) _ refl a f)
  fits (outside_class {r = r} {t = t} a f) =
      shaped r (IExpr-F.OutsideClass t) (exprs.rolls-OutsideClass t) (target_fits r (Leaf leaf_at.OutsideClass) _ refl a f)
  fits (call {r = r} {id = id} {args = args} a i c list) =
      shaped r (IExpr-F.Call id args) (exprs.rolls-Call id args)
      (statement_fits r (Call call_at.Own) _ refl a (few argument_shape args (fit_arguments list) c.1))
  fits (static_call {r = r} {id = id} {args = args} a i c list) =
      shaped r (IExpr-F.StaticCall id args) (exprs.rolls-StaticCall id args)
      (statement_fits r (Call call_at.Static) _ refl a (few argument_shape args (fit_arguments list) c.1))
  fits (super_call {r = r} {id = id} {args = args} a i c list) =
      shaped r (IExpr-F.SuperCall id args) (exprs.rolls-SuperCall id args)
      (statement_fits r (Call call_at.Super) _ refl a (few argument_shape args (fit_arguments list) c.1))
  fits (new {r = r} {id = id} {args = args} a i c list) =
      shaped r (IExpr-F.New id args) (exprs.rolls-New id args)
      (statement_fits r (Call call_at.New) _ refl a (few argument_shape args (fit_arguments list) c.1))
  fits (call_on {r = r} {id = id} {e = e} k {args = args} a i x c list) =
      shaped r (IExpr-F.CallOn id e args) (exprs.rolls-CallOn id e args)
      (statement_fits r (Call call_at.On) _ refl a (and-of _ _ (fits x) (few argument_shape args (fit_arguments list) c.1)))
  fits (outside_call {r = r} {t = t} {es = es} a f c list) =
      shaped r (IExpr-F.OutsideCall t es) (exprs.rolls-OutsideCall t es)
      (statement_fits r (Outside outside_at.Own) _ refl a (and-of _ _ f (few shape_of es (fit_exprs list) c.1)))
  fits (outside_super {r = r} {t = t} {es = es} a f c list) =
      shaped r (IExpr-F.OutsideSuperCall t es) (exprs.rolls-OutsideSuperCall t es)
      (statement_fits r (Outside outside_at.Super) _ refl a (and-of _ _ f (few shape_of es (fit_exprs list) c.1)))
  fits (outside_call_on {r = r} {t = t} {e = e} k {es = es} a f x c list) =
      shaped r (IExpr-F.OutsideCallOn t e es) (exprs.rolls-OutsideCallOn t e es)
      (statement_fits r (Outside outside_at.On) _ refl a
      (and-of _ _ (and-of _ _ f (fits x)) (few shape_of es (fit_exprs list) c.1)))
  fits (new_outside {r = r} {t = t} k {es = es} a x c list) =
      shaped r (IExpr-F.NewOutside t es) (exprs.rolls-NewOutside t es)
      (statement_fits r (Outside outside_at.New) _ refl a (and-of _ _ (outside_type x) (few shape_of es (fit_exprs list) c.1)))
  fits (new_array {r = r} {t = t} k {es = es} {n = n} p a x c list q h) =
      shaped r (IExpr-F.NewArray t es n) (exprs.rolls-NewArray t es n)
      (plain_fits r (Items items_at.NewArray) _ refl refl a
      (and-of _ _
      (and-of _ _ (and-of _ _ (and-of _ _ (item_type x) (ap not (no_array x))) (fit_exprs list))
      (ap (λ m. nat_le 1 m) (length-map es shape_of) ∙ some_sizes (length es) c.1))
      (ap (λ m. nat_le (m + n) max_items) (length-map es shape_of) ∙ h)))
  fits (array_literal {r = r} {t = t} k {es = es} a x c list) =
      shaped r (IExpr-F.ArrayLit t es) (exprs.rolls-ArrayLit t es)
      (plain_fits r (Items items_at.ArrayLit) _ refl refl a (and-of _ _ (and-of _ _ (array_type x) (an_array x)) (fit_exprs list)))
  fits (braces {r = r} {es = es} a c list) =
      shaped r (IExpr-F.Braces es) (exprs.rolls-Braces es) (braces_fit r _ a (fit_exprs list))
  fits (index {r = r} {a = e} {i = i} a x y) =
      shaped r (IExpr-F.Index e i) (exprs.rolls-Index e i) (target_fits r (Items items_at.Index) _ refl a (and-of _ _ (fits x) (fits y)))
  fits (unary {r = r} {op = op} {e = e} a o x) =
      shaped r (IExpr-F.Unary op e) (exprs.rolls-Unary op e)
      (unary_fits r (is_prefix op) (is_step op) (shape_of e) a (allowed_form r op o) (fits x))
  fits (post {r = r} {op = op} {e = e} a o x) =
      let parts = both_true (is_value (shape_of e)) (shape_of e).target (fits x) in
      shaped r (IExpr-F.Post op e) (exprs.rolls-Post op e)
      (statement_fits r (Operator operator_at.Post) _ refl a (and-of _ _ (and-of _ _ parts.0 o) parts.1))
  fits (binary {r = r} {op = op} {a = e} {b = f} a o x y) =
      shaped r (IExpr-F.Binary op e f) (exprs.rolls-Binary op e f)
      (plain_fits r (Operator operator_at.Binary) _ refl refl a (and-of _ _ (and-of _ _ o (fits x)) (fits y)))
  fits (assign {r = r} {op = op} {a = e} {b = f} a o x y) =
      let parts = both_true (is_value (shape_of e)) (shape_of e).target (fits x) in
      shaped r (IExpr-F.Assign op e f) (exprs.rolls-Assign op e f)
      (statement_fits r (Operator operator_at.Assign) _ refl a
      (and-of _ _ (and-of _ _ (and-of _ _ o parts.0) parts.1) (fits y)))
  fits (cond {r = r} {c = c} {a = e} {b = f} a x y z) =
      shaped r (IExpr-F.Cond c e f) (exprs.rolls-Cond c e f)
      (plain_fits r (Operator operator_at.Cond) _ refl refl a (and-of _ _ (and-of _ _ (fits x) (fits y)) (fits z)))
  fits (field {r = r} {id = id} {e = e} a i x) =
      shaped r (IExpr-F.Field id e) (exprs.rolls-Field id e) (target_fits r (Part part_at.Field) _ refl a (fits x))
  fits (outside_field {r = r} {t = t} {e = e} a f x) =
      shaped r (IExpr-F.OutsideField t e) (exprs.rolls-OutsideField t e)
      (target_fits r (Part part_at.OutsideField) _ refl a (and-of _ _ f (fits x)))
  fits (cast {r = r} {t = t} {e = e} a x y) =
      shaped r (IExpr-F.Cast t e) (exprs.rolls-Cast t e)
      (plain_fits r (Part part_at.Cast) _ refl refl a (and-of _ _ (value_type x) (fits y)))
  fits (instance_of {r = r} {e = e} {t = t} a x y) =
      shaped r (IExpr-F.InstanceOf e t) (exprs.rolls-InstanceOf e t)
      (plain_fits r (Part part_at.InstanceOf) _ refl refl a (and-of _ _ (fits x) (value_type y)))

  pub fit_arguments : {d : ℕ} {s : List ℕ} {args : List Argument} {ts : List Word} → AreArguments d s args ts
      → are_values (map argument_shape args) ≡ true
  fit_arguments no_arguments = refl
  fit_arguments (more_arguments {id = id} {e = e} i x list) = and-of _ _ (ap is_value (argument_is id e) ∙ fits x) (fit_arguments list)

  pub fit_exprs : {r : ExprRole} {d : ℕ} {s : List ℕ} {es : List IExpr} {ts : List Word} → AreExprs r d s es ts
      → list_all (fits_role r) (map shape_of es) ≡ true
  fit_exprs no_exprs = refl
  fit_exprs (more_exprs x list) = and-of _ _ (fits x) (fit_exprs list)
