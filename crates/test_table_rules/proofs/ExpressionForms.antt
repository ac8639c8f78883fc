-- Expressions that have their form, and such that have none.
use Rattle.std.specs.Prelude.{◌≡◌, ℕ, Bool, true, false, ◌&&◌, ◌||◌, not, nat_le, List, [], ◌∷◌, length, codes}
use Rattle.std.proofs.Common.{sym, ap, ◌∙◌}
use Rattle.mol_base.specs.declared.ident.Id.{Id}
use Rattle.mol_table_rules.specs.ExpressionForms.{Shape, are_arguments, are_values, is_expression, is_initial, is_value}
use Rattle.mol_table_rules.specs.ExpressionForms.{argument_step, plain, shape_of, shape_step, statement, target}
use Rattle.mol_values_types.specs.TokenForms.{is_literal, is_name}
use Rattle.mol_table_rules.specs.TypeForms.{is_array, is_type}
use Rattle.mol_values_types.specs.declared.iexpr.Argument.{Argument}
use Rattle.mol_values_types.specs.declared.iexpr.IExpr.{IExpr}
use Rattle.mol_values_types.specs.declared.iexpr.IExpr.TheFolds.{fold-roll-IExpr, map-IExpr}
use Rattle.mol_values_types.specs.declared.iexpr.IExpr.TheOpen.{IExpr-F}
use Rattle.mol_values_types.specs.declared.iexpr.IExpr.TheVariants as exprs
use Rattle.mol_values_types.specs.declared.iexpr.IExpr.TheViews.{roll-IExpr}
use Rattle.mol_values_types.specs.declared.itype.IType.TheVariants as types
use Rattle.mol_table_rules.proofs.Kept.{argument_shape}
use Rattle.test_table_rules.proofs.Given.{never, never-then}
use Rattle.test_table_rules.proofs.TokenForms.{no_dotted, no_literal, no_name}
use Rattle.test_table_rules.proofs.TypeForms.{an_array, int_array, int_type, no_array, no_outside, no_void}

-- the shape of an expression, by those of its parts
shaped : {e : IExpr} (x : IExpr-F IExpr Argument) → roll-IExpr x ≡ e → shape_of e ≡ shape_step (map-IExpr _ _ _ _ shape_of argument_shape x)
shaped x is = ap shape_of (sym is) ∙ fold-roll-IExpr Shape Shape shape_step argument_step x

shape-Local : (n : ℕ) → shape_of (exprs.Local n) ≡ target true
shape-Local n = shaped (IExpr-F.Local n) (exprs.rolls-Local n)

shape-This : shape_of exprs.This ≡ plain true
shape-This = shaped IExpr-F.This exprs.rolls-This

pub shape-Lit : (text : List ℕ) → shape_of (exprs.Lit text) ≡ plain (is_literal text)
shape-Lit text = shaped (IExpr-F.Lit text) (exprs.rolls-Lit text)

shape-Braces : shape_of (exprs.Braces []) ≡ record { formed = true; braces = true; target = false; statement = false }
shape-Braces = shaped (IExpr-F.Braces []) (exprs.rolls-Braces [])

-- ---- names and literals are tokens

no_token : shape_of (exprs.Lit []) ≡ plain false
no_token = shape-Lit [] ∙ ap plain no_literal

no_outside_name : shape_of (exprs.OutsideName []) ≡ target false
no_outside_name = shaped (IExpr-F.OutsideName []) (exprs.rolls-OutsideName []) ∙ ap target no_name

no_outside_class : shape_of (exprs.OutsideClass []) ≡ target false
no_outside_class = shaped (IExpr-F.OutsideClass []) (exprs.rolls-OutsideClass []) ∙ ap target no_dotted

no_outside_field : (e : IExpr) → shape_of (exprs.OutsideField [] e) ≡ target false
no_outside_field e =
    shaped (IExpr-F.OutsideField [] e) (exprs.rolls-OutsideField [] e) ∙ ap (λ b. target (b && is_value (shape_of e))) no_name

no_outside_call : shape_of (exprs.OutsideCall [] []) ≡ statement false
no_outside_call = shaped (IExpr-F.OutsideCall [] []) (exprs.rolls-OutsideCall [] []) ∙ ap (λ b. statement (b && true)) no_name

no_outside_call_on : (e : IExpr) → shape_of (exprs.OutsideCallOn [] e []) ≡ statement false
no_outside_call_on e =
    shaped (IExpr-F.OutsideCallOn [] e []) (exprs.rolls-OutsideCallOn [] e [])
    ∙ ap (λ b. statement ((b && is_value (shape_of e)) && true)) no_name

no_outside_super_call : shape_of (exprs.OutsideSuperCall [] []) ≡ statement false
no_outside_super_call =
    shaped (IExpr-F.OutsideSuperCall [] []) (exprs.rolls-OutsideSuperCall [] []) ∙ ap (λ b. statement (b && true)) no_name

-- ---- operators

no_operator : (a b : IExpr) → shape_of (exprs.Binary (codes "=>") a b) ≡ plain false
no_operator a b = shaped (IExpr-F.Binary (codes "=>") a b) (exprs.rolls-Binary (codes "=>") a b)

sum : shape_of (exprs.Binary (codes "+") (exprs.Local 0) (exprs.Local 1)) ≡ plain true
sum =
    shaped (IExpr-F.Binary (codes "+") (exprs.Local 0) (exprs.Local 1)) (exprs.rolls-Binary (codes "+") (exprs.Local 0) (exprs.Local 1))
    ∙ (λ i. plain (is_value (shape-Local 0 i) && is_value (shape-Local 1 i)))

abbrev has_form : IExpr → Bool
has_form e = (shape_of e).formed

no_prefix : (e : IExpr) → has_form (exprs.Unary (codes "=>") e) ≡ false
no_prefix e =
    ap (λ (shape : Shape). shape.formed) (shaped (IExpr-F.Unary (codes "=>") e) (exprs.rolls-Unary (codes "=>") e))
    ∙ never (is_value (shape_of e))

minus : has_form (exprs.Unary (codes "-") (exprs.Local 0)) ≡ true
minus =
    ap (λ (shape : Shape). shape.formed)
    (shaped (IExpr-F.Unary (codes "-") (exprs.Local 0)) (exprs.rolls-Unary (codes "-") (exprs.Local 0)))
    ∙ ap (λ shape. is_value shape && true) (shape-Local 0)

-- `++this`
step_before_this : has_form (exprs.Unary (codes "++") exprs.This) ≡ false
step_before_this =
    ap (λ (shape : Shape). shape.formed) (shaped (IExpr-F.Unary (codes "++") exprs.This) (exprs.rolls-Unary (codes "++") exprs.This))
    ∙ ap (λ (shape : Shape). is_value shape && (false || (true && shape.target))) shape-This

-- `this++`
step_of_this : shape_of (exprs.Post (codes "++") exprs.This) ≡ statement false
step_of_this =
    shaped (IExpr-F.Post (codes "++") exprs.This) (exprs.rolls-Post (codes "++") exprs.This)
    ∙ ap (λ (e : Shape). shape_step (IExpr-F.Post (codes "++") e)) shape-This

step_of_a_local : shape_of (exprs.Post (codes "++") (exprs.Local 0)) ≡ statement true
step_of_a_local =
    shaped (IExpr-F.Post (codes "++") (exprs.Local 0)) (exprs.rolls-Post (codes "++") (exprs.Local 0))
    ∙ ap (λ (e : Shape). shape_step (IExpr-F.Post (codes "++") e)) (shape-Local 0)

-- `1 = e`
literal_on_the_left : (e : IExpr) → shape_of (exprs.Assign (codes "=") (exprs.Lit (codes "1")) e) ≡ statement false
literal_on_the_left e =
    shaped (IExpr-F.Assign (codes "=") (exprs.Lit (codes "1")) e) (exprs.rolls-Assign (codes "=") (exprs.Lit (codes "1")) e)
    ∙ ap (λ (left : Shape). shape_step (IExpr-F.Assign (codes "=") left (shape_of e))) (shape-Lit (codes "1"))
    ∙ ap statement (never-then (is_value (plain (is_literal (codes "1")))) (is_value (shape_of e)))

no_assignment : (a b : IExpr) → shape_of (exprs.Assign (codes "=>") a b) ≡ statement false
no_assignment a b = shaped (IExpr-F.Assign (codes "=>") a b) (exprs.rolls-Assign (codes "=>") a b)

assignment : shape_of (exprs.Assign (codes "+=") (exprs.Local 0) (exprs.Local 1)) ≡ statement true
assignment =
    shaped (IExpr-F.Assign (codes "+=") (exprs.Local 0) (exprs.Local 1)) (exprs.rolls-Assign (codes "+=") (exprs.Local 0) (exprs.Local 1))
    ∙ (λ i. shape_step (IExpr-F.Assign (codes "+=") (shape-Local 0 i) (shape-Local 1 i)))

-- ---- items in braces are first values and such items alone

braces_first : is_initial (exprs.Braces []) ≡ true
braces_first = ap (λ (shape : Shape). shape.formed) shape-Braces

pub braces_elsewhere : is_expression (exprs.Braces []) ≡ false
braces_elsewhere = ap is_value shape-Braces

-- `({}).f`
field_of_braces : (id : Id) → shape_of (exprs.Field id (exprs.Braces [])) ≡ target false
field_of_braces id =
    shaped (IExpr-F.Field id (exprs.Braces [])) (exprs.rolls-Field id (exprs.Braces [])) ∙ ap target braces_elsewhere

-- `f({})`
braces_as_argument : (name : List ℕ) → shape_of (exprs.OutsideCall name (exprs.Braces [] ∷ [])) ≡ statement false
braces_as_argument name =
    shaped (IExpr-F.OutsideCall name (exprs.Braces [] ∷ [])) (exprs.rolls-OutsideCall name (exprs.Braces [] ∷ []))
    ∙ ap (λ (shape : Shape). statement (is_name name && are_arguments (shape ∷ []))) shape-Braces
    ∙ ap statement (never (is_name name))

braces_as_a_test : (a b : IExpr) → shape_of (exprs.Cond (exprs.Braces []) a b) ≡ plain false
braces_as_a_test a b =
    shaped (IExpr-F.Cond (exprs.Braces []) a b) (exprs.rolls-Cond (exprs.Braces []) a b)
    ∙ ap (λ c. plain ((c && is_value (shape_of a)) && is_value (shape_of b))) braces_elsewhere

item_of_braces : (e : IExpr) → shape_of (exprs.Index (exprs.Braces []) e) ≡ target false
item_of_braces e =
    shaped (IExpr-F.Index (exprs.Braces []) e) (exprs.rolls-Index (exprs.Braces []) e)
    ∙ ap (λ b. target (b && is_value (shape_of e))) braces_elsewhere

-- ---- a call has at most 255 arguments

too_many_arguments : (shapes : List Shape) → nat_le (length shapes) 255 ≡ false → are_arguments shapes ≡ false
too_many_arguments shapes more = ap (λ b. are_values shapes && b) more ∙ never (are_values shapes)

-- ---- types in expressions

cast_to_void : (e : IExpr) → shape_of (exprs.Cast types.Void e) ≡ plain false
cast_to_void e =
    shaped (IExpr-F.Cast types.Void e) (exprs.rolls-Cast types.Void e) ∙ ap (λ b. plain (b && is_value (shape_of e))) no_void

cast_to_int : shape_of (exprs.Cast types.Int (exprs.Local 0)) ≡ plain true
cast_to_int =
    shaped (IExpr-F.Cast types.Int (exprs.Local 0)) (exprs.rolls-Cast types.Int (exprs.Local 0))
    ∙ (λ i. plain (int_type i && is_value (shape-Local 0 i)))

instance_of_void : (e : IExpr) → shape_of (exprs.InstanceOf e types.Void) ≡ plain false
instance_of_void e =
    shaped (IExpr-F.InstanceOf e types.Void) (exprs.rolls-InstanceOf e types.Void)
    ∙ ap (λ b. plain (is_value (shape_of e) && b)) no_void
    ∙ ap plain (never (is_value (shape_of e)))

-- `new int()`
creation_of_an_int : shape_of (exprs.NewOutside types.Int []) ≡ statement false
creation_of_an_int =
    shaped (IExpr-F.NewOutside types.Int []) (exprs.rolls-NewOutside types.Int []) ∙ ap (λ b. statement (b && true)) no_outside

-- ---- arrays

-- `new int[]`
array_without_size : shape_of (exprs.NewArray types.Int [] 1) ≡ plain false
array_without_size =
    shaped (IExpr-F.NewArray types.Int [] 1) (exprs.rolls-NewArray types.Int [] 1)
    ∙ ap plain (never-then ((is_type types.Int && not (is_array types.Int)) && true) true)

-- one size, and 254 or 255 empty pairs of brackets
array_of_255 : shape_of (exprs.NewArray types.Int (exprs.Local 0 ∷ []) 254) ≡ plain true
array_of_255 =
    shaped (IExpr-F.NewArray types.Int (exprs.Local 0 ∷ []) 254) (exprs.rolls-NewArray types.Int (exprs.Local 0 ∷ []) 254)
    ∙ (λ i. plain ((((int_type i && not (no_array i)) && (is_value (shape-Local 0 i) && true)) && true) && true))

array_of_256 : shape_of (exprs.NewArray types.Int (exprs.Local 0 ∷ []) 255) ≡ plain false
array_of_256 =
    shaped (IExpr-F.NewArray types.Int (exprs.Local 0 ∷ []) 255) (exprs.rolls-NewArray types.Int (exprs.Local 0 ∷ []) 255)
    ∙ ap plain (never (((is_type types.Int && not (is_array types.Int)) && are_values (shape_of (exprs.Local 0) ∷ [])) && true))

-- `new int[][n]`, where the items are said to be arrays
abbrev of_array_items : Bool → Bool → Bool
of_array_items typed array = (((typed && not array) && are_values (shape_of (exprs.Local 0) ∷ [])) && true) && true

array_of_array_items : shape_of (exprs.NewArray (types.Array types.Int) (exprs.Local 0 ∷ []) 0) ≡ plain false
array_of_array_items =
    shaped (IExpr-F.NewArray (types.Array types.Int) (exprs.Local 0 ∷ []) 0)
    (exprs.rolls-NewArray (types.Array types.Int) (exprs.Local 0 ∷ []) 0)
    ∙ (λ i. plain (of_array_items (int_array i) (an_array i)))

-- `new int { }`
items_of_no_array : shape_of (exprs.ArrayLit types.Int []) ≡ plain false
items_of_no_array =
    shaped (IExpr-F.ArrayLit types.Int []) (exprs.rolls-ArrayLit types.Int [])
    ∙ ap (λ b. plain ((is_type types.Int && b) && true)) no_array
    ∙ ap plain (never-then (is_type types.Int) true)

-- `new int[] { }`
items_of_an_array : shape_of (exprs.ArrayLit (types.Array types.Int) []) ≡ plain true
items_of_an_array =
    shaped (IExpr-F.ArrayLit (types.Array types.Int) []) (exprs.rolls-ArrayLit (types.Array types.Int) [])
    ∙ (λ i. plain ((int_array i && an_array i) && true))
