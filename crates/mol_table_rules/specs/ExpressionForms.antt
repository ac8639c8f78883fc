-- The expressions in values: what their words may be, so that each prints as an expression of the grammar (JLS 15).
use Rattle.std.specs.Prelude.{ℕ, ◌+◌, Bool, true, false, ◌&&◌, ◌||◌, not, nat_le, List, length, is_some}
use Rattle.std.specs.List.{list_all}
use Rattle.mol_base.specs.Limits.{max_items}
use Rattle.mol_base.specs.Operators.{binary_level, is_prefix, is_step, is_assignment}
use Rattle.mol_values_types.specs.TokenForms.{is_name, is_dotted, is_literal}
use Rattle.mol_table_rules.specs.TypeForms.{is_type, is_array, is_outside_class}
use Rattle.mol_values_types.specs.declared.iexpr.IExpr.{IExpr, fold-IExpr}
use Rattle.mol_values_types.specs.declared.iexpr.IExpr.TheOpen.{IExpr-F, Argument-F}

-- an operator between two operands that is no `instanceof`
abbrev pub is_binary : List ℕ → Bool
is_binary op = is_some (binary_level op)

-- what the form of the whole asks of an expression in it
pub record Shape : Type 0 where
  -- it and all that it holds have their forms
  pub formed : Bool
  -- it is items in braces
  pub braces : Bool
  -- it may stand left of an assignment: a name, a field access or an array access
  pub target : Bool
  -- it may be a statement: an assignment, `++` or `--`, a call, or a creation that is no array's
  pub statement : Bool

abbrev pub plain : Bool → Shape
plain formed = record { formed = formed; braces = false; target = false; statement = false }

abbrev pub target : Bool → Shape
target formed = record { formed = formed; braces = false; target = true; statement = false }

abbrev pub statement : Bool → Shape
statement formed = record { formed = formed; braces = false; target = false; statement = true }

-- anywhere but as a first value and as an item in braces
abbrev pub is_value : Shape → Bool
is_value shape = shape.formed && not shape.braces

-- the first value of a variable or field, or an item in braces
abbrev pub is_first_value : Shape → Bool
is_first_value shape = shape.formed

abbrev pub are_values : List Shape → Bool
are_values shapes = list_all is_value shapes

-- at most 255 arguments
abbrev pub are_arguments : List Shape → Bool
are_arguments shapes = are_values shapes && nat_le (length shapes) max_items

abbrev pub shape_step : IExpr-F Shape Shape → Shape
shape_step (IExpr-F.Lit text) = plain (is_literal text)
shape_step IExpr-F.This = plain true
shape_step (IExpr-F.Local number) = target true
shape_step (IExpr-F.Param id) = target true
shape_step (IExpr-F.Own field) = target true
shape_step (IExpr-F.StaticField field) = target true
shape_step (IExpr-F.Field field e) = target (is_value e)
shape_step (IExpr-F.Call method args) = statement (are_arguments args)
shape_step (IExpr-F.StaticCall method args) = statement (are_arguments args)
shape_step (IExpr-F.CallOn method e args) = statement (is_value e && are_arguments args)
shape_step (IExpr-F.SuperCall method args) = statement (are_arguments args)
shape_step (IExpr-F.New method args) = statement (are_arguments args)
shape_step (IExpr-F.NewDefault class) = statement true
shape_step (IExpr-F.Cond test a b) = plain (is_value test && is_value a && is_value b)
shape_step (IExpr-F.OutsideName name) = target (is_name name)
shape_step (IExpr-F.OutsideClass full) = target (is_dotted full)
shape_step (IExpr-F.OutsideField name e) = target (is_name name && is_value e)
shape_step (IExpr-F.OutsideCall name args) = statement (is_name name && are_arguments args)
shape_step (IExpr-F.OutsideCallOn name e args) = statement (is_name name && is_value e && are_arguments args)
shape_step (IExpr-F.OutsideSuperCall name args) = statement (is_name name && are_arguments args)
shape_step (IExpr-F.NewOutside ty args) = statement (is_outside_class ty && are_arguments args)
shape_step (IExpr-F.NewArray ty sizes pairs) =
    plain (is_type ty && not (is_array ty) && are_values sizes && nat_le 1 (length sizes) && nat_le (length sizes + pairs) max_items)
shape_step (IExpr-F.ArrayLit ty items) = plain (is_type ty && is_array ty && list_all is_first_value items)
shape_step (IExpr-F.Braces items) = record { formed = list_all is_first_value items; braces = true; target = false; statement = false }
shape_step (IExpr-F.Index e i) = target (is_value e && is_value i)
shape_step (IExpr-F.Unary op e) =
    record { formed = is_value e && (is_prefix op || (is_step op && e.target)); braces = false; target = false; statement = is_step op }
shape_step (IExpr-F.Post op e) = statement (is_value e && is_step op && e.target)
shape_step (IExpr-F.Binary op a b) = plain (is_binary op && is_value a && is_value b)
shape_step (IExpr-F.Assign op a b) = statement (is_assignment op && is_value a && a.target && is_value b)
shape_step (IExpr-F.Cast ty e) = plain (is_type ty && is_value e)
shape_step (IExpr-F.InstanceOf e ty) = plain (is_value e && is_type ty)

-- an argument has the shape of its value
abbrev pub argument_step : Argument-F Shape Shape → Shape
argument_step argument = argument.value

abbrev pub shape_of : IExpr → Shape
shape_of = fold-IExpr Shape Shape shape_step argument_step

-- the first value of a field, or of a variable
abbrev pub is_initial : IExpr → Bool
is_initial e = is_first_value (shape_of e)

-- an expression anywhere else
abbrev pub is_expression : IExpr → Bool
is_expression e = is_value (shape_of e)

-- an expression that may be a statement
abbrev pub is_statement : IExpr → Bool
is_statement e = is_value (shape_of e) && (shape_of e).statement
