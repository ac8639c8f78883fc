-- The static types of the expressions of a program (JLS 15), as far as names ask for them.
use Rattle.std.specs.Prelude.{◌+◌, List, length, Option, Some, find, slice_get}
use Rattle.std.specs.FinMap.{entries}
use Rattle.std.specs.Option.{option_map_or, option_and_then}
use Rattle.mol_base.specs.declared.ident.Id.{Id}
use Rattle.mol_table_rules.specs.Life.{is_decl_of}
use Rattle.mol_table_rules.specs.Program.{Program, same_id, value_at, owner_at, params_at, method_of_param}
use Rattle.mol_values_types.specs.declared.cell.Slot.TheVariants as slots
use Rattle.mol_values_types.specs.declared.iexpr.IExpr.{IExpr, fold-IExpr}
use Rattle.mol_values_types.specs.declared.iexpr.IExpr.TheOpen.{IExpr-F, Argument-F}
use Rattle.mol_values_types.specs.declared.known.Known.{Known}
use Rattle.mol_values_types.specs.declared.param.Param.{Param}
use Rattle.mol_values_types.specs.declared.value.Value.{Value}
use Rattle.mol_values_types.specs.declared.value.Value.TheVariants as values
use Rattle.jav_names.specs.OnValues.{StaticType, primitive_value, mixed_value, outside_value, class_value}
use Rattle.jav_names.specs.StaticTypes.{of_type, of_literal, common, item, outside_field, outside_call}
use Rattle.jav_names.specs.Views.{ViewType}
use Rattle.mol_resolve_rules.specs.ProgramViews.{seen, program_view}
use Rattle.mol_resolve_rules.specs.ReadTrees.{arrays, unary_type, binary_type}

-- ---- what is named by identity: mixed, where there is no such thing

abbrev pub field_value_in : Option Value → StaticType Id
field_value_in (Some (values.Value type init)) = of_type (seen type)
field_value_in value = mixed_value

abbrev pub field_value : Program → Id → StaticType Id
field_value program field = field_value_in (value_at program field slots.Value)

abbrev pub result_value_in : Option Value → StaticType Id
result_value_in (Some (values.Result type)) = of_type (seen type)
result_value_in value = mixed_value

abbrev pub result_value : Program → Id → StaticType Id
result_value program method = result_value_in (value_at program method slots.Result)

-- the present parameter of an identity, in the list of its own method
abbrev pub present_param : Program → Id → Option Param
present_param program id =
    option_and_then (λ method. find (λ (param : Param). same_id id param.id) (params_at program method)) (method_of_param program id)

abbrev pub param_value : Program → Id → StaticType Id
param_value program id = option_map_or (λ (param : Param). of_type (seen param.ty)) (present_param program id) mixed_value

-- the class in which a constructor is declared
abbrev pub class_of_only_declaration : Program → Id → Option Id
class_of_only_declaration program constructor =
    option_and_then (λ (entry : Id × Known). owner_at program entry.0)
    (find (λ (entry : Id × Known). is_decl_of constructor entry.1) (entries program.known))

-- ---- expressions

-- in this class, and with locals of these types
module _ (program : Program) (class : Id) (locals : List (ViewType Id)) where
  abbrev pub expr_step : IExpr-F (StaticType Id) (StaticType Id) → StaticType Id
  expr_step (IExpr-F.Lit text) = of_literal text
  expr_step IExpr-F.This = class_value class
  expr_step (IExpr-F.Local number) = option_map_or of_type (slice_get locals number) mixed_value
  expr_step (IExpr-F.Param id) = param_value program id
  expr_step (IExpr-F.Own field) = field_value program field
  expr_step (IExpr-F.StaticField field) = field_value program field
  expr_step (IExpr-F.Field field e) = field_value program field
  expr_step (IExpr-F.Call method args) = result_value program method
  expr_step (IExpr-F.StaticCall method args) = result_value program method
  expr_step (IExpr-F.CallOn method e args) = result_value program method
  expr_step (IExpr-F.SuperCall method args) = result_value program method
  expr_step (IExpr-F.New constructor args) = option_map_or class_value (class_of_only_declaration program constructor) mixed_value
  expr_step (IExpr-F.NewDefault created) = class_value created
  expr_step (IExpr-F.Cond test a b) = common (program_view program) a b
  expr_step (IExpr-F.OutsideName name) = outside_value
  expr_step (IExpr-F.OutsideClass full) = outside_value
  expr_step (IExpr-F.OutsideField name e) = outside_field e name
  expr_step (IExpr-F.OutsideCall name args) = outside_value
  expr_step (IExpr-F.OutsideCallOn name e args) = outside_call e name (length args)
  expr_step (IExpr-F.OutsideSuperCall name args) = outside_value
  expr_step (IExpr-F.NewOutside type args) = outside_value
  expr_step (IExpr-F.NewArray type sizes pairs) = of_type (arrays (length sizes + pairs) (seen type))
  expr_step (IExpr-F.ArrayLit type items) = of_type (seen type)
  expr_step (IExpr-F.Braces items) = mixed_value
  expr_step (IExpr-F.Index e i) = item e
  expr_step (IExpr-F.Unary op e) = unary_type op e
  expr_step (IExpr-F.Post op e) = e
  expr_step (IExpr-F.Binary op a b) = binary_type op
  expr_step (IExpr-F.Assign op a b) = a
  expr_step (IExpr-F.Cast type e) = of_type (seen type)
  expr_step (IExpr-F.InstanceOf e type) = primitive_value

  abbrev pub argument_step : Argument-F (StaticType Id) (StaticType Id) → StaticType Id
  argument_step argument = argument.value

  abbrev pub static_type_of : IExpr → StaticType Id
  static_type_of = fold-IExpr (StaticType Id) (StaticType Id) expr_step argument_step
