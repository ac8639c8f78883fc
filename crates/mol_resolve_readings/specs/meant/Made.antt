-- What each kind of expression is made of, by its parts as they are read (JLS 15).
use Rattle.std.specs.Prelude.{ℕ, Bool, false, true, List, [], ◌∷◌, ◌++◌, ◌+◌, length, if◌then◌else◌}
use Rattle.mol_base.specs.declared.ident.Id.{Id}
use Rattle.jav_names.specs.DottedNames.{Name}
use Rattle.jav_names.specs.OnValues.{StaticType, primitive_value, mixed_value, outside_value, class_value}
use Rattle.jav_names.specs.StaticTypes.{of_type, item, outside_field, outside_call}
use Rattle.jav_names.specs.Views.{ViewType}
use Rattle.mol_resolve_rules.specs.ReadTrees.{Meant, arrays, unary_type, binary_type}
use Rattle.mol_resolve_rules.specs.ReadTypes.{ReadType}
use Rattle.mol_values_types.specs.declared.iexpr.Argument.{Argument}
use Rattle.mol_values_types.specs.declared.iexpr.IExpr.{IExpr}
use Rattle.mol_values_types.specs.declared.iexpr.IExpr.TheVariants as exprs

-- what is not `this`
abbrev pub made : IExpr → StaticType ℕ → Meant ℕ
made tree type = record { tree = tree; is_this = false; static_type = type }

abbrev pub this_in : ℕ → Meant ℕ
this_in class = record { tree = exprs.This; is_this = true; static_type = class_value class }

-- ---- fields (JLS 15.11)

-- a field of `this`, or a static one
abbrev pub own_field : Bool → Id → ViewType ℕ → Meant ℕ
own_field is_static field type = made (if is_static then exprs.StaticField field else exprs.Own field) (of_type type)

-- a field of a value; of `this` an own one
abbrev pub field_of : Id → ViewType ℕ → Meant ℕ → Meant ℕ
field_of field type value = made (if value.is_this then exprs.Own field else exprs.Field field value.tree) (of_type type)

abbrev pub outside_field_of : Name → Meant ℕ → Meant ℕ
outside_field_of name value = made (exprs.OutsideField name value.tree) (outside_field value.static_type name)

-- ---- calls (JLS 15.12)

-- of a method of `this`, or of a static one
abbrev pub own_call : Bool → Id → ViewType ℕ → List Argument → Meant ℕ
own_call is_static method result args =
    made (if is_static then exprs.StaticCall method args else exprs.Call method args) (of_type result)

-- on a value; on `this` an own one
abbrev pub call_tree : Id → Meant ℕ → List Argument → IExpr
call_tree method value args = if value.is_this then exprs.Call method args else exprs.CallOn method value.tree args

abbrev pub call_of : Id → ViewType ℕ → Meant ℕ → List Argument → Meant ℕ
call_of method result value args = made (call_tree method value args) (of_type result)

abbrev pub super_call : Id → ViewType ℕ → List Argument → Meant ℕ
super_call method result args = made (exprs.SuperCall method args) (of_type result)

abbrev pub outside_own_call : Name → List IExpr → Meant ℕ
outside_own_call name args = made (exprs.OutsideCall name args) outside_value

abbrev pub outside_super_call : Name → List IExpr → Meant ℕ
outside_super_call name args = made (exprs.OutsideSuperCall name args) outside_value

abbrev pub outside_call_of : Name → Meant ℕ → List IExpr → Meant ℕ
outside_call_of name value args =
    made (exprs.OutsideCallOn name value.tree args) (outside_call value.static_type name (length args))

-- ---- creations and arrays (JLS 15.9, 15.10)

abbrev pub creation : ℕ → Id → List Argument → Meant ℕ
creation class constructor args = made (exprs.New constructor args) (class_value class)

abbrev pub default_creation : ℕ → Id → Meant ℕ
default_creation class id = made (exprs.NewDefault id) (class_value class)

abbrev pub outside_creation : ReadType ℕ → List IExpr → Meant ℕ
outside_creation type args = made (exprs.NewOutside type.tree args) outside_value

-- a dimension for each size, and for each of so many pairs of empty brackets
abbrev pub new_array : ℕ → ReadType ℕ × List IExpr → Meant ℕ
new_array pairs parts =
    made (exprs.NewArray parts.0.tree parts.1 pairs) (of_type (arrays (length parts.1 + pairs) parts.0.type))

abbrev pub array_of : ReadType ℕ × List IExpr → Meant ℕ
array_of parts = made (exprs.ArrayLit parts.0.tree parts.1) (of_type parts.0.type)

abbrev pub braces : List IExpr → Meant ℕ
braces items = made (exprs.Braces items) mixed_value

abbrev pub item_of : Meant ℕ → Meant ℕ → Meant ℕ
item_of array index = made (exprs.Index array.tree index.tree) (item array.static_type)

-- ---- operators (JLS 15.14 to 15.26)

abbrev pub unary : Name → Meant ℕ → Meant ℕ
unary op value = made (exprs.Unary op value.tree) (unary_type op value.static_type)

abbrev pub post : Name → Meant ℕ → Meant ℕ
post op value = made (exprs.Post op value.tree) value.static_type

abbrev pub binary : Name → Meant ℕ × Meant ℕ → Meant ℕ
binary op parts = made (exprs.Binary op parts.0.tree parts.1.tree) (binary_type op)

abbrev pub assignment : Name → Meant ℕ × Meant ℕ → Meant ℕ
assignment op parts = made (exprs.Assign op parts.0.tree parts.1.tree) parts.0.static_type

abbrev pub cast : ReadType ℕ × Meant ℕ → Meant ℕ
cast parts = made (exprs.Cast parts.0.tree parts.1.tree) (of_type parts.0.type)

abbrev pub instance_of : Meant ℕ × ReadType ℕ → Meant ℕ
instance_of parts = made (exprs.InstanceOf parts.0.tree parts.1.tree) primitive_value

-- of a test and two values, with the static type that these have in common
abbrev pub choice : StaticType ℕ → Meant ℕ × (Meant ℕ × Meant ℕ) → Meant ℕ
choice common parts = made (exprs.Cond parts.0.tree parts.1.0.tree parts.1.1.tree) common

-- ---- several values

-- one more value after others
abbrev pub one_more : List IExpr × Meant ℕ → List IExpr
one_more parts = parts.0 ++ parts.1.tree ∷ []
