-- What several names with dots between them read as, where the last of them is the name of a value (JLS 6.5.6).
use Rattle.std.specs.Prelude.{ℕ, suc, [], ◌∷◌, Option, Some, None, option_map, slice_get}
use Rattle.std.specs.Option.{option_map_or, option_and_then}
use Rattle.jav_names.specs.DottedNames.{Name, Names}
use Rattle.jav_names.specs.Leftmost.{Leftmost, leftmost_variable, leftmost_class, leftmost_import, leftmost_outside}
use Rattle.jav_names.specs.LookUps.{field_on, field_through, method_on}
use Rattle.jav_names.specs.OnValues.{StaticType, mixed_value, outside_value, OnValue, member, static_member, outside_member, missing_member, has_no_members, unread_member}
use Rattle.jav_names.specs.StaticTypes.{of_type, outside_field}
use Rattle.jav_names.specs.Variables.{Variable, local_variable, parameter_variable, field_variable}
use Rattle.jav_names.specs.Views.{ViewField}
use Rattle.mol_base.specs.declared.ident.Id.{Id}
use Rattle.mol_spell_rules.specs.references.References.{Target, local_target, outside_target, param_target}
use Rattle.mol_resolve_rules.specs.Locals.{Local, Locals}
use Rattle.mol_resolve_rules.specs.Readers.{Parameter, Reader}
use Rattle.mol_resolve_rules.specs.ReadTrees.{ClassPath, whole_path, front_path, no_path, path_by}
use Rattle.mol_resolve_rules.specs.StaticTypes.{field_value}
use Rattle.mol_spell_rules.specs.Answers.{field_of, method_of, on_value_answer}
use Rattle.mol_table_rules.specs.Program.{Program}

-- what the last name is the name of, and the static type of its value
pub record Reads : Type 0 where
  pub target : Target
  pub type : StaticType Id

-- something outside of this text
abbrev pub outside_read : Name → StaticType Id → Reads
outside_read text type = record { target = outside_target text; type = type }

module _ (program : Program) (reader : Reader Id Id) where
  abbrev pub field_read : ViewField Id Id → Reads
  field_read field = record { target = field_of reader field; type = field_value program field.key }

  -- a field of a value of this type; a static one reads as nothing
  abbrev pub member_read : Name → StaticType Id → OnValue (ViewField Id Id) → Option Reads
  member_read name type (member field) = Some (field_read field)
  member_read name type outside_member = Some (outside_read name (outside_field type name))
  member_read name type (static_member field) = None
  member_read name type missing_member = None
  member_read name type has_no_members = None
  member_read name type unread_member = None

  abbrev pub value_read : Name → StaticType Id → Option Reads
  value_read name type = member_read name type (field_on reader.view name type)

  -- One more name after a dot: after names that spell a class a static field of it, after the front of names that do so nothing, and else
  -- a field of what they read as.
  abbrev pub next_read : Name → ClassPath Id → Option Reads → Option Reads
  next_read name (whole_path class) read = option_map field_read (field_through reader.view class name)
  next_read name front_path read = None
  next_read name no_path read = option_and_then (λ (value : Reads). value_read name value.type) read

  -- further names after so many, where the leftmost of all reads so
  abbrev pub reads_on : Leftmost Id Id → ℕ → Option Reads → Names → Option Reads
  reads_on leftmost count read [] = read
  reads_on leftmost count read (name ∷ names) = reads_on leftmost (suc count) (next_read name (path_by count leftmost) read) names

  module _ (locals : Locals Id) where
    abbrev pub local_read : ℕ → Reads
    local_read number = record {
      target = local_target number;
      type = option_map_or (λ (local : Local Id). of_type local.type) (slice_get locals.declared number) mixed_value;
    }

    abbrev pub param_read : Parameter Id → Reads
    param_read param = record { target = param_target param.id; type = of_type param.type }

    abbrev pub variable_read : Variable Id Id → Option Reads
    variable_read (local_variable place) = option_map local_read (slice_get locals.in_scope place)
    variable_read (parameter_variable place) = option_map param_read (slice_get reader.params place)
    variable_read (field_variable field) = Some (field_read field)

    -- the first name, before a dot; a class is no value
    abbrev pub first_read : Name → Leftmost Id Id → Option Reads
    first_read name (leftmost_variable variable) = variable_read variable
    first_read name (leftmost_class class count) = None
    first_read name (leftmost_import import) = Some (outside_read import outside_value)
    first_read name leftmost_outside = Some (outside_read name outside_value)

    -- all of them
    abbrev pub names_read : Name → Names → Leftmost Id Id → Option Reads
    names_read first rest leftmost = reads_on leftmost 1 (first_read first leftmost) rest

    -- what the last of them is the name of
    abbrev pub target_read : Name → Names → Leftmost Id Id → Option Target
    target_read first rest leftmost = option_map (λ (read : Reads). read.target) (names_read first rest leftmost)

-- a method with so many arguments, after what names read as
abbrev pub method_read : Reader Id Id → Name → ℕ → Option Reads → Option Target
method_read reader name arity read =
    option_and_then (λ (value : Reads). on_value_answer reader name (method_of reader) (method_on reader.view name arity value.type)) read
