-- The references of single names, each by what it stands for and how it stands.
use Rattle.std.specs.Prelude.{ℕ, map, slice_get, Option, Some}
use Rattle.std.specs.Option.{option_map_or}
use Rattle.mol_base.specs.declared.ident.Id.{Id}
use Rattle.jav_names.specs.DottedNames.{Name}
use Rattle.jav_names.specs.OnValues.{StaticType, class_value, mixed_value}
use Rattle.jav_names.specs.StaticTypes.{of_type}
use Rattle.mol_spell_rules.specs.references.References.{Target, field_target, index_target, local_target, method_target, outside_target, param_target}
use Rattle.mol_resolve_rules.specs.Locals.{Local, Locals}
use Rattle.mol_resolve_rules.specs.ReadTrees.{Mode}
use Rattle.mol_spell_rules.specs.SpelledExpressions.{asks_name, asks_outside, class_text, importable_names, local_text, name_of, param_name, plain, reference, using}
use Rattle.mol_spell_rules.specs.Writers.{Reference, Writer, call_asked, constructor_asked, field_asked, index_asked, method_asked, outside_import, program_class, super_method_asked, written_use}

-- the static type of what a constructor of this class creates
abbrev pub created_value : Option Id → StaticType Id
created_value class = option_map_or (λ class. class_value class) class mixed_value

module _ (writer : Writer) (locals : Locals Id) where
  -- ---- variables, and what is outside

  abbrev pub local_reference : ℕ → Mode → Reference
  local_reference number mode = plain writer locals (local_target number) (asks_name writer locals (local_text locals number) mode)

  abbrev pub local_value : ℕ → StaticType Id
  local_value number =
      option_map_or (λ type. of_type type) (slice_get (map (λ (local : Local Id). local.type) locals.declared) number) mixed_value

  abbrev pub param_reference : Id → Mode → Reference
  param_reference id mode = plain writer locals (param_target id) (asks_name writer locals (param_name writer locals id) mode)

  abbrev pub name_reference : Name → Mode → Reference
  name_reference name mode =
      reference writer locals (outside_target name) (asks_name writer locals name mode) (Some (written_use name))

  -- an imported type outside
  abbrev pub class_reference : Name → Mode → Reference
  class_reference full mode = using writer locals (outside_import full) (outside_target full)
      (asks_outside writer locals (importable_names writer locals (outside_import full)) mode)

  -- ---- members of values, of a static type

  abbrev pub field_on_reference : StaticType Id → Id → Reference
  field_on_reference type field = plain writer locals (field_target field) (field_asked type (name_of writer locals field))

  abbrev pub outside_field_reference : StaticType Id → Name → Reference
  outside_field_reference type name = plain writer locals (outside_target name) (field_asked type name)

  abbrev pub method_on_reference : StaticType Id → Id → ℕ → Reference
  method_on_reference type method arity =
      plain writer locals (method_target method) (method_asked type (name_of writer locals method) arity)

  abbrev pub outside_on_reference : StaticType Id → Name → ℕ → Reference
  outside_on_reference type name arity = plain writer locals (outside_target name) (method_asked type name arity)

  -- the brackets after an array
  abbrev pub index_reference : StaticType Id → Reference
  index_reference type = plain writer locals index_target (index_asked type)

  -- ---- other calls

  abbrev pub super_reference : Id → ℕ → Reference
  super_reference method arity =
      plain writer locals (method_target method) (super_method_asked (name_of writer locals method) arity)

  abbrev pub outside_call_reference : Name → ℕ → Reference
  outside_call_reference name arity = plain writer locals (outside_target name) (call_asked name arity)

  abbrev pub outside_super_reference : Name → ℕ → Reference
  outside_super_reference name arity = plain writer locals (outside_target name) (super_method_asked name arity)

  -- a constructor after the name of a class
  abbrev pub created_class_reference : Target → Id → ℕ → Reference
  created_class_reference target class arity =
      using writer locals (program_class class) target (constructor_asked (class_text writer locals class) arity)
