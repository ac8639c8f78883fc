-- What a variable means, by how it is found.
use Rattle.std.proofs.Common.{◌≡◌, ◌∙◌, ℕ, List, Option, Some, None, option_map, slice_get, sym, ap}
use Rattle.std.proofs.lemmas.Option.{same_Some, slice_get-map}
use Rattle.std.specs.Option.{option_map_or}
use Rattle.jav_scope.specs.declared.source.SourceUnit.{SourceUnit}
use Rattle.jav_names.specs.seen.Kept.{view_type}
use Rattle.jav_names.specs.OnValues.{mixed_value}
use Rattle.jav_names.specs.StaticTypes.{of_type}
use Rattle.jav_names.specs.UnitViews.{MemberKey}
use Rattle.jav_names.specs.Variables.{Variable as Read, local_variable, parameter_variable, field_variable}
use Rattle.jav_names.specs.Views.{ViewField, ViewType}
use Rattle.mol_resolve_names.specs.chains.InMembers.{view_param}
use Rattle.mol_resolve_names.specs.declared.chains.parameter.Parameter.{Parameter}
use Rattle.mol_resolve_members.specs.found.Found.{IsField}
use Rattle.mol_resolve_members.specs.declared.found.found_member.FoundField.{FoundField}
use Rattle.mol_resolve_readings.specs.meant.Made.{made, own_field}
use Rattle.mol_resolve_rules.specs.Locals.{Local, Locals}
use Rattle.mol_resolve_rules.specs.Outcomes.{fine}
use Rattle.mol_resolve_rules.specs.Readers.{Ids, Reader, Parameter as Seen}
use Rattle.mol_resolve_rules.specs.ReadTrees.{local_meant, param_meant, valued, variable_meant}
use Rattle.mol_values_types.specs.declared.iexpr.IExpr.TheVariants as exprs
use Rattle.mol_resolve_names.specs.lone_names.Variables.{IsLocal, IsOver, IsVariable, value_of}
use Rattle.mol_resolve_names.specs.declared.lone_names.variable.Variable.{Variable}
use Rattle.mol_resolve_names.specs.declared.lone_names.variable.Variable.TheVariants as variable

module _ (sources : List SourceUnit) (params : List Parameter) (reader : Reader ℕ MemberKey) (locals : Locals ℕ)
    (over : IsOver sources params reader) where
  local-meant : (place number : ℕ) (type : ViewType ℕ) → IsLocal locals place number type
      → variable_meant reader locals (local_variable place) ≡ fine (made (exprs.Local number) (of_type type))
  local-meant place number type local =
      ap (local_meant reader locals) local.in_scope ∙ by (slice_get locals.declared number) local.typed where
        by : (found : Option (Local ℕ)) → option_map (λ (local : Local ℕ). local.type) found ≡ Some type
            → valued reader (exprs.Local number) (option_map_or (λ (local : Local ℕ). of_type local.type) found mixed_value)
            ≡ fine (made (exprs.Local number) (of_type type))
        by None is = absurd cc
        by (Some found) is = ap (λ type. fine (made (exprs.Local number) (of_type type))) (same_Some found.type type is)

  param-meant : (place : ℕ) (param : Parameter) → slice_get params place ≡ Some param
      → variable_meant reader locals (parameter_variable place) ≡ fine (made (exprs.Param param.id) (of_type (view_type param.ty)))
  param-meant place param is = ap (param_meant reader)
      (ap (λ (params : List (Seen ℕ)). slice_get params place) over.params ∙ slice_get-map view_param params place
      ∙ ap (option_map view_param) is)

  field-meant : (field : ViewField ℕ MemberKey) (found : FoundField) → IsField sources field found
      → variable_meant reader locals (field_variable field) ≡ fine (own_field found.is_static found.id (view_type found.ty.now))
  field-meant field found is =
      let id = ap (λ (ids : Ids ℕ MemberKey). ids.member_id field.key) over.ids ∙ sym is.identity in
      λ i. fine (own_field (sym is.static i) (id i) (sym is.type i))

  pub variable-meant : (read : Read ℕ MemberKey) (found : Variable) → IsVariable sources locals params read found
      → variable_meant reader locals read ≡ fine (value_of found)
  variable-meant (local_variable place) (variable.Local number type) is = local-meant place number (view_type type.now) is
  variable-meant (local_variable place) (variable.Parameter param) is = absurd is
  variable-meant (local_variable place) (variable.Field found) is = absurd is
  variable-meant (parameter_variable place) (variable.Local number type) is = absurd is
  variable-meant (parameter_variable place) (variable.Parameter param) is = param-meant place param.now is
  variable-meant (parameter_variable place) (variable.Field found) is = absurd is
  variable-meant (field_variable field) (variable.Local number type) is = absurd is
  variable-meant (field_variable field) (variable.Parameter param) is = absurd is
  variable-meant (field_variable field) (variable.Field found) is = field-meant field found is
