-- Variables as they are found, beside those that the rules on names find.
use Rattle.std.specs.Prelude.{◌≡◌, ℕ, List, map, Some, option_map, slice_get}
use Rattle.jav_scope.specs.declared.source.SourceUnit.{SourceUnit}
use Rattle.jav_names.specs.seen.Kept.{view_type}
use Rattle.jav_names.specs.StaticTypes.{of_type}
use Rattle.jav_names.specs.UnitViews.{MemberKey}
use Rattle.jav_names.specs.Variables.{Variable as Read, local_variable, parameter_variable, field_variable}
use Rattle.jav_names.specs.Views.{ViewType}
use Rattle.mol_resolve_names.specs.chains.InMembers.{view_param}
use Rattle.mol_resolve_names.specs.declared.chains.parameter.Parameter.{Parameter}
use Rattle.mol_resolve_members.specs.found.Found.{IsField}
use Rattle.mol_resolve_readings.specs.meant.Made.{made, own_field}
use Rattle.mol_resolve_members.specs.sources.Sources.{files_of}
use Rattle.mol_resolve_rules.specs.Locals.{Local, Locals}
use Rattle.mol_resolve_rules.specs.Numbering.{ids_of}
use Rattle.mol_resolve_rules.specs.Readers.{Reader}
use Rattle.mol_resolve_rules.specs.ReadTrees.{Meant}
use Rattle.mol_values_types.specs.declared.iexpr.IExpr.TheVariants as exprs
use Rattle.mol_resolve_names.specs.declared.lone_names.variable.Variable.{Variable}
use Rattle.mol_resolve_names.specs.declared.lone_names.variable.Variable.TheVariants as variable

-- It stands at this place among the locals in scope.
pub record IsLocal (locals : Locals ℕ) (place number : ℕ) (type : ViewType ℕ) : Type 0 where
  pub in_scope : slice_get locals.in_scope place ≡ Some number
  pub typed : option_map (λ (local : Local ℕ). local.type) (slice_get locals.declared number) ≡ Some type

-- This is the variable.
abbrev pub IsVariable : List SourceUnit → Locals ℕ → List Parameter → Read ℕ MemberKey → Variable → Type 0
IsVariable sources locals params (local_variable place) (variable.Local number type) = IsLocal locals place number (view_type type.now)
IsVariable sources locals params (parameter_variable place) (variable.Parameter param) = slice_get params place ≡ Some param.now
IsVariable sources locals params (field_variable field) (variable.Field found) = IsField sources field found
IsVariable sources locals params read found = ⊥

-- what it means
abbrev pub value_of : Variable → Meant ℕ
value_of (variable.Local number type) = made (exprs.Local number) (of_type (view_type type.now))
value_of (variable.Parameter param) = made (exprs.Param param.now.id) (of_type (view_type param.now.ty))
value_of (variable.Field found) = own_field found.is_static found.id (view_type found.ty.now)

-- A reader over these files, with these parameters in scope.
pub record IsOver (sources : List SourceUnit) (kept : List Parameter) (reader : Reader ℕ MemberKey) : Type 0 where
  pub ids : reader.ids ≡ ids_of (files_of sources)
  pub params : reader.params ≡ map view_param kept
