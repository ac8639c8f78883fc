-- The references of an expression from those of its parts.
use Rattle.std.specs.Prelude.{ℕ, List, [], ◌∷◌, ◌++◌, length, None, Some, if◌then◌else◌}
use Rattle.std.specs.List.{flat_map}
use Rattle.mol_base.specs.declared.ident.Id.{Id}
use Rattle.jav_names.specs.DottedNames.{Name}
use Rattle.jav_names.specs.OnValues.{StaticType}
use Rattle.mol_faults_expr.specs.Names.{field_on_reference, method_on_reference, outside_call_reference, outside_field_reference, outside_on_reference, outside_super_reference, super_reference}
use Rattle.mol_resolve_rules.specs.Locals.{Locals}
use Rattle.mol_resolve_rules.specs.ReadTrees.{Mode, before}
use Rattle.mol_resolve_rules.specs.StaticTypes.{class_of_only_declaration}
use Rattle.mol_spell_rules.specs.SpelledExpressions.{call_form, call_reference, constructor_reference, field_reference, name_of, own_form, spelled_expr, static_call_form}
use Rattle.mol_spell_rules.specs.SpelledTypes.{spelled_type}
use Rattle.mol_spell_rules.specs.Writers.{Reference, Writer}
use Rattle.mol_values_types.specs.declared.iexpr.Argument.{Argument}
use Rattle.mol_values_types.specs.declared.iexpr.IExpr.{IExpr}
use Rattle.mol_values_types.specs.declared.itype.IType.{IType}
use Rattle.mol_spell_expr.specs.Importables.{hides_at}
use Rattle.mol_spell_expr.specs.declared.type_place.TypePlace.{TypePlace}
use Rattle.mol_spell_expr.specs.declared.type_place.TypePlace.TheVariants as places

module _ (writer : Writer) (locals : Locals Id) where
  -- of a type at such a place
  abbrev pub type_references : TypePlace → IType → List Reference
  type_references place type = (spelled_type writer (hides_at writer locals place) locals type).references

  -- ---- expressions

  abbrev pub static_type : IExpr → StaticType Id
  static_type e = (spelled_expr writer locals e).static_type

  -- of an expression as it stands
  abbrev pub references_as : IExpr → Mode → List Reference
  references_as e mode = (spelled_expr writer locals e).references mode

  -- of one that stands alone
  abbrev pub expr_references : IExpr → List Reference
  expr_references e = references_as e None

  abbrev pub all_references : List IExpr → List Reference
  all_references es = flat_map expr_references es

  abbrev pub argument_references : List Argument → List Reference
  argument_references args = flat_map (λ (argument : Argument). expr_references argument.value) args

  -- ---- fields of what an expression gives, as they stand

  abbrev pub value_field_references : Id → IExpr → Mode → List Reference
  value_field_references field on mode =
      references_as on (before (name_of writer locals field) mode) ++ field_on_reference writer locals (static_type on) field ∷ []

  abbrev pub field_references : Id → IExpr → Mode → List Reference
  field_references field on mode =
      if (spelled_expr writer locals on).is_this
      then field_reference writer locals (own_form writer locals field) field mode ∷ [] else value_field_references field on mode

  abbrev pub outside_field_references : Name → IExpr → Mode → List Reference
  outside_field_references name on mode =
      references_as on (before name mode) ++ outside_field_reference writer locals (static_type on) name ∷ []

  -- ---- calls

  -- a method called on what an expression gives, up to its name
  abbrev pub received_references : Id → IExpr → ℕ → List Reference
  received_references method on arity =
      if (spelled_expr writer locals on).is_this
      then call_reference writer locals (call_form writer locals method arity) method arity ∷ []
      else references_as on (Some []) ++ method_on_reference writer locals (static_type on) method arity ∷ []

  abbrev pub outside_received : Name → IExpr → ℕ → List Reference
  outside_received name on arity =
      references_as on (Some []) ++ outside_on_reference writer locals (static_type on) name arity ∷ []

  abbrev pub own_call_references : Id → List Argument → List Reference
  own_call_references method args =
      call_reference writer locals (call_form writer locals method (length args)) method (length args) ∷ argument_references args

  abbrev pub static_call_references : Id → List Argument → List Reference
  static_call_references method args =
      call_reference writer locals (static_call_form writer locals method (length args)) method (length args) ∷ argument_references args

  abbrev pub call_on_references : Id → IExpr → List Argument → List Reference
  call_on_references method on args = received_references method on (length args) ++ argument_references args

  abbrev pub super_call_references : Id → List Argument → List Reference
  super_call_references method args = super_reference writer locals method (length args) ∷ argument_references args

  abbrev pub outside_call_references : Name → List IExpr → List Reference
  outside_call_references name args = outside_call_reference writer locals name (length args) ∷ all_references args

  abbrev pub outside_call_on_references : Name → IExpr → List IExpr → List Reference
  outside_call_on_references name on args = outside_received name on (length args) ++ all_references args

  abbrev pub outside_super_references : Name → List IExpr → List Reference
  outside_super_references name args = outside_super_reference writer locals name (length args) ∷ all_references args

  -- ---- creations

  abbrev pub creation_references : Id → List Argument → List Reference
  creation_references constructor args =
      constructor_reference writer locals (class_of_only_declaration writer.program constructor) constructor (length args)
      ∷ argument_references args

  -- a type, and expressions after it
  abbrev pub typed_references : IType → List IExpr → List Reference
  typed_references type items = type_references places.Expression type ++ all_references items
