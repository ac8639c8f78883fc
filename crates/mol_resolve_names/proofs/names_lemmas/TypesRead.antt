-- A type reads the same with other parameters in scope.
use Rattle.std.proofs.Common.{◌≡◌, ◌∙◌, ℕ, Bool, List, Option, Some, None, refl}
use Rattle.jav_tree.specs.declared.types.TypeName.{TypeName, fold-TypeName}
use Rattle.jav_tree.specs.declared.types.TypeName.TheOpen.{TypeName-F}
use Rattle.jav_names.specs.DottedNames.{cut}
use Rattle.jav_names.specs.LookUps.{type_named}
use Rattle.jav_names.specs.Types.{TypeReading, class_read, imported, written, no_type}
use Rattle.jav_names.specs.UnitViews.{MemberKey}
use Rattle.jav_names.specs.Views.{ViewType}
use Rattle.mol_resolve_rules.specs.Readers.{Parameter, Reader}
use Rattle.mol_resolve_rules.specs.ReadTypes.{named_tree, read_type, seen_type, type_or_fault, type_step, type_tree}
use Rattle.mol_values_types.specs.declared.itype.IType.{IType}

module _ (reader : Reader ℕ MemberKey) (params : List (Parameter ℕ)) (in_constructor : Bool) where
  abbrev within : Reader ℕ MemberKey
  within = record reader { params = params; in_constructor = in_constructor }

  same-named : (reading : TypeReading ℕ) → named_tree reader reading ≡ named_tree within reading
  same-named (class_read class) = refl
  same-named (imported import rest) = refl
  same-named (written text) = refl
  same-named no_type = refl

  same-step : (form : TypeName-F (Option IType)) → type_step reader form ≡ type_step within form
  same-step (TypeName-F.Prim name) = refl
  same-step (TypeName-F.Named name) = same-named (type_named reader.view.classes reader.header (cut name).first (cut name).rest)
  same-step (TypeName-F.ArrayOf item) = refl
  same-step TypeName-F.Void = refl

  same-tree : (name : TypeName) → type_tree reader name ≡ type_tree within name
  same-tree name = λ i. fold-TypeName (Option IType) (λ form. same-step form i) name

  same-fault : (at : ℕ) (tree : Option IType) (type : ViewType ℕ) → type_or_fault reader at tree type ≡ type_or_fault within at tree type
  same-fault at None type = refl
  same-fault at (Some tree) type = refl

  pub type-read : (at : ℕ) (name : TypeName) → read_type reader at name ≡ read_type within at name
  type-read at name = (λ i. type_or_fault reader at (same-tree name i) (seen_type reader name))
      ∙ same-fault at (type_tree within name) (seen_type reader name)
