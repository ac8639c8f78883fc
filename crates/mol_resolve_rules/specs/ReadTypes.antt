-- Types as written, read as types of a program (JLS 4, 6.5.5).
use Rattle.std.specs.Prelude.{ℕ, List, [], ◌∷◌, Option, Some, None, option_map, find, codes}
use Prim.Native.String.{String}
use Rattle.std.specs.Str.{bytes_eq}
use Rattle.jav_tree.specs.declared.types.TypeName.{TypeName, fold-TypeName}
use Rattle.jav_tree.specs.declared.types.TypeName.TheOpen.{TypeName-F}
use Rattle.jav_names.specs.DottedNames.{Name, cut}
use Rattle.jav_names.specs.LookUps.{type_named}
use Rattle.jav_names.specs.Types.{TypeReading, class_read, imported, written, no_type}
use Rattle.jav_names.specs.TypeTexts.{type_in}
use Rattle.jav_names.specs.Views.{ViewType}
use Rattle.mol_resolve_rules.specs.FaultKinds.{unknown_member}
use Rattle.mol_resolve_rules.specs.Outcomes.{Outcome, fine, refused}
use Rattle.mol_resolve_rules.specs.Readers.{Reader}
use Rattle.mol_values_types.specs.declared.itype.IType.{IType}
use Rattle.mol_values_types.specs.declared.itype.IType.TheVariants as types

-- the primitive types (JLS 4.2), but for `float` and `double`
abbrev pub primitive_types : List (String × IType)
primitive_types = ("boolean", types.Boolean) ∷ ("byte", types.Byte) ∷ ("short", types.Short) ∷ ("char", types.Char) ∷ ("int", types.Int)
    ∷ ("long", types.Long) ∷ []

abbrev pub primitive_tree : Name → Option IType
primitive_tree name =
    option_map (λ (primitive : String × IType). primitive.1)
    (find (λ (primitive : String × IType). bytes_eq (codes primitive.0) name) primitive_types)

-- a type as it is read: as a program keeps it, and as rules on names look at it
pub record ReadType (C : Type 0) : Type 0 where
  pub tree : IType
  pub type : ViewType C

module _ {C M : Type 0} (reader : Reader C M) where
  -- what the name of a type reads as; nothing, where it reads as nothing
  abbrev pub named_tree : TypeReading C → Option IType
  named_tree (class_read class) = Some (types.Class (reader.ids.class_id class))
  named_tree (imported import rest) = Some (types.Imported import rest)
  named_tree (written text) = Some (types.Written text)
  named_tree no_type = None

  abbrev pub type_step : TypeName-F (Option IType) → Option IType
  type_step (TypeName-F.Prim name) = primitive_tree name
  type_step (TypeName-F.Named name) = named_tree (type_named reader.view.classes reader.header (cut name).first (cut name).rest)
  type_step (TypeName-F.ArrayOf item) = option_map (λ tree. types.Array tree) item
  type_step TypeName-F.Void = Some types.Void

  abbrev pub type_tree : TypeName → Option IType
  type_tree = fold-TypeName (Option IType) type_step

  abbrev pub seen_type : TypeName → ViewType C
  seen_type = type_in reader.view.classes reader.header

  abbrev pub type_or_fault : ℕ → Option IType → ViewType C → Outcome (ReadType C)
  type_or_fault at None type = refused unknown_member at
  type_or_fault at (Some tree) type = fine (record { tree = tree; type = type })

  -- A type whose name reads as nothing is an unknown member. `at` is where the innermost expression, statement or member around it begins.
  abbrev pub read_type : ℕ → TypeName → Outcome (ReadType C)
  read_type at name = type_or_fault at (type_tree name) (seen_type name)
