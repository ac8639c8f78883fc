-- Types as they are written, and types outside as their texts (JLS 6.5.5, 6.7).
use Rattle.std.specs.Prelude.{[], ◌∷◌, ◌++◌}
use Rattle.jav_tree.specs.declared.types.TypeName.{TypeName, fold-TypeName}
use Rattle.jav_tree.specs.declared.types.TypeName.TheOpen.{TypeName-F}
use Rattle.jav_names.specs.DottedNames.{Name, dot, cut}
use Rattle.jav_names.specs.LookUps.{type_named}
use Rattle.jav_names.specs.Types.{Header, TypeReading, class_read, imported, written, no_type, ReadsType}
use Rattle.jav_names.specs.Views.{ViewType, primitive_type, void_type, class_type, outside_type, array_type, unread_type, Classes}

-- The text of an imported type: its full name, and after a dot what follows it.
abbrev pub imported_text : Name → Name → Name
imported_text import [] = import
imported_text import (byte ∷ rest) = import ++ dot ∷ byte ∷ rest

-- What a text with dots reads as: the names that it is cut into.
abbrev pub ReadsTypeText : {C : Type 0} → Classes C → Header C → Name → TypeReading C → Type 0
ReadsTypeText classes header text = ReadsType classes header (cut text).first (cut text).rest

-- The type that a name reads as. An outside type is its text.
abbrev pub type_of : {C : Type 0} → TypeReading C → ViewType C
type_of (class_read class) = class_type class
type_of (imported import rest) = outside_type (imported_text import rest)
type_of (written text) = outside_type text
type_of no_type = unread_type

abbrev pub type_step : {C : Type 0} → Classes C → Header C → TypeName-F (ViewType C) → ViewType C
type_step classes header (TypeName-F.Prim name) = primitive_type name
type_step classes header (TypeName-F.Named text) = type_of (type_named classes header (cut text).first (cut text).rest)
type_step classes header (TypeName-F.ArrayOf item) = array_type item
type_step classes header TypeName-F.Void = void_type

-- A type as it is written in a file with this header.
abbrev pub type_in : {C : Type 0} → Classes C → Header C → TypeName → ViewType C
type_in {C} classes header = fold-TypeName (ViewType C) (type_step classes header)
