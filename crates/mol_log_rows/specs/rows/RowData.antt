-- The object of an entry's line: the stamp at `at`, the name of the operation at `op`, and the parts of the operation, each at its key.
-- The keys stand in the order of their bytes.
use Rattle.std.specs.Prelude.{◌≡◌, true, List, [], ◌∷◌, map, codes}
use Rattle.serde_json.specs.Data.{Data, string, array}
use Rattle.mol_base.specs.Identity.{spelled_id, spelled_stamp}
use Rattle.mol_base.specs.Spelled.{is_stamp}
use Rattle.mol_base.specs.declared.ident.Id.{Id}
use Rattle.mol_base.specs.declared.ident.Stamp.{Stamp}
use Rattle.mol_values_types.specs.declared.kind.MethodKind.{MethodKind}
use Rattle.mol_values_types.specs.declared.kind.MethodKind.TheVariants.{Instance, Static, Constructor}
use Rattle.mol_values_types.specs.declared.words.Notes.{Notes}
use Rattle.mol_log_rows.specs.lines.Objects.{Pair, object_of, items, texts_data, maybe_texts}
use Rattle.mol_log_rows.specs.rows.RowForms.{is_row}
use Rattle.mol_log_rows.specs.declared.rows.row.ParamRow.{ParamRow}
use Rattle.mol_log_rows.specs.declared.rows.row.Row.{Row}
use Rattle.mol_log_rows.specs.declared.rows.row.Row.TheVariants.{AddClass, AddField, AddMethod, AddOverride, AddConstructor, Delete, SetBody, SetValue, RenameClass, RenameMethod, MoveClass, MoveMethod, ChangeSignature}

-- # Parts

abbrev pub id_data : Id → Data
id_data id = string (spelled_id id)

-- a constructor is no kind that a row has
abbrev pub kind_data : MethodKind → Data
kind_data Instance = string (codes "instance")
kind_data Static = string (codes "static")
kind_data Constructor = string []

-- comments of a class: before it, and at the head and the tail of its braces
abbrev pub class_notes : Notes → Data
class_notes notes = object_of (("front", texts_data notes.front) ∷ ("head", texts_data notes.head) ∷ ("tail", texts_data notes.tail) ∷ [])

-- comments of a member
abbrev pub member_notes : Notes → Data
member_notes notes = texts_data notes.front

abbrev pub param_data : ParamRow → Data
param_data param =
    object_of (("filler", string param.filler) ∷ ("id", id_data param.id) ∷ ("name", string param.name) ∷ ("type", texts_data param.ty)
    ∷ [])

abbrev pub params_data : List ParamRow → Data
params_data params = array (items (map param_data params))

-- # Rows

abbrev pub row_pairs : Row → List Pair
row_pairs (AddClass row) =
    ("class", id_data row.class) ∷ ("name", string row.name) ∷ ("notes", class_notes row.notes) ∷ ("op", string (codes "add-class"))
    ∷ ("package", string row.package) ∷ ("super", maybe_texts row.parent) ∷ ("words", texts_data row.words.texts) ∷ []
row_pairs (AddField row) =
    ("field", id_data row.field) ∷ ("name", string row.name) ∷ ("notes", member_notes row.notes) ∷ ("op", string (codes "add-field"))
    ∷ ("owner", id_data row.owner) ∷ ("type", texts_data row.ty) ∷ ("value", maybe_texts row.value)
    ∷ ("words", texts_data row.words.texts) ∷ []
row_pairs (AddMethod row) =
    ("body", maybe_texts row.body) ∷ ("decl", id_data row.decl) ∷ ("kind", kind_data row.kind) ∷ ("method", id_data row.method)
    ∷ ("name", string row.name)
    ∷ ("notes", member_notes row.notes) ∷ ("op", string (codes "add-method")) ∷ ("owner", id_data row.owner)
    ∷ ("params", params_data row.params)
    ∷ ("result", texts_data row.result) ∷ ("words", texts_data row.words.texts) ∷ []
row_pairs (AddOverride row) =
    ("body", maybe_texts row.body) ∷ ("decl", id_data row.decl) ∷ ("method", id_data row.method) ∷ ("notes", member_notes row.notes)
    ∷ ("op", string (codes "add-override")) ∷ ("owner", id_data row.owner) ∷ ("words", texts_data row.words.texts) ∷ []
row_pairs (AddConstructor row) =
    ("body", maybe_texts row.body) ∷ ("decl", id_data row.decl) ∷ ("method", id_data row.method) ∷ ("notes", member_notes row.notes)
    ∷ ("op", string (codes "add-constructor")) ∷ ("owner", id_data row.owner) ∷ ("params", params_data row.params)
    ∷ ("words", texts_data row.words.texts) ∷ []
row_pairs (Delete row) = ("id", id_data row.id) ∷ ("op", string (codes "delete")) ∷ []
row_pairs (SetBody row) = ("body", maybe_texts row.body) ∷ ("decl", id_data row.decl) ∷ ("op", string (codes "set-body")) ∷ []
row_pairs (SetValue row) =
    ("field", id_data row.field) ∷ ("op", string (codes "set-value")) ∷ ("type", texts_data row.ty) ∷ ("value", maybe_texts row.value) ∷ []
row_pairs (RenameClass row) = ("class", id_data row.class) ∷ ("name", string row.name) ∷ ("op", string (codes "rename-class")) ∷ []
row_pairs (RenameMethod row) = ("method", id_data row.method) ∷ ("name", string row.name) ∷ ("op", string (codes "rename-method")) ∷ []
row_pairs (MoveClass row) = ("class", id_data row.class) ∷ ("op", string (codes "move-class")) ∷ ("package", string row.package) ∷ []
row_pairs (MoveMethod row) = ("decl", id_data row.decl) ∷ ("op", string (codes "move-method")) ∷ ("owner", id_data row.owner) ∷ []
row_pairs (ChangeSignature row) =
    ("method", id_data row.method) ∷ ("op", string (codes "change-signature")) ∷ ("params", params_data row.params)
    ∷ ("result", texts_data row.result) ∷ []

-- the object of a stamp and a row; `at` is less than each other key
abbrev pub row_data : Stamp → Row → Data
row_data stamp row = object_of (("at", string (spelled_stamp stamp)) ∷ row_pairs row)

-- the data is that of this stamp and this row, whose names and texts have their forms
pub record IsRow («data» : Data) (stamp : Stamp) (row : Row) : Type 0 where
  pub is : «data» ≡ row_data stamp row
  pub stamped : is_stamp stamp ≡ true
  pub formed : is_row row ≡ true
