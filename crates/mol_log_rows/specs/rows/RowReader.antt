-- How the object of an entry is read: member after member, each at the key that is next.
use Rattle.std.specs.Prelude.{ℕ, nat_le, if◌then◌else◌, List, [], ◌∷◌, length, codes, Option, None, Some, option_map, option_and_then}
use Prim.Native.String.{String}
use Rattle.std.specs.Str.{bytes_eq}
use Rattle.serde_json.specs.Data.{Data, Items, no_items, item}
use Rattle.serde_json.specs.Find.{as_str, as_array, get}
use Rattle.mol_base.specs.Limits.{max_items}
use Rattle.mol_base.specs.Modifiers.{class_words, field_words, kept_words, constructor_words}
use Rattle.mol_base.specs.declared.ident.Id.{Id}
use Rattle.mol_base.specs.declared.ident.Stamp.{Stamp}
use Rattle.mol_log_rows.specs.lines.Reader.{Reader, ◌>>=◌, pure, part, kept, object_from, id_from, stamp_from, same_from, texts_from, maybe_from}
use Rattle.mol_values_types.specs.TokenForms.{is_name, is_dotted, is_filler, are_comments}
use Rattle.mol_values_types.specs.Words.{are_words}
use Rattle.mol_values_types.specs.declared.kind.MethodKind.{MethodKind}
use Rattle.mol_values_types.specs.declared.kind.MethodKind.TheVariants.{Instance, Static}
use Rattle.mol_values_types.specs.declared.words.Notes.{Notes}
use Rattle.mol_values_types.specs.declared.words.Words.{Words}
use Rattle.mol_log_rows.specs.declared.rows.row.ParamRow.{ParamRow}
use Rattle.mol_log_rows.specs.declared.rows.row.Recorded.{Recorded}
use Rattle.mol_log_rows.specs.declared.rows.row.Row.{Row}
use Rattle.mol_log_rows.specs.declared.rows.row.Row.TheVariants.{AddClass, AddField, AddMethod, AddOverride, AddConstructor, Delete, SetBody, SetValue, RenameClass, RenameMethod, MoveClass, MoveMethod, ChangeSignature}

-- # Parts

abbrev pub name_from : Data → Option (List ℕ)
name_from d = kept is_name (as_str d)

abbrev pub dotted_from : Data → Option (List ℕ)
dotted_from d = kept is_dotted (as_str d)

abbrev pub filler_from : Data → Option (List ℕ)
filler_from d = kept is_filler (as_str d)

abbrev pub words_of : List (List ℕ) → Words
words_of texts = record { texts = texts }

-- the modifiers, where they have their form
abbrev pub words_made : List String → List (List ℕ) → Option Words
words_made allowed texts = if are_words allowed texts then Some (words_of texts) else None

abbrev pub words_from : List String → Data → Option Words
words_from allowed d = option_and_then (words_made allowed) (texts_from d)

abbrev pub comments_from : Data → Option (List (List ℕ))
comments_from d = kept are_comments (texts_from d)

abbrev pub notes_of : List (List ℕ) → List (List ℕ) → List (List ℕ) → Notes
notes_of front head tail = record { front = front; head = head; tail = tail }

-- the comments of a member
abbrev pub front_only : List (List ℕ) → Option Notes
front_only front = Some (notes_of front [] [])

abbrev pub member_notes_from : Data → Option Notes
member_notes_from d = option_and_then front_only (comments_from d)

abbrev pub class_notes : Reader Notes
class_notes = do
  front ← part (codes "front") comments_from
  head ← part (codes "head") comments_from
  tail ← part (codes "tail") comments_from
  pure (notes_of front head tail)

abbrev pub class_notes_from : Data → Option Notes
class_notes_from d = object_from class_notes d

abbrev pub kind_of : List ℕ → Option MethodKind
kind_of text = if bytes_eq text (codes "instance") then Some Instance else if bytes_eq text (codes "static") then Some Static else None

abbrev pub kind_from : Data → Option MethodKind
kind_from d = option_and_then kind_of (as_str d)

abbrev pub param_of : List ℕ → Id → List ℕ → List (List ℕ) → ParamRow
param_of filler id name ty = record { id = id; name = name; ty = ty; filler = filler }

abbrev pub param : Reader ParamRow
param = do
  filler ← part (codes "filler") filler_from
  id ← part (codes "id") id_from
  name ← part (codes "name") name_from
  ty ← part (codes "type") texts_from
  pure (param_of filler id name ty)

abbrev pub param_before : ParamRow → Option (List ParamRow) → Option (List ParamRow)
param_before p more = option_map (λ params. p ∷ params) more

unfoldable pub params_in : Items → Option (List ParamRow)
params_in no_items = Some []
params_in (item d ds) = option_and_then (λ p. param_before p (params_in ds)) (object_from param d)

abbrev pub params_from : Data → Option (List ParamRow)
params_from d = kept (λ params. nat_le (length params) max_items) (option_and_then params_in (as_array d))

-- # Rows

abbrev pub named : List ℕ → Reader (List ℕ)
named name = part (codes "op") (same_from name)

abbrev pub add_class : Reader Row
add_class = do
  class ← part (codes "class") id_from
  name ← part (codes "name") name_from
  notes ← part (codes "notes") class_notes_from
  op ← named (codes "add-class")
  «package» ← part (codes "package") dotted_from
  parent ← part (codes "super") maybe_from
  words ← part (codes "words") (words_from class_words)
  pure (AddClass (record { class = class; «package» = «package»; name = name; parent = parent; words = words; notes = notes }))

abbrev pub add_field : Reader Row
add_field = do
  field ← part (codes "field") id_from
  name ← part (codes "name") name_from
  notes ← part (codes "notes") member_notes_from
  op ← named (codes "add-field")
  owner ← part (codes "owner") id_from
  ty ← part (codes "type") texts_from
  value ← part (codes "value") maybe_from
  words ← part (codes "words") (words_from field_words)
  pure (AddField (record { field = field; owner = owner; name = name; words = words; notes = notes; ty = ty; value = value }))

abbrev pub add_method : Reader Row
add_method = do
  body ← part (codes "body") maybe_from
  decl ← part (codes "decl") id_from
  kind ← part (codes "kind") kind_from
  method ← part (codes "method") id_from
  name ← part (codes "name") name_from
  notes ← part (codes "notes") member_notes_from
  op ← named (codes "add-method")
  owner ← part (codes "owner") id_from
  params ← part (codes "params") params_from
  result ← part (codes "result") texts_from
  words ← part (codes "words") (words_from kept_words)
  pure (AddMethod (record {
    method = method;
    decl = decl;
    owner = owner;
    name = name;
    kind = kind;
    result = result;
    params = params;
    words = words;
    notes = notes;
    body = body;
  }))

abbrev pub add_override : Reader Row
add_override = do
  body ← part (codes "body") maybe_from
  decl ← part (codes "decl") id_from
  method ← part (codes "method") id_from
  notes ← part (codes "notes") member_notes_from
  op ← named (codes "add-override")
  owner ← part (codes "owner") id_from
  words ← part (codes "words") (words_from kept_words)
  pure (AddOverride (record { decl = decl; method = method; owner = owner; words = words; notes = notes; body = body }))

abbrev pub add_constructor : Reader Row
add_constructor = do
  body ← part (codes "body") maybe_from
  decl ← part (codes "decl") id_from
  method ← part (codes "method") id_from
  notes ← part (codes "notes") member_notes_from
  op ← named (codes "add-constructor")
  owner ← part (codes "owner") id_from
  params ← part (codes "params") params_from
  words ← part (codes "words") (words_from constructor_words)
  pure (AddConstructor (record { method = method; decl = decl; owner = owner; params = params; words = words; notes = notes; body = body }))

abbrev pub delete : Reader Row
delete = do
  id ← part (codes "id") id_from
  op ← named (codes "delete")
  pure (Delete (record { id = id }))

abbrev pub set_body : Reader Row
set_body = do
  body ← part (codes "body") maybe_from
  decl ← part (codes "decl") id_from
  op ← named (codes "set-body")
  pure (SetBody (record { decl = decl; body = body }))

abbrev pub set_value : Reader Row
set_value = do
  field ← part (codes "field") id_from
  op ← named (codes "set-value")
  ty ← part (codes "type") texts_from
  value ← part (codes "value") maybe_from
  pure (SetValue (record { field = field; ty = ty; value = value }))

abbrev pub rename_class : Reader Row
rename_class = do
  class ← part (codes "class") id_from
  name ← part (codes "name") name_from
  op ← named (codes "rename-class")
  pure (RenameClass (record { class = class; name = name }))

abbrev pub rename_method : Reader Row
rename_method = do
  method ← part (codes "method") id_from
  name ← part (codes "name") name_from
  op ← named (codes "rename-method")
  pure (RenameMethod (record { method = method; name = name }))

abbrev pub move_class : Reader Row
move_class = do
  class ← part (codes "class") id_from
  op ← named (codes "move-class")
  «package» ← part (codes "package") dotted_from
  pure (MoveClass (record { class = class; «package» = «package» }))

abbrev pub move_method : Reader Row
move_method = do
  decl ← part (codes "decl") id_from
  op ← named (codes "move-method")
  owner ← part (codes "owner") id_from
  pure (MoveMethod (record { decl = decl; owner = owner }))

abbrev pub change_signature : Reader Row
change_signature = do
  method ← part (codes "method") id_from
  op ← named (codes "change-signature")
  params ← part (codes "params") params_from
  result ← part (codes "result") texts_from
  pure (ChangeSignature (record { method = method; result = result; params = params }))

abbrev pub NamedReader : Type 0
NamedReader = String × Reader Row

-- each operation by its name
abbrev pub row_table : List NamedReader
row_table =
    ("add-class", add_class) ∷ ("add-field", add_field) ∷ ("add-method", add_method) ∷ ("add-override", add_override)
    ∷ ("add-constructor", add_constructor) ∷ ("delete", delete) ∷ ("set-body", set_body) ∷ ("set-value", set_value)
    ∷ ("rename-class", rename_class) ∷ ("rename-method", rename_method) ∷ ("move-class", move_class)
    ∷ ("move-method", move_method) ∷ ("change-signature", change_signature) ∷ []

-- the row of the operation of this name, if there is one
abbrev pub row_in : List NamedReader → List ℕ → Reader Row
row_in [] name ms = None
row_in (entry ∷ table) name ms = if bytes_eq name (codes entry.0) then entry.1 ms else row_in table name ms

abbrev pub row_named : List ℕ → Reader Row
row_named name = row_in row_table name

abbrev pub recorded_of : Stamp → Row → Recorded
recorded_of stamp row = record { stamp = stamp; row = row }

abbrev pub recorded : List ℕ → Reader Recorded
recorded name = do
  stamp ← part (codes "at") stamp_from
  row ← row_named name
  pure (recorded_of stamp row)

abbrev pub op_name : Data → Option (List ℕ)
op_name d = option_and_then as_str (get (codes "op") d)

-- the stamp and the row that the data is the object of
abbrev pub recorded_from : Data → Option Recorded
recorded_from d = option_and_then (λ name. object_from (recorded name) d) (op_name d)
