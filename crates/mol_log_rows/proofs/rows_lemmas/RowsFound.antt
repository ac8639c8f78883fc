-- What is read of an object as a row is the row of the object.
use Rattle.std.proofs.Common.{◌≡◌, ℕ, List, [], ◌∷◌, Bool, true, false, Option, Some, None, option_and_then, refl, sym, ap, ◌∙◌, codes}
use Rattle.std.specs.Prelude.{◌&&◌, if◌then◌else◌}
use Rattle.std.specs.Str.{bytes_eq}
use Rattle.serde_json.specs.Data.{Data, string, object, Members, no_members}
use Rattle.mol_base.specs.Modifiers.{class_words, field_words, kept_words, constructor_words}
use Rattle.mol_base.specs.Spelled.{is_id, is_stamp}
use Rattle.mol_base.specs.declared.ident.Id.{Id}
use Rattle.mol_values_types.specs.TokenForms.{is_name, is_dotted}
use Rattle.mol_values_types.specs.Words.{are_words}
use Rattle.mol_values_types.specs.declared.kind.MethodKind.{MethodKind}
use Rattle.mol_values_types.specs.declared.words.Notes.{Notes}
use Rattle.mol_values_types.specs.declared.words.Words.{Words}
use Rattle.mol_log_rows.specs.lines.Objects.{members, texts_data}
use Rattle.mol_log_rows.specs.lines.Reader.{Outcome, Reader, ◌>>=◌, and_then, pure, part, before, object_from, stamp_from, id_from, same_from, texts_from, maybe_from}
use Rattle.mol_log_rows.proofs.lines_lemmas.ReaderFound.{step, pure_is, whole_found, stamp_found, id_found, text_found, same_found, texts_found, maybe_found, follow}
use Rattle.mol_log_rows.specs.rows.RowForms.{is_row, are_param_rows}
use Rattle.mol_log_rows.specs.rows.RowReader as row_reader
use Rattle.mol_log_rows.specs.rows.RowReader.{NamedReader, named, row_table, row_in, row_named, recorded, recorded_of, recorded_from, op_name, name_from, dotted_from, words_from, member_notes_from, class_notes_from, kind_from, params_from}
use Rattle.mol_log_rows.specs.rows.RowData.{IsRow, row_data, row_pairs, id_data, params_data}
use Rattle.mol_log_rows.specs.declared.rows.row.ParamRow.{ParamRow}
use Rattle.mol_log_rows.specs.declared.rows.row.Recorded.{Recorded}
use Rattle.mol_log_rows.specs.declared.rows.row.Row.{Row}
use Rattle.mol_log_rows.specs.declared.rows.row.Row.TheVariants as rows
use Rattle.mol_log_rows.proofs.rows_lemmas.PartsFound.{words_found, notes_found, class_notes_found, kind_found, params_found}

and_true : {a b : Bool} → a ≡ true → b ≡ true → (a && b) ≡ true
and_true {b} x y = ap (λ a. a && b) x ∙ y

-- the members are those of the row, whose forms are right
pub record IsFound (ms : Members) (row : Row) : Type 0 where
  pub is : ms ≡ members (row_pairs row)
  pub formed : is_row row ≡ true

add_class_found : (ms : Members) (row : Row) → row_reader.add_class ms ≡ Some (row, no_members) → IsFound ms row
add_class_found ms row e =
    let class_at = step (codes "class") id_from _ ms (row, no_members) e in
    let name_at = step (codes "name") name_from _ class_at.rest (row, no_members) class_at.more in
    let notes_at = step (codes "notes") class_notes_from _ name_at.rest (row, no_members) name_at.more in
    let op_at = step (codes "op") (same_from (codes "add-class")) _ notes_at.rest (row, no_members) notes_at.more in
    let package_at = step (codes "package") dotted_from _ op_at.rest (row, no_members) op_at.more in
    let super_at = step (codes "super") maybe_from _ package_at.rest (row, no_members) package_at.more in
    let words_at = step (codes "words") (words_from class_words) _ super_at.rest (row, no_members) super_at.more in
    let class_is = id_found class_at.found class_at.value class_at.read in
    let name_is = text_found is_name name_at.found name_at.value name_at.read in
    let notes_is = class_notes_found notes_at.found notes_at.value notes_at.read in
    let op_is = same_found (codes "add-class") op_at.found op_at.value op_at.read in
    let package_is = text_found is_dotted package_at.found package_at.value package_at.read in
    let super_is = maybe_found super_at.found super_at.value super_at.read in
    let words_is = words_found class_words words_at.found words_at.value words_at.read in
    let made : Row = rows.AddClass (record {
      class = class_at.value;
      «package» = package_at.value;
      name = name_at.value;
      parent = super_at.value;
      words = words_at.value;
      notes = notes_at.value;
    }) in
    let end = pure_is made row words_at.rest no_members words_at.more in
    let from_words = follow words_at.is words_is.0 end.1 in
    let from_super = follow super_at.is super_is from_words in
    let from_package = follow package_at.is package_is.0 from_super in
    let from_op = follow op_at.is op_is from_package in
    let from_notes = follow notes_at.is notes_is.0 from_op in
    let from_name = follow name_at.is name_is.0 from_notes in
    let from_class = follow class_at.is class_is.0 from_name in
    let formed : is_row made ≡ true = and_true (and_true (and_true (and_true class_is.1 package_is.1) name_is.1) words_is.1) notes_is.1 in
    record { is = from_class ∙ ap (λ r. members (row_pairs r)) end.0; formed = ap is_row (sym end.0) ∙ formed }

add_field_found : (ms : Members) (row : Row) → row_reader.add_field ms ≡ Some (row, no_members) → IsFound ms row
add_field_found ms row e =
    let field_at = step (codes "field") id_from _ ms (row, no_members) e in
    let name_at = step (codes "name") name_from _ field_at.rest (row, no_members) field_at.more in
    let notes_at = step (codes "notes") member_notes_from _ name_at.rest (row, no_members) name_at.more in
    let op_at = step (codes "op") (same_from (codes "add-field")) _ notes_at.rest (row, no_members) notes_at.more in
    let owner_at = step (codes "owner") id_from _ op_at.rest (row, no_members) op_at.more in
    let type_at = step (codes "type") texts_from _ owner_at.rest (row, no_members) owner_at.more in
    let value_at = step (codes "value") maybe_from _ type_at.rest (row, no_members) type_at.more in
    let words_at = step (codes "words") (words_from field_words) _ value_at.rest (row, no_members) value_at.more in
    let field_is = id_found field_at.found field_at.value field_at.read in
    let name_is = text_found is_name name_at.found name_at.value name_at.read in
    let notes_is = notes_found notes_at.found notes_at.value notes_at.read in
    let op_is = same_found (codes "add-field") op_at.found op_at.value op_at.read in
    let owner_is = id_found owner_at.found owner_at.value owner_at.read in
    let type_is = texts_found type_at.found type_at.value type_at.read in
    let value_is = maybe_found value_at.found value_at.value value_at.read in
    let words_is = words_found field_words words_at.found words_at.value words_at.read in
    let made : Row = rows.AddField (record {
      field = field_at.value;
      owner = owner_at.value;
      name = name_at.value;
      words = words_at.value;
      notes = notes_at.value;
      ty = type_at.value;
      value = value_at.value;
    }) in
    let end = pure_is made row words_at.rest no_members words_at.more in
    let from_words = follow words_at.is words_is.0 end.1 in
    let from_value = follow value_at.is value_is from_words in
    let from_type = follow type_at.is type_is from_value in
    let from_owner = follow owner_at.is owner_is.0 from_type in
    let from_op = follow op_at.is op_is from_owner in
    let from_notes = follow notes_at.is notes_is.0 from_op in
    let from_name = follow name_at.is name_is.0 from_notes in
    let from_field = follow field_at.is field_is.0 from_name in
    let formed : is_row made ≡ true = and_true (and_true (and_true (and_true field_is.1 owner_is.1) name_is.1) words_is.1) notes_is.1 in
    record { is = from_field ∙ ap (λ r. members (row_pairs r)) end.0; formed = ap is_row (sym end.0) ∙ formed }

abbrev method_of : Option (List (List ℕ)) → Id → MethodKind → Id → List ℕ → Notes → Id → List ParamRow → List (List ℕ) → Words → Row
method_of body decl kind method name notes owner params result words =
    rows.AddMethod (record {
      method = method;
      decl = decl;
      owner = owner;
      name = name;
      kind = kind;
      result = result;
      params = params;
      words = words;
      notes = notes;
      body = body;
    })

-- the second half of the members of an added method
abbrev method_tail : Option (List (List ℕ)) → Id → MethodKind → Id → List ℕ → Notes → Reader Row
method_tail body decl kind method name notes = do
  op ← named (codes "add-method")
  owner ← part (codes "owner") id_from
  params ← part (codes "params") params_from
  result ← part (codes "result") texts_from
  words ← part (codes "words") (words_from kept_words)
  pure (method_of body decl kind method name notes owner params result words)

record TailFound (body : Option (List (List ℕ))) (decl : Id) (kind : MethodKind) (method : Id) (name : List ℕ) (notes : Notes)
    (ms : Members) (row : Row) : Type 0 where
  pub owner : Id
  pub params : List ParamRow
  pub result : List (List ℕ)
  pub words : Words
  pub made : method_of body decl kind method name notes owner params result words ≡ row
  pub is : ms ≡ members (("op", string (codes "add-method")) ∷ ("owner", id_data owner) ∷ ("params", params_data params)
      ∷ ("result", texts_data result) ∷ ("words", texts_data words.texts) ∷ [])
  pub owner_formed : is_id owner ≡ true
  pub params_formed : are_param_rows params ≡ true
  pub words_formed : are_words kept_words words.texts ≡ true

module _ (body : Option (List (List ℕ))) (decl : Id) (kind : MethodKind) (method : Id) (name : List ℕ) (notes : Notes) where
  tail_found : (ms : Members) (row : Row) → method_tail body decl kind method name notes ms ≡ Some (row, no_members)
      → TailFound body decl kind method name notes ms row
  tail_found ms row e =
      let op_at = step (codes "op") (same_from (codes "add-method")) _ ms (row, no_members) e in
      let owner_at = step (codes "owner") id_from _ op_at.rest (row, no_members) op_at.more in
      let params_at = step (codes "params") params_from _ owner_at.rest (row, no_members) owner_at.more in
      let result_at = step (codes "result") texts_from _ params_at.rest (row, no_members) params_at.more in
      let words_at = step (codes "words") (words_from kept_words) _ result_at.rest (row, no_members) result_at.more in
      let op_is = same_found (codes "add-method") op_at.found op_at.value op_at.read in
      let owner_is = id_found owner_at.found owner_at.value owner_at.read in
      let params_is = params_found params_at.found params_at.value params_at.read in
      let result_is = texts_found result_at.found result_at.value result_at.read in
      let words_is = words_found kept_words words_at.found words_at.value words_at.read in
      let end = pure_is (method_of body decl kind method name notes owner_at.value params_at.value result_at.value words_at.value) row
      words_at.rest no_members words_at.more in
      let from_words = follow words_at.is words_is.0 end.1 in
      let from_result = follow result_at.is result_is from_words in
      let from_params = follow params_at.is params_is.0 from_result in
      let from_owner = follow owner_at.is owner_is.0 from_params in
      record {
        owner = owner_at.value;
        params = params_at.value;
        result = result_at.value;
        words = words_at.value;
        made = end.0;
        is = follow op_at.is op_is from_owner;
        owner_formed = owner_is.1;
        params_formed = params_is.1;
        words_formed = words_is.1;
      }

add_method_found : (ms : Members) (row : Row) → row_reader.add_method ms ≡ Some (row, no_members) → IsFound ms row
add_method_found ms row e =
    let body_at = step (codes "body") maybe_from _ ms (row, no_members) e in
    let decl_at = step (codes "decl") id_from _ body_at.rest (row, no_members) body_at.more in
    let kind_at = step (codes "kind") kind_from _ decl_at.rest (row, no_members) decl_at.more in
    let method_at = step (codes "method") id_from _ kind_at.rest (row, no_members) kind_at.more in
    let name_at = step (codes "name") name_from _ method_at.rest (row, no_members) method_at.more in
    let notes_at = step (codes "notes") member_notes_from _ name_at.rest (row, no_members) name_at.more in
    let tail = tail_found body_at.value decl_at.value kind_at.value method_at.value name_at.value notes_at.value notes_at.rest row
    notes_at.more in
    let body_is = maybe_found body_at.found body_at.value body_at.read in
    let decl_is = id_found decl_at.found decl_at.value decl_at.read in
    let kind_is = kind_found kind_at.found kind_at.value kind_at.read in
    let method_is = id_found method_at.found method_at.value method_at.read in
    let name_is = text_found is_name name_at.found name_at.value name_at.read in
    let notes_is = notes_found notes_at.found notes_at.value notes_at.read in
    let from_notes = follow notes_at.is notes_is.0 tail.is in
    let from_name = follow name_at.is name_is.0 from_notes in
    let from_method = follow method_at.is method_is.0 from_name in
    let from_kind = follow kind_at.is kind_is.0 from_method in
    let from_decl = follow decl_at.is decl_is.0 from_kind in
    let from_body = follow body_at.is body_is from_decl in
    let made : Row = method_of body_at.value decl_at.value kind_at.value method_at.value name_at.value notes_at.value tail.owner tail.params
    tail.result tail.words in
    let formed : is_row made ≡ true =
    and_true (and_true (and_true (and_true (and_true (and_true (and_true method_is.1 decl_is.1) tail.owner_formed) name_is.1) kind_is.1)
    tail.params_formed) tail.words_formed) notes_is.1 in
    record { is = from_body ∙ ap (λ r. members (row_pairs r)) tail.made; formed = ap is_row (sym tail.made) ∙ formed }

add_override_found : (ms : Members) (row : Row) → row_reader.add_override ms ≡ Some (row, no_members) → IsFound ms row
add_override_found ms row e =
    let body_at = step (codes "body") maybe_from _ ms (row, no_members) e in
    let decl_at = step (codes "decl") id_from _ body_at.rest (row, no_members) body_at.more in
    let method_at = step (codes "method") id_from _ decl_at.rest (row, no_members) decl_at.more in
    let notes_at = step (codes "notes") member_notes_from _ method_at.rest (row, no_members) method_at.more in
    let op_at = step (codes "op") (same_from (codes "add-override")) _ notes_at.rest (row, no_members) notes_at.more in
    let owner_at = step (codes "owner") id_from _ op_at.rest (row, no_members) op_at.more in
    let words_at = step (codes "words") (words_from kept_words) _ owner_at.rest (row, no_members) owner_at.more in
    let body_is = maybe_found body_at.found body_at.value body_at.read in
    let decl_is = id_found decl_at.found decl_at.value decl_at.read in
    let method_is = id_found method_at.found method_at.value method_at.read in
    let notes_is = notes_found notes_at.found notes_at.value notes_at.read in
    let op_is = same_found (codes "add-override") op_at.found op_at.value op_at.read in
    let owner_is = id_found owner_at.found owner_at.value owner_at.read in
    let words_is = words_found kept_words words_at.found words_at.value words_at.read in
    let made : Row = rows.AddOverride (record {
      decl = decl_at.value;
      method = method_at.value;
      owner = owner_at.value;
      words = words_at.value;
      notes = notes_at.value;
      body = body_at.value;
    }) in
    let end = pure_is made row words_at.rest no_members words_at.more in
    let from_words = follow words_at.is words_is.0 end.1 in
    let from_owner = follow owner_at.is owner_is.0 from_words in
    let from_op = follow op_at.is op_is from_owner in
    let from_notes = follow notes_at.is notes_is.0 from_op in
    let from_method = follow method_at.is method_is.0 from_notes in
    let from_decl = follow decl_at.is decl_is.0 from_method in
    let from_body = follow body_at.is body_is from_decl in
    let formed : is_row made ≡ true = and_true (and_true (and_true (and_true decl_is.1 method_is.1) owner_is.1) words_is.1) notes_is.1 in
    record { is = from_body ∙ ap (λ r. members (row_pairs r)) end.0; formed = ap is_row (sym end.0) ∙ formed }

add_constructor_found : (ms : Members) (row : Row) → row_reader.add_constructor ms ≡ Some (row, no_members) → IsFound ms row
add_constructor_found ms row e =
    let body_at = step (codes "body") maybe_from _ ms (row, no_members) e in
    let decl_at = step (codes "decl") id_from _ body_at.rest (row, no_members) body_at.more in
    let method_at = step (codes "method") id_from _ decl_at.rest (row, no_members) decl_at.more in
    let notes_at = step (codes "notes") member_notes_from _ method_at.rest (row, no_members) method_at.more in
    let op_at = step (codes "op") (same_from (codes "add-constructor")) _ notes_at.rest (row, no_members) notes_at.more in
    let owner_at = step (codes "owner") id_from _ op_at.rest (row, no_members) op_at.more in
    let params_at = step (codes "params") params_from _ owner_at.rest (row, no_members) owner_at.more in
    let words_at = step (codes "words") (words_from constructor_words) _ params_at.rest (row, no_members) params_at.more in
    let body_is = maybe_found body_at.found body_at.value body_at.read in
    let decl_is = id_found decl_at.found decl_at.value decl_at.read in
    let method_is = id_found method_at.found method_at.value method_at.read in
    let notes_is = notes_found notes_at.found notes_at.value notes_at.read in
    let op_is = same_found (codes "add-constructor") op_at.found op_at.value op_at.read in
    let owner_is = id_found owner_at.found owner_at.value owner_at.read in
    let params_is = params_found params_at.found params_at.value params_at.read in
    let words_is = words_found constructor_words words_at.found words_at.value words_at.read in
    let made : Row = rows.AddConstructor (record {
      method = method_at.value;
      decl = decl_at.value;
      owner = owner_at.value;
      params = params_at.value;
      words = words_at.value;
      notes = notes_at.value;
      body = body_at.value;
    }) in
    let end = pure_is made row words_at.rest no_members words_at.more in
    let from_words = follow words_at.is words_is.0 end.1 in
    let from_params = follow params_at.is params_is.0 from_words in
    let from_owner = follow owner_at.is owner_is.0 from_params in
    let from_op = follow op_at.is op_is from_owner in
    let from_notes = follow notes_at.is notes_is.0 from_op in
    let from_method = follow method_at.is method_is.0 from_notes in
    let from_decl = follow decl_at.is decl_is.0 from_method in
    let from_body = follow body_at.is body_is from_decl in
    let formed : is_row made ≡ true =
    and_true (and_true (and_true (and_true (and_true method_is.1 decl_is.1) owner_is.1) params_is.1) words_is.1) notes_is.1 in
    record { is = from_body ∙ ap (λ r. members (row_pairs r)) end.0; formed = ap is_row (sym end.0) ∙ formed }

delete_found : (ms : Members) (row : Row) → row_reader.delete ms ≡ Some (row, no_members) → IsFound ms row
delete_found ms row e =
    let id_at = step (codes "id") id_from _ ms (row, no_members) e in
    let op_at = step (codes "op") (same_from (codes "delete")) _ id_at.rest (row, no_members) id_at.more in
    let id_is = id_found id_at.found id_at.value id_at.read in
    let op_is = same_found (codes "delete") op_at.found op_at.value op_at.read in
    let made : Row = rows.Delete (record { id = id_at.value }) in
    let end = pure_is made row op_at.rest no_members op_at.more in
    let from_op = follow op_at.is op_is end.1 in
    let from_id = follow id_at.is id_is.0 from_op in
    let formed : is_row made ≡ true = id_is.1 in
    record { is = from_id ∙ ap (λ r. members (row_pairs r)) end.0; formed = ap is_row (sym end.0) ∙ formed }

set_body_found : (ms : Members) (row : Row) → row_reader.set_body ms ≡ Some (row, no_members) → IsFound ms row
set_body_found ms row e =
    let body_at = step (codes "body") maybe_from _ ms (row, no_members) e in
    let decl_at = step (codes "decl") id_from _ body_at.rest (row, no_members) body_at.more in
    let op_at = step (codes "op") (same_from (codes "set-body")) _ decl_at.rest (row, no_members) decl_at.more in
    let body_is = maybe_found body_at.found body_at.value body_at.read in
    let decl_is = id_found decl_at.found decl_at.value decl_at.read in
    let op_is = same_found (codes "set-body") op_at.found op_at.value op_at.read in
    let made : Row = rows.SetBody (record { decl = decl_at.value; body = body_at.value }) in
    let end = pure_is made row op_at.rest no_members op_at.more in
    let from_op = follow op_at.is op_is end.1 in
    let from_decl = follow decl_at.is decl_is.0 from_op in
    let from_body = follow body_at.is body_is from_decl in
    let formed : is_row made ≡ true = decl_is.1 in
    record { is = from_body ∙ ap (λ r. members (row_pairs r)) end.0; formed = ap is_row (sym end.0) ∙ formed }

set_value_found : (ms : Members) (row : Row) → row_reader.set_value ms ≡ Some (row, no_members) → IsFound ms row
set_value_found ms row e =
    let field_at = step (codes "field") id_from _ ms (row, no_members) e in
    let op_at = step (codes "op") (same_from (codes "set-value")) _ field_at.rest (row, no_members) field_at.more in
    let type_at = step (codes "type") texts_from _ op_at.rest (row, no_members) op_at.more in
    let value_at = step (codes "value") maybe_from _ type_at.rest (row, no_members) type_at.more in
    let field_is = id_found field_at.found field_at.value field_at.read in
    let op_is = same_found (codes "set-value") op_at.found op_at.value op_at.read in
    let type_is = texts_found type_at.found type_at.value type_at.read in
    let value_is = maybe_found value_at.found value_at.value value_at.read in
    let made : Row = rows.SetValue (record { field = field_at.value; ty = type_at.value; value = value_at.value }) in
    let end = pure_is made row value_at.rest no_members value_at.more in
    let from_value = follow value_at.is value_is end.1 in
    let from_type = follow type_at.is type_is from_value in
    let from_op = follow op_at.is op_is from_type in
    let from_field = follow field_at.is field_is.0 from_op in
    let formed : is_row made ≡ true = field_is.1 in
    record { is = from_field ∙ ap (λ r. members (row_pairs r)) end.0; formed = ap is_row (sym end.0) ∙ formed }

rename_class_found : (ms : Members) (row : Row) → row_reader.rename_class ms ≡ Some (row, no_members) → IsFound ms row
rename_class_found ms row e =
    let class_at = step (codes "class") id_from _ ms (row, no_members) e in
    let name_at = step (codes "name") name_from _ class_at.rest (row, no_members) class_at.more in
    let op_at = step (codes "op") (same_from (codes "rename-class")) _ name_at.rest (row, no_members) name_at.more in
    let class_is = id_found class_at.found class_at.value class_at.read in
    let name_is = text_found is_name name_at.found name_at.value name_at.read in
    let op_is = same_found (codes "rename-class") op_at.found op_at.value op_at.read in
    let made : Row = rows.RenameClass (record { class = class_at.value; name = name_at.value }) in
    let end = pure_is made row op_at.rest no_members op_at.more in
    let from_op = follow op_at.is op_is end.1 in
    let from_name = follow name_at.is name_is.0 from_op in
    let from_class = follow class_at.is class_is.0 from_name in
    let formed : is_row made ≡ true = and_true class_is.1 name_is.1 in
    record { is = from_class ∙ ap (λ r. members (row_pairs r)) end.0; formed = ap is_row (sym end.0) ∙ formed }

rename_method_found : (ms : Members) (row : Row) → row_reader.rename_method ms ≡ Some (row, no_members) → IsFound ms row
rename_method_found ms row e =
    let method_at = step (codes "method") id_from _ ms (row, no_members) e in
    let name_at = step (codes "name") name_from _ method_at.rest (row, no_members) method_at.more in
    let op_at = step (codes "op") (same_from (codes "rename-method")) _ name_at.rest (row, no_members) name_at.more in
    let method_is = id_found method_at.found method_at.value method_at.read in
    let name_is = text_found is_name name_at.found name_at.value name_at.read in
    let op_is = same_found (codes "rename-method") op_at.found op_at.value op_at.read in
    let made : Row = rows.RenameMethod (record { method = method_at.value; name = name_at.value }) in
    let end = pure_is made row op_at.rest no_members op_at.more in
    let from_op = follow op_at.is op_is end.1 in
    let from_name = follow name_at.is name_is.0 from_op in
    let from_method = follow method_at.is method_is.0 from_name in
    let formed : is_row made ≡ true = and_true method_is.1 name_is.1 in
    record { is = from_method ∙ ap (λ r. members (row_pairs r)) end.0; formed = ap is_row (sym end.0) ∙ formed }

move_class_found : (ms : Members) (row : Row) → row_reader.move_class ms ≡ Some (row, no_members) → IsFound ms row
move_class_found ms row e =
    let class_at = step (codes "class") id_from _ ms (row, no_members) e in
    let op_at = step (codes "op") (same_from (codes "move-class")) _ class_at.rest (row, no_members) class_at.more in
    let package_at = step (codes "package") dotted_from _ op_at.rest (row, no_members) op_at.more in
    let class_is = id_found class_at.found class_at.value class_at.read in
    let op_is = same_found (codes "move-class") op_at.found op_at.value op_at.read in
    let package_is = text_found is_dotted package_at.found package_at.value package_at.read in
    let made : Row = rows.MoveClass (record { class = class_at.value; «package» = package_at.value }) in
    let end = pure_is made row package_at.rest no_members package_at.more in
    let from_package = follow package_at.is package_is.0 end.1 in
    let from_op = follow op_at.is op_is from_package in
    let from_class = follow class_at.is class_is.0 from_op in
    let formed : is_row made ≡ true = and_true class_is.1 package_is.1 in
    record { is = from_class ∙ ap (λ r. members (row_pairs r)) end.0; formed = ap is_row (sym end.0) ∙ formed }

move_method_found : (ms : Members) (row : Row) → row_reader.move_method ms ≡ Some (row, no_members) → IsFound ms row
move_method_found ms row e =
    let decl_at = step (codes "decl") id_from _ ms (row, no_members) e in
    let op_at = step (codes "op") (same_from (codes "move-method")) _ decl_at.rest (row, no_members) decl_at.more in
    let owner_at = step (codes "owner") id_from _ op_at.rest (row, no_members) op_at.more in
    let decl_is = id_found decl_at.found decl_at.value decl_at.read in
    let op_is = same_found (codes "move-method") op_at.found op_at.value op_at.read in
    let owner_is = id_found owner_at.found owner_at.value owner_at.read in
    let made : Row = rows.MoveMethod (record { decl = decl_at.value; owner = owner_at.value }) in
    let end = pure_is made row owner_at.rest no_members owner_at.more in
    let from_owner = follow owner_at.is owner_is.0 end.1 in
    let from_op = follow op_at.is op_is from_owner in
    let from_decl = follow decl_at.is decl_is.0 from_op in
    let formed : is_row made ≡ true = and_true decl_is.1 owner_is.1 in
    record { is = from_decl ∙ ap (λ r. members (row_pairs r)) end.0; formed = ap is_row (sym end.0) ∙ formed }

change_signature_found : (ms : Members) (row : Row) → row_reader.change_signature ms ≡ Some (row, no_members) → IsFound ms row
change_signature_found ms row e =
    let method_at = step (codes "method") id_from _ ms (row, no_members) e in
    let op_at = step (codes "op") (same_from (codes "change-signature")) _ method_at.rest (row, no_members) method_at.more in
    let params_at = step (codes "params") params_from _ op_at.rest (row, no_members) op_at.more in
    let result_at = step (codes "result") texts_from _ params_at.rest (row, no_members) params_at.more in
    let method_is = id_found method_at.found method_at.value method_at.read in
    let op_is = same_found (codes "change-signature") op_at.found op_at.value op_at.read in
    let params_is = params_found params_at.found params_at.value params_at.read in
    let result_is = texts_found result_at.found result_at.value result_at.read in
    let made : Row = rows.ChangeSignature (record { method = method_at.value; result = result_at.value; params = params_at.value }) in
    let end = pure_is made row result_at.rest no_members result_at.more in
    let from_result = follow result_at.is result_is end.1 in
    let from_params = follow params_at.is params_is.0 from_result in
    let from_op = follow op_at.is op_is from_params in
    let from_method = follow method_at.is method_is.0 from_op in
    let formed : is_row made ≡ true = and_true method_is.1 params_is.1 in
    record { is = from_method ∙ ap (λ r. members (row_pairs r)) end.0; formed = ap is_row (sym end.0) ∙ formed }

-- ---- any row

-- what the reader reads as a whole is found
abbrev Finds : NamedReader → Type 0
Finds entry = (ms : Members) (row : Row) → entry.1 ms ≡ Some (row, no_members) → IsFound ms row

abbrev AllFind : List NamedReader → Type 0
AllFind [] = Unit {0}
AllFind (entry ∷ table) = Finds entry × AllFind table

in_table : (table : List NamedReader) → AllFind table → (name : List ℕ) (ms : Members) (row : Row)
    → row_in table name ms ≡ Some (row, no_members) → IsFound ms row
in_table [] all name ms row e = absurd cc
in_table (entry ∷ table) all name ms row e = by (bytes_eq name (codes entry.0)) (all.0 ms row) (in_table table all.1 name ms row) e where
  by : (b : Bool) → (entry.1 ms ≡ Some (row, no_members) → IsFound ms row)
      → (row_in table name ms ≡ Some (row, no_members) → IsFound ms row)
      → (if b then entry.1 ms else row_in table name ms) ≡ Some (row, no_members) → IsFound ms row
  by true here later e = here e
  by false here later e = later e

table_found : AllFind row_table
table_found = (
  add_class_found,
  (
    add_field_found,
    (
      add_method_found,
      (
        add_override_found,
        (
          add_constructor_found,
          (
            delete_found,
            (
              set_body_found,
              (
                set_value_found,
                (rename_class_found, (rename_method_found, (move_class_found, (move_method_found, (change_signature_found, tt))))),
              ),
            ),
          ),
        ),
      ),
    ),
  ),
)

-- what a reader took before the next one
after : {A B : Type 0} (o : Outcome A) (next : A → Reader B) (p : B × Members) → and_then o next ≡ Some p → (a : A) × (mid : Members)
    × (o ≡ Some (a, mid)) × (next a mid ≡ Some p)
unfolding and_then
after None next p e = absurd cc
after (Some q) next p e = (q.0, q.1, refl, e)

named_found : (name : List ℕ) (ms : Members) (found : Recorded) → recorded name ms ≡ Some (found, no_members)
    → (object ms ≡ row_data found.stamp found.row) × (is_stamp found.stamp ≡ true) × (is_row found.row ≡ true)
named_found name ms found e =
    let at = step (codes "at") stamp_from _ ms (found, no_members) e in
    let at_is = stamp_found at.found at.value at.read in
    let row = after (row_named name at.rest) _ (found, no_members) at.more in
    let end = pure_is (recorded_of at.value row.0) found row.1 no_members row.3 in
    let read : row_named name at.rest ≡ Some (row.0, no_members) = row.2 ∙ ap (λ ms. Some (before ms row.0)) end.1 in
    let is = in_table row_table table_found name at.rest row.0 read in
    let pairs = follow at.is at_is.0 is.is in (
      ap object pairs ∙ ap (λ (r : Recorded). row_data r.stamp r.row) end.0,
      ap (λ (r : Recorded). is_stamp r.stamp) (sym end.0) ∙ at_is.1,
      ap (λ (r : Recorded). is_row r.row) (sym end.0) ∙ is.formed,
    )

-- what is read of data as a stamp and a row is what it is the object of
pub recorded_found : (said : Data) (found : Recorded) → recorded_from said ≡ Some found → IsRow said found.stamp found.row
recorded_found said found e = by (op_name said) e where
  by : (o : Option (List ℕ)) → option_and_then (λ name. object_from (recorded name) said) o ≡ Some found → IsRow said found.stamp found.row
  by None f = absurd cc
  by (Some name) f =
      let w = whole_found (recorded name) said found f in
      let is = named_found name w.0 found w.2 in
      record { is = w.1 ∙ is.0; stamped = is.1; formed = is.2 }
