-- Each row is read from its object.
use Rattle.std.proofs.Common.{◌≡◌, ◌∙◌, ap, true, Some, refl}
use Rattle.std.specs.Prelude.{◌&&◌}
use Rattle.mol_base.proofs.Tags.{both_true}
use Rattle.mol_base.specs.Modifiers.{class_words, field_words, kept_words, constructor_words}
use Rattle.mol_base.specs.Spelled.{is_id, is_stamp}
use Rattle.mol_base.specs.declared.ident.Stamp.{Stamp}
use Rattle.mol_values_types.specs.TokenForms.{is_name, is_dotted}
use Rattle.mol_values_types.specs.Words.{are_words}
use Rattle.mol_log_rows.specs.lines.Reader.{part, and_then}
use Rattle.mol_log_rows.proofs.lines_lemmas.ReaderRead.{id_read, stamp_read, texts_read, maybe_read}
use Rattle.mol_log_rows.specs.rows.RowReader.{recorded_from, recorded_of}
use Rattle.serde_json.specs.Data.{Data}
use Rattle.mol_log_rows.specs.rows.RowData.{IsRow, row_data}
use Rattle.mol_log_rows.specs.rows.RowForms.{is_row, is_kind, are_class_notes, are_member_notes, are_param_rows}
use Rattle.mol_log_rows.specs.declared.rows.row.AddClassRow.{AddClassRow}
use Rattle.mol_log_rows.specs.declared.rows.row.AddFieldRow.{AddFieldRow}
use Rattle.mol_log_rows.specs.declared.rows.row.AddMethodRow.{AddMethodRow}
use Rattle.mol_log_rows.specs.declared.rows.row.AddOverrideRow.{AddOverrideRow}
use Rattle.mol_log_rows.specs.declared.rows.row.AddConstructorRow.{AddConstructorRow}
use Rattle.mol_log_rows.specs.declared.rows.row.DeleteRow.{DeleteRow}
use Rattle.mol_log_rows.specs.declared.rows.row.SetBodyRow.{SetBodyRow}
use Rattle.mol_log_rows.specs.declared.rows.row.SetValueRow.{SetValueRow}
use Rattle.mol_log_rows.specs.declared.rows.row.RenameClassRow.{RenameClassRow}
use Rattle.mol_log_rows.specs.declared.rows.row.RenameMethodRow.{RenameMethodRow}
use Rattle.mol_log_rows.specs.declared.rows.row.MoveClassRow.{MoveClassRow}
use Rattle.mol_log_rows.specs.declared.rows.row.MoveMethodRow.{MoveMethodRow}
use Rattle.mol_log_rows.specs.declared.rows.row.ChangeSignatureRow.{ChangeSignatureRow}
use Rattle.mol_log_rows.specs.declared.rows.row.Row.{Row}
use Rattle.mol_log_rows.specs.declared.rows.row.Row.TheVariants as rows
use Rattle.mol_log_rows.proofs.rows_lemmas.PartsRead.{words_read, notes_read, class_notes_read, kind_read, params_read}

module _ (stamp : Stamp) (is : is_stamp stamp ≡ true) where
  abbrev IsRead : Row → Type 0
  IsRead row = recorded_from (row_data stamp row) ≡ Some (recorded_of stamp row)

  add_class_read : (row : AddClassRow) → is_row (rows.AddClass row) ≡ true → IsRead (rows.AddClass row)
  unfolding part and_then
  add_class_read row formed =
      let t4 = both_true (is_id row.class && is_dotted row.package && is_name row.name && are_words class_words row.words.texts)
      (are_class_notes row.notes) formed in
      let t3 = both_true (is_id row.class && is_dotted row.package && is_name row.name) (are_words class_words row.words.texts) t4.0 in
      let t2 = both_true (is_id row.class && is_dotted row.package) (is_name row.name) t3.0 in
      let t1 = both_true (is_id row.class) (is_dotted row.package) t2.0 in
      rw (
        stamp_read stamp is,
        id_read row.class t1.0,
        t2.1,
        class_notes_read row.notes t4.1,
        t1.1,
        maybe_read row.parent,
        words_read class_words row.words t3.1,
      ) refl

  add_field_read : (row : AddFieldRow) → is_row (rows.AddField row) ≡ true → IsRead (rows.AddField row)
  unfolding part and_then
  add_field_read row formed =
      let t4 = both_true (is_id row.field && is_id row.owner && is_name row.name && are_words field_words row.words.texts)
      (are_member_notes row.notes) formed in
      let t3 = both_true (is_id row.field && is_id row.owner && is_name row.name) (are_words field_words row.words.texts) t4.0 in
      let t2 = both_true (is_id row.field && is_id row.owner) (is_name row.name) t3.0 in
      let t1 = both_true (is_id row.field) (is_id row.owner) t2.0 in
      rw (
        stamp_read stamp is,
        id_read row.field t1.0,
        t2.1,
        notes_read row.notes t4.1,
        id_read row.owner t1.1,
        texts_read row.ty,
        maybe_read row.value,
        words_read field_words row.words t3.1,
      ) refl

  add_method_read : (row : AddMethodRow) → is_row (rows.AddMethod row) ≡ true → IsRead (rows.AddMethod row)
  unfolding part and_then
  add_method_read row formed =
      let t7 = both_true (is_id row.method && is_id row.decl && is_id row.owner && is_name row.name && is_kind row.kind
      && are_param_rows row.params && are_words kept_words row.words.texts) (are_member_notes row.notes) formed in
      let t6 = both_true (is_id row.method && is_id row.decl && is_id row.owner && is_name row.name && is_kind row.kind
      && are_param_rows row.params) (are_words kept_words row.words.texts) t7.0 in
      let t5 = both_true (is_id row.method && is_id row.decl && is_id row.owner && is_name row.name && is_kind row.kind)
      (are_param_rows row.params) t6.0 in
      let t4 = both_true (is_id row.method && is_id row.decl && is_id row.owner && is_name row.name) (is_kind row.kind) t5.0 in
      let t3 = both_true (is_id row.method && is_id row.decl && is_id row.owner) (is_name row.name) t4.0 in
      let t2 = both_true (is_id row.method && is_id row.decl) (is_id row.owner) t3.0 in
      let t1 = both_true (is_id row.method) (is_id row.decl) t2.0 in
      rw (
        stamp_read stamp is,
        maybe_read row.body,
        id_read row.decl t1.1,
        kind_read row.kind t4.1,
        id_read row.method t1.0,
        t3.1,
        notes_read row.notes t7.1,
        id_read row.owner t2.1,
        params_read row.params t5.1,
        texts_read row.result,
        words_read kept_words row.words t6.1,
      ) refl

  add_override_read : (row : AddOverrideRow) → is_row (rows.AddOverride row) ≡ true → IsRead (rows.AddOverride row)
  unfolding part and_then
  add_override_read row formed =
      let t4 = both_true (is_id row.decl && is_id row.method && is_id row.owner && are_words kept_words row.words.texts)
      (are_member_notes row.notes) formed in
      let t3 = both_true (is_id row.decl && is_id row.method && is_id row.owner) (are_words kept_words row.words.texts) t4.0 in
      let t2 = both_true (is_id row.decl && is_id row.method) (is_id row.owner) t3.0 in
      let t1 = both_true (is_id row.decl) (is_id row.method) t2.0 in
      rw (
        stamp_read stamp is,
        maybe_read row.body,
        id_read row.decl t1.0,
        id_read row.method t1.1,
        notes_read row.notes t4.1,
        id_read row.owner t2.1,
        words_read kept_words row.words t3.1,
      ) refl

  add_constructor_read : (row : AddConstructorRow) → is_row (rows.AddConstructor row) ≡ true → IsRead (rows.AddConstructor row)
  unfolding part and_then
  add_constructor_read row formed =
      let t5 = both_true (is_id row.method && is_id row.decl && is_id row.owner && are_param_rows row.params
      && are_words constructor_words row.words.texts) (are_member_notes row.notes) formed in
      let t4 = both_true (is_id row.method && is_id row.decl && is_id row.owner && are_param_rows row.params)
      (are_words constructor_words row.words.texts) t5.0 in
      let t3 = both_true (is_id row.method && is_id row.decl && is_id row.owner) (are_param_rows row.params) t4.0 in
      let t2 = both_true (is_id row.method && is_id row.decl) (is_id row.owner) t3.0 in
      let t1 = both_true (is_id row.method) (is_id row.decl) t2.0 in
      rw (
        stamp_read stamp is,
        maybe_read row.body,
        id_read row.decl t1.1,
        id_read row.method t1.0,
        notes_read row.notes t5.1,
        id_read row.owner t2.1,
        params_read row.params t3.1,
        words_read constructor_words row.words t4.1,
      ) refl

  delete_read : (row : DeleteRow) → is_row (rows.Delete row) ≡ true → IsRead (rows.Delete row)
  unfolding part and_then
  delete_read row formed =
      rw (stamp_read stamp is, id_read row.id formed) refl

  set_body_read : (row : SetBodyRow) → is_row (rows.SetBody row) ≡ true → IsRead (rows.SetBody row)
  unfolding part and_then
  set_body_read row formed =
      rw (stamp_read stamp is, maybe_read row.body, id_read row.decl formed) refl

  set_value_read : (row : SetValueRow) → is_row (rows.SetValue row) ≡ true → IsRead (rows.SetValue row)
  unfolding part and_then
  set_value_read row formed =
      rw (stamp_read stamp is, id_read row.field formed, texts_read row.ty, maybe_read row.value) refl

  rename_class_read : (row : RenameClassRow) → is_row (rows.RenameClass row) ≡ true → IsRead (rows.RenameClass row)
  unfolding part and_then
  rename_class_read row formed =
      let t1 = both_true (is_id row.class) (is_name row.name) formed in
      rw (stamp_read stamp is, id_read row.class t1.0, t1.1) refl

  rename_method_read : (row : RenameMethodRow) → is_row (rows.RenameMethod row) ≡ true → IsRead (rows.RenameMethod row)
  unfolding part and_then
  rename_method_read row formed =
      let t1 = both_true (is_id row.method) (is_name row.name) formed in
      rw (stamp_read stamp is, id_read row.method t1.0, t1.1) refl

  move_class_read : (row : MoveClassRow) → is_row (rows.MoveClass row) ≡ true → IsRead (rows.MoveClass row)
  unfolding part and_then
  move_class_read row formed =
      let t1 = both_true (is_id row.class) (is_dotted row.package) formed in
      rw (stamp_read stamp is, id_read row.class t1.0, t1.1) refl

  move_method_read : (row : MoveMethodRow) → is_row (rows.MoveMethod row) ≡ true → IsRead (rows.MoveMethod row)
  unfolding part and_then
  move_method_read row formed =
      let t1 = both_true (is_id row.decl) (is_id row.owner) formed in
      rw (stamp_read stamp is, id_read row.decl t1.0, id_read row.owner t1.1) refl

  change_signature_read : (row : ChangeSignatureRow) → is_row (rows.ChangeSignature row) ≡ true → IsRead (rows.ChangeSignature row)
  unfolding part and_then
  change_signature_read row formed =
      let t1 = both_true (is_id row.method) (are_param_rows row.params) formed in
      rw (stamp_read stamp is, id_read row.method t1.0, params_read row.params t1.1, texts_read row.result) refl

  -- a row of which all forms are right is read from its object
  pub row_read : (row : Row) → is_row row ≡ true → IsRead row
  row_read (rows.AddClass row) formed = add_class_read row formed
  row_read (rows.AddField row) formed = add_field_read row formed
  row_read (rows.AddMethod row) formed = add_method_read row formed
  row_read (rows.AddOverride row) formed = add_override_read row formed
  row_read (rows.AddConstructor row) formed = add_constructor_read row formed
  row_read (rows.Delete row) formed = delete_read row formed
  row_read (rows.SetBody row) formed = set_body_read row formed
  row_read (rows.SetValue row) formed = set_value_read row formed
  row_read (rows.RenameClass row) formed = rename_class_read row formed
  row_read (rows.RenameMethod row) formed = rename_method_read row formed
  row_read (rows.MoveClass row) formed = move_class_read row formed
  row_read (rows.MoveMethod row) formed = move_method_read row formed
  row_read (rows.ChangeSignature row) formed = change_signature_read row formed

-- an object of a stamp and a row is read as these
pub recorded_read : (said : Data) (stamp : Stamp) (row : Row) → IsRow said stamp row → recorded_from said ≡ Some (recorded_of stamp row)
recorded_read said stamp row is = ap recorded_from is.is ∙ row_read stamp is.stamped row is.formed
