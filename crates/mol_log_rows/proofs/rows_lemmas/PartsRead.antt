-- What stands at a key of a row is read as it was written.
use Rattle.std.proofs.Common.{◌≡◌, List, [], ◌∷◌, length, true, Some, None, ◌∙◌, ap, refl, option_and_then}
use Rattle.std.specs.Prelude.{◌&&◌, nat_le, if◌then◌else◌, map}
use Rattle.std.specs.List.{list_all}
use Prim.Native.String.{String}
use Rattle.mol_base.specs.Limits.{max_items}
use Rattle.mol_base.specs.Spelled.{is_id}
use Rattle.mol_base.proofs.Tags.{both_true}
use Rattle.mol_log_rows.specs.lines.Objects.{items, texts_data}
use Rattle.mol_log_rows.specs.lines.Reader.{part, and_then, kept, object_from}
use Rattle.mol_log_rows.proofs.lines_lemmas.ReaderRead.{id_read, texts_read}
use Rattle.mol_values_types.specs.TokenForms.{is_name, is_filler, are_comments, is_empty}
use Rattle.mol_values_types.specs.Words.{are_words}
use Rattle.mol_values_types.specs.declared.kind.MethodKind.{MethodKind}
use Rattle.mol_values_types.specs.declared.kind.MethodKind.TheVariants.{Instance, Static, Constructor}
use Rattle.mol_values_types.specs.declared.words.Notes.{Notes}
use Rattle.mol_values_types.specs.declared.words.Words.{Words}
use Rattle.mol_log_rows.specs.rows.RowForms.{is_kind, are_class_notes, are_member_notes, is_param_row, are_param_rows}
use Rattle.mol_log_rows.specs.rows.RowReader.{param, words_made, words_from, member_notes_from, notes_of, class_notes_from, kind_from, params_in, params_from}
use Rattle.mol_log_rows.specs.rows.RowData.{kind_data, class_notes, member_notes, param_data, params_data}
use Rattle.mol_log_rows.specs.declared.rows.row.ParamRow.{ParamRow}

-- ---- modifiers, comments and kinds

pub words_read : (allowed : List String) (words : Words) → are_words allowed words.texts ≡ true
    → words_from allowed (texts_data words.texts) ≡ Some words
words_read allowed words are = ap (option_and_then (words_made allowed)) (texts_read words.texts)
    ∙ ap (λ b. if b then Some words else None) are

empty_is : {A : Type 0} (xs : List A) → is_empty xs ≡ true → [] ≡ xs
empty_is [] is = refl
empty_is (x ∷ xs) is = absurd cc

pub notes_read : (notes : Notes) → are_member_notes notes ≡ true → member_notes_from (member_notes notes) ≡ Some notes
notes_read notes are =
    let outer = both_true (are_comments notes.front && is_empty notes.head) (is_empty notes.tail) are in
    let inner = both_true (are_comments notes.front) (is_empty notes.head) outer.0 in
    let head = empty_is notes.head inner.1 in
    let tail = empty_is notes.tail outer.1 in
    let found : member_notes_from (member_notes notes) ≡ Some (notes_of notes.front [] []) = rw (texts_read notes.front, inner.0) refl in
    found ∙ (λ i. Some (notes_of notes.front (head i) (tail i)))

pub class_notes_read : (notes : Notes) → are_class_notes notes ≡ true → class_notes_from (class_notes notes) ≡ Some notes
unfolding part and_then
class_notes_read notes are =
    let outer = both_true (are_comments notes.front && are_comments notes.head) (are_comments notes.tail) are in
    let inner = both_true (are_comments notes.front) (are_comments notes.head) outer.0 in
    rw (texts_read notes.front, inner.0, texts_read notes.head, inner.1, texts_read notes.tail, outer.1) refl

pub kind_read : (kind : MethodKind) → is_kind kind ≡ true → kind_from (kind_data kind) ≡ Some kind
kind_read Instance is = refl
kind_read Static is = refl
kind_read Constructor is = absurd cc

-- ---- parameters

pub param_read : (row : ParamRow) → is_param_row row ≡ true → object_from param (param_data row) ≡ Some row
unfolding part and_then
param_read row is =
    let front = both_true (is_id row.id && is_name row.name) (is_filler row.filler) is in
    let parts = both_true (is_id row.id) (is_name row.name) front.0 in
    rw (front.1, id_read row.id parts.0, parts.1, texts_read row.ty) refl

pub params_read_in : (rows : List ParamRow) → list_all is_param_row rows ≡ true → params_in (items (map param_data rows)) ≡ Some rows
unfolding params_in
params_read_in [] is = refl
params_read_in (row ∷ rows) is =
    let tests = both_true (is_param_row row) (list_all is_param_row rows) is in
    rw (param_read row tests.0, params_read_in rows tests.1) refl

pub params_read : (rows : List ParamRow) → are_param_rows rows ≡ true → params_from (params_data rows) ≡ Some rows
params_read rows is =
    let tests = both_true (list_all is_param_row rows) (nat_le (length rows) max_items) is in
    ap (kept (λ params. nat_le (length params) max_items)) (params_read_in rows tests.0) ∙ ap (λ b. if b then Some rows else None) tests.1
