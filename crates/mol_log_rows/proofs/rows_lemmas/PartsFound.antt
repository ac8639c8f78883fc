-- What is read at a key of a row is what stands there.
use Rattle.std.proofs.Common.{◌≡◌, ℕ, List, [], ◌∷◌, Bool, true, false, Option, Some, None, sym, ◌∙◌, ap, refl, option_and_then}
use Rattle.std.specs.Prelude.{◌&&◌, nat_le, if◌then◌else◌, codes, map, length}
use Rattle.std.specs.List.{list_all}
use Rattle.std.specs.Str.{bytes_eq}
use Rattle.std.specs.Cmp.Lexicographic.{same_text}
use Prim.Native.String.{String}
use Rattle.serde_json.specs.Data.{Data, string, array, object, Items, no_items, item, no_members, member}
use Rattle.mol_base.specs.Limits.{max_items}
use Rattle.mol_log_rows.specs.lines.Objects.{texts_data}
use Rattle.mol_log_rows.specs.lines.Reader.{object_from, id_from, texts_from}
use Rattle.mol_log_rows.proofs.lines_lemmas.ReaderFound.{step, kept_is, whole_found, pure_is, text_found, texts_found, id_found}
use Rattle.mol_values_types.specs.TokenForms.{is_name, is_filler, are_comments}
use Rattle.mol_values_types.specs.Words.{are_words}
use Rattle.mol_values_types.specs.declared.kind.MethodKind.{MethodKind}
use Rattle.mol_values_types.specs.declared.kind.MethodKind.TheVariants.{Instance, Static}
use Rattle.mol_values_types.specs.declared.words.Notes.{Notes}
use Rattle.mol_values_types.specs.declared.words.Words.{Words}
use Rattle.mol_log_rows.specs.lines.Objects.{items}
use Rattle.mol_log_rows.specs.rows.RowForms.{is_kind, are_class_notes, are_member_notes, is_param_row, are_param_rows}
use Rattle.mol_log_rows.specs.rows.RowReader as row_reader
use Rattle.mol_log_rows.specs.rows.RowReader.{name_from, filler_from, param, param_of, words_of, words_made, words_from, comments_from, notes_of, front_only, member_notes_from, class_notes_from, kind_from, param_before, params_in, params_from}
use Rattle.mol_log_rows.specs.rows.RowData.{id_data, kind_data, class_notes, member_notes, param_data, params_data}
use Rattle.mol_log_rows.specs.declared.rows.row.ParamRow.{ParamRow}

-- ---- modifiers, comments and kinds

pub words_found : (allowed : List String) (d : Data) (words : Words) → words_from allowed d ≡ Some words → (d ≡ texts_data words.texts)
    × (are_words allowed words.texts ≡ true)
words_found allowed d words e = by (texts_from d) refl e where
  made : (texts : List (List ℕ)) (b : Bool) → are_words allowed texts ≡ b → texts_from d ≡ Some texts
      → (if b then Some (words_of texts) else None) ≡ Some words
      → (d ≡ texts_data words.texts) × (are_words allowed words.texts ≡ true)
  made texts true are f e =
      let same : words_of texts ≡ words = cc in
      (texts_found d texts f ∙ ap (λ (w : Words). texts_data w.texts) same, ap (λ (w : Words). are_words allowed w.texts) (sym same) ∙ are)
  made texts false are f e = absurd cc

  by : (o : Option (List (List ℕ))) → texts_from d ≡ o → option_and_then (words_made allowed) o ≡ Some words → (d ≡ texts_data words.texts)
      × (are_words allowed words.texts ≡ true)
  by None f e = absurd cc
  by (Some texts) f e = made texts (are_words allowed texts) refl f e

pub comments_found : (d : Data) (texts : List (List ℕ)) → comments_from d ≡ Some texts → (d ≡ texts_data texts)
    × (are_comments texts ≡ true)
comments_found d texts e = let is = kept_is are_comments (texts_from d) texts e in (texts_found d texts is.0, is.1)

pub notes_found : (d : Data) (notes : Notes) → member_notes_from d ≡ Some notes → (d ≡ member_notes notes) × (are_member_notes notes ≡ true)
notes_found d notes e = by (comments_from d) refl e where
  by : (o : Option (List (List ℕ))) → comments_from d ≡ o → option_and_then front_only o ≡ Some notes
      → (d ≡ member_notes notes) × (are_member_notes notes ≡ true)
  by None f e = absurd cc
  by (Some front) f e =
      let same : notes_of front [] [] ≡ notes = cc in
      let is = comments_found d front f in
      let formed : are_member_notes (notes_of front [] []) ≡ true = rw is.1 refl in
      (is.0 ∙ ap member_notes same, ap are_member_notes (sym same) ∙ formed)

pub kind_found : (d : Data) (kind : MethodKind) → kind_from d ≡ Some kind → (d ≡ kind_data kind) × (is_kind kind ≡ true)
kind_found (string s) kind e = by (bytes_eq s (codes "instance")) (bytes_eq s (codes "static")) refl refl e where
  by : (a b : Bool) → bytes_eq s (codes "instance") ≡ a → bytes_eq s (codes "static") ≡ b
      → (if a then Some Instance else if b then Some Static else None) ≡ Some kind
      → (string s ≡ kind_data kind) × (is_kind kind ≡ true)
  by true b i j e =
      let same : Instance ≡ kind = cc in
      (ap string (same_text s (codes "instance") (sym i)) ∙ ap kind_data same, ap is_kind (sym same))
  by false true i j e =
      let same : Static ≡ kind = cc in
      (ap string (same_text s (codes "static") (sym j)) ∙ ap kind_data same, ap is_kind (sym same))
  by false false i j e = absurd cc
kind_found d kind e = absurd cc

-- ---- objects within objects

pub class_notes_found : (d : Data) (notes : Notes) → class_notes_from d ≡ Some notes → (d ≡ class_notes notes)
    × (are_class_notes notes ≡ true)
class_notes_found d notes e =
    let w = whole_found row_reader.class_notes d notes e in
    let front = step (codes "front") comments_from _ w.0 (notes, no_members) w.2 in
    let head = step (codes "head") comments_from _ front.rest (notes, no_members) front.more in
    let tail = step (codes "tail") comments_from _ head.rest (notes, no_members) head.more in
    let end = pure_is _ notes tail.rest no_members tail.more in
    let f = comments_found front.found front.value front.read in
    let h = comments_found head.found head.value head.read in
    let t = comments_found tail.found tail.value tail.read in
    let formed : are_class_notes (notes_of front.value head.value tail.value) ≡ true = rw (f.1, h.1, t.1) refl in
    let tail_is : head.rest ≡ member (codes "tail") (texts_data tail.value) no_members = tail.is
    ∙ (λ i. member (codes "tail") (t.0 i) (end.1 i)) in
    let head_is : front.rest ≡ member (codes "head") (texts_data head.value) (member (codes "tail") (texts_data tail.value) no_members) =
    head.is ∙ (λ i. member (codes "head") (h.0 i) (tail_is i)) in
    let is : d ≡ class_notes (notes_of front.value head.value tail.value) = w.1
    ∙ ap object (front.is ∙ (λ i. member (codes "front") (f.0 i) (head_is i))) in
    (is ∙ ap class_notes end.0, ap are_class_notes (sym end.0) ∙ formed)

pub param_found : (d : Data) (row : ParamRow) → object_from param d ≡ Some row → (d ≡ param_data row) × (is_param_row row ≡ true)
param_found d row e =
    let w = whole_found param d row e in
    let filler = step (codes "filler") filler_from _ w.0 (row, no_members) w.2 in
    let id = step (codes "id") id_from _ filler.rest (row, no_members) filler.more in
    let name = step (codes "name") name_from _ id.rest (row, no_members) id.more in
    let ty = step (codes "type") texts_from _ name.rest (row, no_members) name.more in
    let end = pure_is _ row ty.rest no_members ty.more in
    let f = text_found is_filler filler.found filler.value filler.read in
    let known = id_found id.found id.value id.read in
    let n = text_found is_name name.found name.value name.read in
    let t = texts_found ty.found ty.value ty.read in
    let formed : is_param_row (param_of filler.value id.value name.value ty.value) ≡ true = rw (known.1, n.1, f.1) refl in
    let ty_is : name.rest ≡ member (codes "type") (texts_data ty.value) no_members = ty.is ∙ (λ i. member (codes "type") (t i) (end.1 i)) in
    let name_is : id.rest ≡ member (codes "name") (string name.value) (member (codes "type") (texts_data ty.value) no_members) =
    name.is ∙ (λ i. member (codes "name") (n.0 i) (ty_is i)) in
    let id_is : filler.rest ≡ member (codes "id") (id_data id.value)
    (member (codes "name") (string name.value) (member (codes "type") (texts_data ty.value) no_members)) =
    id.is ∙ (λ i. member (codes "id") (known.0 i) (name_is i)) in
    let is : d ≡ param_data (param_of filler.value id.value name.value ty.value) = w.1
    ∙ ap object (filler.is ∙ (λ i. member (codes "filler") (f.0 i) (id_is i))) in
    (is ∙ ap param_data end.0, ap is_param_row (sym end.0) ∙ formed)

more_params : (d : Data) (ds : Items) (first : Option ParamRow) (o : Option (List ParamRow)) (rows : List ParamRow)
    → ((row : ParamRow) → first ≡ Some row → (d ≡ param_data row) × (is_param_row row ≡ true))
    → ((more : List ParamRow) → o ≡ Some more → (ds ≡ items (map param_data more)) × (list_all is_param_row more ≡ true))
    → option_and_then (λ p. param_before p o) first ≡ Some rows → (item d ds ≡ items (map param_data rows))
    × (list_all is_param_row rows ≡ true)
more_params d ds None o rows here rest e = absurd cc
more_params d ds (Some row) None rows here rest e = absurd cc
more_params d ds (Some row) (Some more) rows here rest e =
    let same : row ∷ more ≡ rows = cc in
    let h = here row refl in
    let r = rest more refl in
    let all : list_all is_param_row (row ∷ more) ≡ true = rw (h.1, r.1) refl in
    ((λ i. item (h.0 i) (r.0 i)) ∙ ap (λ rows. items (map param_data rows)) same, ap (list_all is_param_row) (sym same) ∙ all)

pub params_in_found : (ds : Items) (rows : List ParamRow) → params_in ds ≡ Some rows → (ds ≡ items (map param_data rows))
    × (list_all is_param_row rows ≡ true)
unfolding params_in
params_in_found no_items rows e = let same : [] ≡ rows = cc in
    (ap (λ rows. items (map param_data rows)) same, ap (list_all is_param_row) (sym same))
params_in_found (item d ds) rows e = more_params d ds (object_from param d) (params_in ds) rows (param_found d) (params_in_found ds) e

pub params_found : (d : Data) (rows : List ParamRow) → params_from d ≡ Some rows → (d ≡ params_data rows) × (are_param_rows rows ≡ true)
params_found (array ds) rows e =
    let is = kept_is (λ params. nat_le (length params) max_items) (params_in ds) rows e in
    let all = params_in_found ds rows is.0 in
    (ap array all.0, ap (λ b. b && nat_le (length rows) max_items) all.1 ∙ is.1)
params_found d rows e = absurd cc
