-- The objects of headers and of entries are written as lines.
use Rattle.std.proofs.Common.{ℕ, List, [], ◌∷◌}
use Rattle.hex.specs.Hex.{encode_lower}
use Rattle.serde_json.specs.Data.{string, number, unsigned}
use Rattle.mol_base.specs.Identity.{spelled_stamp}
use Rattle.mol_base.specs.declared.ident.Id.{Id}
use Rattle.mol_base.specs.declared.ident.Stamp.{Stamp}
use Rattle.mol_log_rows.specs.lines.Headers.{header_data}
use Rattle.mol_log_rows.specs.lines.Objects.{Pair, texts_data}
use Rattle.mol_log_rows.specs.declared.lines.header.Header.{Header}
use Rattle.mol_log_rows.specs.rows.RowData.{id_data, row_pairs, row_data}
use Rattle.mol_log_rows.specs.declared.rows.row.Row.{Row}
use Rattle.mol_log_rows.specs.declared.rows.row.Row.TheVariants.{AddClass, AddField, AddMethod, AddOverride, AddConstructor, Delete, SetBody}
use Rattle.mol_log_rows.specs.declared.rows.row.Row.TheVariants.{SetValue, RenameClass, RenameMethod, MoveClass, MoveMethod, ChangeSignature}
use Rattle.mol_log_objects.proofs.DataTexts.{IsLineData, HaveLines, string-line, format-line, texts-line, maybe-line, object-line}
use Rattle.mol_log_objects.proofs.PartTexts.{id-line, kind-line, notes-line, params-line}

text : (s : List ℕ) → IsLineData 3 (string s)
text = string-line 3

id : (i : Id) → IsLineData 3 (id_data i)
id = id-line 3

row-lines : (row : Row) → HaveLines 3 (row_pairs row)
row-lines (AddClass row) = (
  id row.class,
  (
    text row.name,
    (
      notes-line row.notes,
      (
        text _,
        (
          text row.package,
          (
            maybe-line 2 row.parent,
            (texts-line 2 row.words.texts, tt),
          ),
        ),
      ),
    ),
  ),
)
row-lines (AddField row) = (
  id row.field,
  (
    text row.name,
    (
      texts-line 2 row.notes.front,
      (
        text _,
        (
          id row.owner,
          (
            texts-line 2 row.ty,
            (maybe-line 2 row.value, (texts-line 2 row.words.texts, tt)),
          ),
        ),
      ),
    ),
  ),
)
row-lines (AddMethod row) = (
  maybe-line 2 row.body,
  (
    id row.decl,
    (
      kind-line 3 row.kind,
      (
        id row.method,
        (
          text row.name,
          (
            texts-line 2 row.notes.front,
            (
              text _,
              (
                id row.owner,
                (
                  params-line row.params,
                  (
                    texts-line 2 row.result,
                    (texts-line 2 row.words.texts, tt),
                  ),
                ),
              ),
            ),
          ),
        ),
      ),
    ),
  ),
)
row-lines (AddOverride row) = (
  maybe-line 2 row.body,
  (
    id row.decl,
    (
      id row.method,
      (
        texts-line 2 row.notes.front,
        (
          text _,
          (
            id row.owner,
            (texts-line 2 row.words.texts, tt),
          ),
        ),
      ),
    ),
  ),
)
row-lines (AddConstructor row) = (
  maybe-line 2 row.body,
  (
    id row.decl,
    (
      id row.method,
      (
        texts-line 2 row.notes.front,
        (
          text _,
          (
            id row.owner,
            (params-line row.params, (texts-line 2 row.words.texts, tt)),
          ),
        ),
      ),
    ),
  ),
)
row-lines (Delete row) =
    (id row.id, (text _, tt))
row-lines (SetBody row) =
    (maybe-line 2 row.body, (id row.decl, (text _, tt)))
row-lines (SetValue row) =
    (id row.field, (text _, (texts-line 2 row.ty, (maybe-line 2 row.value, tt))))
row-lines (RenameClass row) =
    (id row.class, (text row.name, (text _, tt)))
row-lines (RenameMethod row) =
    (id row.method, (text row.name, (text _, tt)))
row-lines (MoveClass row) =
    (id row.class, (text _, (text row.package, tt)))
row-lines (MoveMethod row) =
    (id row.decl, (text _, (id row.owner, tt)))
row-lines (ChangeSignature row) =
    (id row.method, (text _, (params-line row.params, (texts-line 2 row.result, tt))))

pub row-line : (stamp : Stamp) (row : Row) → IsLineData 4 (row_data stamp row)
row-line stamp row = object-line 3 (("at", string (spelled_stamp stamp)) ∷ row_pairs row) (text (spelled_stamp stamp), row-lines row)

pub header-line : (header : Header) → IsLineData 2 (header_data header)
header-line header =
    let base = encode_lower header.base_digest in
    let pairs : List Pair =
    ("base", string base) ∷ ("format", number (unsigned 1)) ∷ ("tags", texts_data header.tags) ∷ [] in
    object-line 1 pairs (string-line 1 base, (format-line 1, (texts-line 0 header.tags, tt)))
