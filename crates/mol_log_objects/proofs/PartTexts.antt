-- The objects of parts of a row are written as lines.
use Rattle.std.proofs.Common.{ℕ, List, [], ◌∷◌, map, codes}
use Rattle.serde_json.specs.Data.{string}
use Rattle.mol_base.specs.Identity.{spelled_id}
use Rattle.mol_base.specs.declared.ident.Id.{Id}
use Rattle.mol_log_rows.specs.lines.Objects.{Pair, texts_data}
use Rattle.mol_log_rows.specs.rows.RowData.{id_data, kind_data, class_notes, param_data, params_data}
use Rattle.mol_log_rows.specs.declared.rows.row.ParamRow.{ParamRow}
use Rattle.mol_values_types.specs.declared.kind.MethodKind.{MethodKind}
use Rattle.mol_values_types.specs.declared.kind.MethodKind.TheVariants.{Instance, Static, Constructor}
use Rattle.mol_values_types.specs.declared.words.Notes.{Notes}
use Rattle.mol_log_objects.proofs.DataTexts.{IsLineData, AreLines, string-line, texts-line, array-line, object-line}

pub id-line : (d : ℕ) (id : Id) → IsLineData d (id_data id)
id-line d id = string-line d (spelled_id id)

pub kind-line : (d : ℕ) (kind : MethodKind) → IsLineData d (kind_data kind)
kind-line d Instance = string-line d (codes "instance")
kind-line d Static = string-line d (codes "static")
kind-line d Constructor = string-line d []

pub notes-line : (notes : Notes) → IsLineData 3 (class_notes notes)
notes-line notes =
    let pairs : List Pair =
    ("front", texts_data notes.front) ∷ ("head", texts_data notes.head) ∷ ("tail", texts_data notes.tail) ∷ [] in
    object-line 2 pairs (texts-line 1 notes.front, (texts-line 1 notes.head, (texts-line 1 notes.tail, tt)))

param-line : (row : ParamRow) → IsLineData 2 (param_data row)
param-line row =
    let pairs : List Pair =
    ("filler", string row.filler) ∷ ("id", id_data row.id) ∷ ("name", string row.name) ∷ ("type", texts_data row.ty) ∷ [] in
    object-line 1 pairs (string-line 1 row.filler, (id-line 1 row.id, (string-line 1 row.name, (texts-line 0 row.ty, tt))))

params-lines : (rows : List ParamRow) → AreLines 2 (map param_data rows)
params-lines [] = tt
params-lines (row ∷ rows) = (param-line row, params-lines rows)

pub params-line : (rows : List ParamRow) → IsLineData 3 (params_data rows)
params-line rows = array-line 2 (map param_data rows) (params-lines rows)
