-- The JSON of a value (RFC 8259), as a row of a log has it at the key of its slot.
use Rattle.std.specs.Prelude.{[], ◌∷◌, Option, option_map}
use Rattle.serde_json.specs.Data.{Data, boolean, string, array}
use Rattle.mol_values_types.specs.declared.iexpr.IExpr.{IExpr}
use Rattle.mol_values_types.specs.declared.itype.IType.{IType}
use Rattle.mol_values_types.specs.declared.value.Value.{Value}
use Rattle.mol_values_types.specs.declared.value.Value.TheVariants as values
use Rattle.mol_log_words.specs.TypeWords.{type_words}
use Rattle.mol_log_expr.specs.ExpressionWords.{expr_words}
use Rattle.mol_log_body.specs.BodyWords.{body_words}
use Rattle.mol_log_rows.specs.lines.Objects.{items, texts_data, maybe_texts}
use Rattle.mol_log_rows.specs.rows.RowData.{id_data, kind_data, params_data, class_notes}
use Rattle.mol_log_objects.specs.ParamRows.{param_rows}

-- the list of the two parts of a field's value: its type, and its first value or null
abbrev pub field_data : IType → Option IExpr → Data
field_data ty init = array (items (texts_data (type_words ty) ∷ maybe_texts (option_map expr_words init) ∷ []))

-- whether something lives or is fixed stands in no row; the comments of a member are written as those of a class are
abbrev pub value_data : Value → Data
value_data (values.Live live) = boolean live
value_data (values.Package name) = string name
value_data (values.Owner owner) = id_data owner
value_data (values.Method method) = id_data method
value_data (values.Name name) = string name
value_data (values.Super parent) = maybe_texts (option_map type_words parent)
value_data (values.Result ty) = texts_data (type_words ty)
value_data (values.Params params) = params_data (param_rows params)
value_data (values.Kind kind) = kind_data kind
value_data (values.Fixed fixed) = boolean fixed
value_data (values.Words words) = texts_data words.texts
value_data (values.Notes notes) = class_notes notes
value_data (values.Body body) = maybe_texts (option_map body_words body)
value_data (values.Value ty init) = field_data ty init
