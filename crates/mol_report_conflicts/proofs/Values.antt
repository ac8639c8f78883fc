-- The JSON of values has no number that is no integer, so that its compact text is one alone.
use Rattle.std.proofs.Common.{◌≡◌, false, refl, option_map, [], ◌∷◌}
use Rattle.serde_json.specs.Written.{has_float}
use Rattle.mol_log_body.specs.BodyWords.{body_words}
use Rattle.mol_log_expr.specs.ExpressionWords.{expr_words}
use Rattle.mol_log_objects.proofs.DataTexts.{array-line, maybe-line, texts-line}
use Rattle.mol_log_objects.proofs.PartTexts.{kind-line, notes-line, params-line}
use Rattle.mol_log_objects.specs.ParamRows.{param_rows}
use Rattle.mol_log_objects.specs.ValueData.{value_data}
use Rattle.mol_log_rows.specs.lines.Objects.{maybe_texts, texts_data}
use Rattle.mol_log_words.specs.TypeWords.{type_words}
use Rattle.mol_values_types.specs.declared.value.Value.{Value}
use Rattle.mol_values_types.specs.declared.value.Value.TheVariants as values

pub value-whole : (value : Value) → has_float (value_data value) ≡ false
value-whole (values.Live flag) = refl
value-whole (values.Package name) = refl
value-whole (values.Owner owner) = refl
value-whole (values.Method method) = refl
value-whole (values.Name name) = refl
value-whole (values.Super parent) = (maybe-line 0 (option_map type_words parent)).whole
value-whole (values.Result ty) = (texts-line 0 (type_words ty)).whole
value-whole (values.Params params) = (params-line (param_rows params)).whole
value-whole (values.Kind kind) = (kind-line 0 kind).whole
value-whole (values.Fixed fixed) = refl
value-whole (values.Words words) = (texts-line 0 words.texts).whole
value-whole (values.Notes notes) = (notes-line notes).whole
value-whole (values.Body body) = (maybe-line 0 (option_map body_words body)).whole
value-whole (values.Value ty init) =
    (array-line 1 (texts_data (type_words ty) ∷ maybe_texts (option_map expr_words init) ∷ [])
    (texts-line 0 (type_words ty), (maybe-line 0 (option_map expr_words init), tt))).whole
