-- A list of values, one parameter after the other.
use Rattle.std.proofs.Common.{◌≡◌, ℕ, ◌+◌, ◌<◌, List, [], ◌∷◌, ◌++◌, map, length, take, get_or, refl, ap, ◌∙◌, sym}
use Rattle.std.proofs.lemmas.List.{take_more}
use Rattle.serde_json.specs.Data.{Data, Items, item, no_items}
use Rattle.serde_json.specs.View.{view, items_view}
use Rattle.serde_json.specs.declared.value.Value.{Value}
use Rattle.mol_log_objects.specs.ParamRows.{param_row, param_rows}
use Rattle.mol_log_rows.specs.lines.Objects.{items}
use Rattle.mol_log_rows.specs.rows.RowData.{param_data}
use Rattle.mol_values_types.specs.declared.param.Param.{Param}

-- the objects of parameters as items
abbrev pub param_items : List Param → Items
param_items params = items (map param_data (param_rows params))

-- items with one more at the end
abbrev pushed : Items → Data → Items
pushed no_items d = item d no_items
pushed (item e es) d = item e (pushed es d)

pushed-view : (values : List Value) (value : Value) → items_view (values ++ value ∷ []) ≡ pushed (items_view values) (view value)
pushed-view [] value = refl
pushed-view (v ∷ vs) value = ap (item (view v)) (pushed-view vs value)

pushed-param : (params : List Param) (param : Param)
    → pushed (param_items params) (param_data (param_row param)) ≡ param_items (params ++ param ∷ [])
pushed-param [] param = refl
pushed-param (p ∷ ps) param = ap (item (param_data (param_row p))) (pushed-param ps param)

-- one more value, one more parameter
pub add_param : (values : List Value) (value : Value) (params : List Param) (at : ℕ) (param : Param) → at < length params
    → get_or params at param ≡ param → items_view values ≡ param_items (take at params) → view value ≡ param_data (param_row param)
    → items_view (values ++ value ∷ []) ≡ param_items (take (at + 1) params)
add_param values value params at param within here before is =
    pushed-view values value ∙ rw (before, is) (pushed-param (take at params) param)
    ∙ ap param_items (sym (take_more params at param within ∙ ap (λ p. take at params ++ p ∷ []) here))
