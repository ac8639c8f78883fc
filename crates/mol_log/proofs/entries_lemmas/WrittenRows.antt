-- The row that is written for an operation spells it, and has the form of a row that does.
use Rattle.std.proofs.Common.{◌≡◌, suc, List, [], ◌∷◌, length, Option, None, Some, option_map, refl, ap}
use Rattle.std.specs.Prelude.{◌&&◌, nat_le}
use Rattle.std.specs.List.{list_all}
use Rattle.mol_base.specs.Limits.{max_items}
use Rattle.mol_base.specs.Modifiers.{class_words, field_words, kept_words, constructor_words}
use Rattle.mol_base.specs.Spelled.{is_id}
use Rattle.mol_op.specs.declared.op.Op.{Op}
use Rattle.mol_log_rows.specs.rows.RowForms.{is_row, is_kind, are_class_notes, are_member_notes, is_param_row, are_param_rows}
use Rattle.mol_log_rows.specs.declared.rows.row.ParamRow.{ParamRow}
use Rattle.mol_log_rows.specs.declared.rows.row.Row.{Row}
use Rattle.mol_values_types.specs.TokenForms.{is_name, is_dotted, is_filler}
use Rattle.mol_values_types.specs.Words.{are_words}
use Rattle.mol_values_types.specs.declared.iblock.IBody.{IBody}
use Rattle.mol_values_types.specs.declared.iexpr.IExpr.{IExpr}
use Rattle.mol_values_types.specs.declared.itype.IType.{IType}
use Rattle.mol_values_types.specs.declared.param.Param.{Param}
use Rattle.mol_log_words.proofs.WrittenTypes.{written_type}
use Rattle.mol_log_words.specs.TypeWords.{type_words}
use Rattle.mol_log_words.specs.declared.type_role.TypeRole.TheVariants.{Super}
use Rattle.mol_log_expr.proofs.WrittenExpressions.{written}
use Rattle.mol_log_expr.specs.ExpressionWords.{expr_words}
use Rattle.mol_log_body.proofs.WrittenBodies.{written_block}
use Rattle.mol_log_body.specs.BodyWords.{body_words}
use Rattle.mol_log_objects.specs.ParamRows.{param_row, param_rows}
use Rattle.mol_log.specs.entries.RowsOf.{row_of}
use Rattle.mol_log.specs.entries.Spelling.{SpellsMaybe, SpellsParam, SpellParams, Spells, add_class, add_field, add_method, add_override}
use Rattle.mol_log.specs.entries.Spelling.{add_constructor, delete, set_body, set_value, rename_class, rename_method, move_class}
use Rattle.mol_log.specs.entries.Spelling.{move_method, change_signature}
use Rattle.mol_log.specs.entries.Trees.{Ws, SpellsType, SpellsValue, SpellsBody}

-- ---- trees that may be absent, and parameters

maybe_again : {T : Type 0} (Is : T → Ws → Type 0) (words_of : T → Ws) → ((t : T) (words : Ws) → Is t words → Is t (words_of t))
    → (t : Option T) (words : Option Ws) → SpellsMaybe Is t words → SpellsMaybe Is t (option_map words_of t)
maybe_again Is words_of law None None x = tt
maybe_again Is words_of law (Some t) (Some words) x = law t words x
maybe_again Is words_of law None (Some words) x = absurd x
maybe_again Is words_of law (Some t) None x = absurd x

parent_again : (t : Option IType) (words : Option Ws) → SpellsMaybe (SpellsType Super) t words
    → SpellsMaybe (SpellsType Super) t (option_map type_words t)
parent_again = maybe_again (SpellsType Super) type_words (λ t words x. written_type x)

value_again : (e : Option IExpr) (words : Option Ws) → SpellsMaybe SpellsValue e words → SpellsMaybe SpellsValue e (option_map expr_words e)
value_again = maybe_again SpellsValue expr_words (λ e words x. written x)

body_again : (b : Option IBody) (words : Option Ws) → SpellsMaybe SpellsBody b words → SpellsMaybe SpellsBody b (option_map body_words b)
body_again = maybe_again SpellsBody body_words (λ b words x. (x.0, written_block x.1))

params_again : (rows : List ParamRow) (params : List Param) → SpellParams rows params → SpellParams (param_rows params) params
params_again [] [] x = tt
params_again (row ∷ rows) (param ∷ params) x =
    (record { id = refl; name = refl; ty = written_type x.0.ty; filler = refl }, params_again rows params x.1)
params_again [] (param ∷ params) x = absurd x
params_again (row ∷ rows) [] x = absurd x

-- ---- the row that is written spells the operation

pub again : {row : Row} {op : Op} → Spells row op → Spells (row_of op) op
again (add_class x) =
    add_class (record { class = refl; «package» = refl; name = refl; parent = parent_again _ _ x.parent; words = refl; notes = refl })
again (add_field x) =
    add_field (record {
      field = refl;
      owner = refl;
      name = refl;
      words = refl;
      notes = refl;
      ty = written_type x.ty;
      value = value_again _ _ x.value;
    })
again (add_method x) =
    add_method (record {
      method = refl;
      decl = refl;
      owner = refl;
      name = refl;
      kind = refl;
      result = written_type x.result;
      params = params_again _ _ x.params;
      words = refl;
      notes = refl;
      body = body_again _ _ x.body;
    })
again (add_override x) =
    add_override (record { decl = refl; method = refl; owner = refl; words = refl; notes = refl; body = body_again _ _ x.body })
again (add_constructor x) =
    add_constructor (record {
      method = refl;
      decl = refl;
      owner = refl;
      params = params_again _ _ x.params;
      words = refl;
      notes = refl;
      body = body_again _ _ x.body;
    })
again (delete x) = delete (record { id = refl })
again (set_body x) = set_body (record { decl = refl; body = body_again _ _ x.body })
again (set_value x) = set_value (record { field = refl; ty = written_type x.ty; value = value_again _ _ x.value })
again (rename_class x) = rename_class (record { class = refl; name = refl })
again (rename_method x) = rename_method (record { method = refl; name = refl })
again (move_class x) = move_class (record { class = refl; «package» = refl })
again (move_method x) = move_method (record { decl = refl; owner = refl })
again (change_signature x) =
    change_signature (record { method = refl; result = written_type x.result; params = params_again _ _ x.params })

-- ---- its form is that of each row that spells the operation

param_same : (row : ParamRow) (param : Param) → SpellsParam row param → is_param_row (param_row param) ≡ is_param_row row
param_same row param x = λ i. is_id (x.id i) && is_name (x.name i) && is_filler (x.filler i)

list_same : (rows : List ParamRow) (params : List Param) → SpellParams rows params
    → list_all is_param_row (param_rows params) ≡ list_all is_param_row rows
list_same [] [] x = refl
list_same (row ∷ rows) (param ∷ params) x = λ i. param_same row param x.0 i && list_same rows params x.1 i
list_same [] (param ∷ params) x = absurd x
list_same (row ∷ rows) [] x = absurd x

as_long : (rows : List ParamRow) (params : List Param) → SpellParams rows params → length (param_rows params) ≡ length rows
as_long [] [] x = refl
as_long (row ∷ rows) (param ∷ params) x = ap suc (as_long rows params x.1)
as_long [] (param ∷ params) x = absurd x
as_long (row ∷ rows) [] x = absurd x

params_same : (rows : List ParamRow) (params : List Param) → SpellParams rows params
    → are_param_rows (param_rows params) ≡ are_param_rows rows
params_same rows params x = λ i. list_same rows params x i && nat_le (as_long rows params x i) max_items

pub same_form : {row : Row} {op : Op} → Spells row op → is_row (row_of op) ≡ is_row row
same_form (add_class x) = λ i.
    is_id (x.class i) && is_dotted (x.package i) && is_name (x.name i) && are_words class_words (x.words i).texts
    && are_class_notes (x.notes i)
same_form (add_field x) = λ i.
    is_id (x.field i) && is_id (x.owner i) && is_name (x.name i) && are_words field_words (x.words i).texts
    && are_member_notes (x.notes i)
same_form (add_method x) =
    let params = params_same _ _ x.params in
    λ i. is_id (x.method i) && is_id (x.decl i) && is_id (x.owner i) && is_name (x.name i) && is_kind (x.kind i) && params i
    && are_words kept_words (x.words i).texts && are_member_notes (x.notes i)
same_form (add_override x) = λ i.
    is_id (x.decl i) && is_id (x.method i) && is_id (x.owner i) && are_words kept_words (x.words i).texts && are_member_notes (x.notes i)
same_form (add_constructor x) =
    let params = params_same _ _ x.params in
    λ i. is_id (x.method i) && is_id (x.decl i) && is_id (x.owner i) && params i && are_words constructor_words (x.words i).texts
    && are_member_notes (x.notes i)
same_form (delete x) = λ i. is_id (x.id i)
same_form (set_body x) = λ i. is_id (x.decl i)
same_form (set_value x) = λ i. is_id (x.field i)
same_form (rename_class x) = λ i. is_id (x.class i) && is_name (x.name i)
same_form (rename_method x) = λ i. is_id (x.method i) && is_name (x.name i)
same_form (move_class x) = λ i. is_id (x.class i) && is_dotted (x.package i)
same_form (move_method x) = λ i. is_id (x.decl i) && is_id (x.owner i)
same_form (change_signature x) = let params = params_same _ _ x.params in λ i. is_id (x.method i) && params i
