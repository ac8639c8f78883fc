-- What a row of the form spells has the forms that operations keep.
use Rattle.std.proofs.Common.{◌≡◌, suc, List, [], ◌∷◌, length, Bool, true, Option, None, Some, refl, ap, ◌∙◌}
use Rattle.std.specs.Prelude.{◌&&◌, not, nat_le}
use Rattle.std.specs.List.{list_all}
use Rattle.std.specs.Option.{option_map_or}
use Rattle.mol_base.proofs.Tags.{both_true}
use Rattle.mol_base.specs.Limits.{max_items}
use Rattle.mol_base.specs.Modifiers.{class_words, field_words, kept_words, constructor_words}
use Rattle.mol_base.specs.Spelled.{is_id}
use Rattle.mol_base.specs.declared.ident.Id.{Id}
use Rattle.mol_op.specs.Kept.{may_be_params, is_constructor, add_class_formed, add_field_formed, add_method_formed, add_override_formed}
use Rattle.mol_op.specs.Kept.{add_constructor_formed, set_body_formed, set_value_formed, rename_class_formed, rename_method_formed}
use Rattle.mol_op.specs.Kept.{move_class_formed, change_signature_formed}
use Rattle.mol_log_rows.specs.rows.RowForms.{is_row, is_kind, are_class_notes, are_member_notes, is_param_row, are_param_rows}
use Rattle.mol_log_rows.specs.declared.rows.row.AddClassRow.{AddClassRow}
use Rattle.mol_log_rows.specs.declared.rows.row.AddConstructorRow.{AddConstructorRow}
use Rattle.mol_log_rows.specs.declared.rows.row.AddFieldRow.{AddFieldRow}
use Rattle.mol_log_rows.specs.declared.rows.row.AddMethodRow.{AddMethodRow}
use Rattle.mol_log_rows.specs.declared.rows.row.AddOverrideRow.{AddOverrideRow}
use Rattle.mol_log_rows.specs.declared.rows.row.ChangeSignatureRow.{ChangeSignatureRow}
use Rattle.mol_log_rows.specs.declared.rows.row.MoveClassRow.{MoveClassRow}
use Rattle.mol_log_rows.specs.declared.rows.row.ParamRow.{ParamRow}
use Rattle.mol_log_rows.specs.declared.rows.row.RenameClassRow.{RenameClassRow}
use Rattle.mol_log_rows.specs.declared.rows.row.RenameMethodRow.{RenameMethodRow}
use Rattle.mol_log_rows.specs.declared.rows.row.Row.TheVariants as rows
use Rattle.mol_table_rules.specs.ExpressionForms.{is_initial}
use Rattle.mol_table_rules.specs.Forms.{is_param}
use Rattle.mol_table_rules.specs.StatementForms.{is_body}
use Rattle.mol_values_types.specs.TokenForms.{is_name, is_dotted, is_filler}
use Rattle.mol_table_rules.specs.TypeForms.{is_class}
use Rattle.mol_values_types.specs.Words.{are_words}
use Rattle.mol_values_types.specs.declared.iblock.IBody.{IBody}
use Rattle.mol_values_types.specs.declared.iexpr.IExpr.{IExpr}
use Rattle.mol_values_types.specs.declared.itype.IType.{IType}
use Rattle.mol_values_types.specs.declared.kind.MethodKind.{MethodKind}
use Rattle.mol_values_types.specs.declared.kind.MethodKind.TheVariants.{Instance, Static, Constructor}
use Rattle.mol_values_types.specs.declared.param.Param.{Param}
use Rattle.mol_log_words.specs.declared.type_role.TypeRole.TheVariants.{Value, Result, Super}
use Rattle.mol_log.specs.entries.Spelling.{SpellsMaybe, SpellsParam, SpellParams}
use Rattle.mol_log.specs.entries.Trees.{Ws, SpellsType, SpellsValue, SpellsBody}
use Rattle.mol_log.proofs.entries_lemmas.SpelledBodies.{body_formed}
use Rattle.mol_log.proofs.entries_lemmas.SpelledExpressions.{fits}
use Rattle.mol_log.proofs.entries_lemmas.SpelledTypes.{and-of, value_type, result_type, parent_type}

-- ---- parts

maybe_formed : {T : Type 0} (Is : T → Ws → Type 0) (test : T → Bool) → ((t : T) (words : Ws) → Is t words → test t ≡ true)
    → (t : Option T) (words : Option Ws) → SpellsMaybe Is t words → option_map_or test t true ≡ true
maybe_formed Is test law None None x = refl
maybe_formed Is test law (Some t) (Some words) x = law t words x
maybe_formed Is test law None (Some words) x = absurd x
maybe_formed Is test law (Some t) None x = absurd x

parent_formed : (t : Option IType) (words : Option Ws) → SpellsMaybe (SpellsType Super) t words → option_map_or is_class t true ≡ true
parent_formed = maybe_formed (SpellsType Super) is_class (λ t words x. parent_type x)

first_value_formed : (e : Option IExpr) (words : Option Ws) → SpellsMaybe SpellsValue e words → option_map_or is_initial e true ≡ true
first_value_formed = maybe_formed SpellsValue is_initial (λ e words x. fits x)

maybe_body_formed : (b : Option IBody) (words : Option Ws) → SpellsMaybe SpellsBody b words → option_map_or is_body b true ≡ true
maybe_body_formed = maybe_formed SpellsBody is_body (λ b words x. body_formed x)

param_formed : (row : ParamRow) (param : Param) → is_param_row row ≡ true → SpellsParam row param → is_param param ≡ true
param_formed row param is x =
    let outer = both_true (is_id row.id && is_name row.name) (is_filler row.filler) is in
    let inner = both_true (is_id row.id) (is_name row.name) outer.0 in
    and-of _ _ (and-of _ _ (ap is_name x.name ∙ inner.1) (value_type x.ty)) (ap is_filler x.filler ∙ outer.1)

params_formed : (rows : List ParamRow) (params : List Param) → list_all is_param_row rows ≡ true → SpellParams rows params
    → list_all is_param params ≡ true
params_formed [] [] is x = refl
params_formed (row ∷ rows) (param ∷ params) is x =
    let both = both_true (is_param_row row) (list_all is_param_row rows) is in
    and-of _ _ (param_formed row param both.0 x.0) (params_formed rows params both.1 x.1)
params_formed [] (param ∷ params) is x = absurd x
params_formed (row ∷ rows) [] is x = absurd x

pub as_many : (rows : List ParamRow) (params : List Param) → SpellParams rows params → length params ≡ length rows
as_many [] [] x = refl
as_many (row ∷ rows) (param ∷ params) x = ap suc (as_many rows params x.1)
as_many [] (param ∷ params) x = absurd x
as_many (row ∷ rows) [] x = absurd x

all_params_formed : (rows : List ParamRow) (params : List Param) → are_param_rows rows ≡ true → SpellParams rows params
    → may_be_params params ≡ true
all_params_formed rows params is x =
    let both = both_true (list_all is_param_row rows) (nat_le (length rows) max_items) is in
    and-of _ _ (params_formed rows params both.0 x) (ap (λ n. nat_le n max_items) (as_many rows params x) ∙ both.1)

kind_formed : (kind : MethodKind) → is_kind kind ≡ true → not (is_constructor kind) ≡ true
kind_formed Instance is = refl
kind_formed Static is = refl
kind_formed Constructor is = absurd cc

-- ---- operations

pub add_class_kept : (row : AddClassRow) (parent : Option IType) → is_row (rows.AddClass row) ≡ true
    → SpellsMaybe (SpellsType Super) parent row.parent → add_class_formed row.package row.name parent row.words row.notes ≡ true
add_class_kept row parent is x =
    let notes = both_true _ (are_class_notes row.notes) is in
    let words = both_true _ (are_words class_words row.words.texts) notes.0 in
    let name = both_true _ (is_name row.name) words.0 in
    let package-is = both_true (is_id row.class) (is_dotted row.package) name.0 in
    and-of _ _ package-is.1 (and-of _ _ name.1 (and-of _ _ (parent_formed parent row.parent x)
    (and-of _ _ words.1 (and-of _ _ notes.1 refl))))

pub add_field_kept : (row : AddFieldRow) (ty : IType) (value : Option IExpr) → is_row (rows.AddField row) ≡ true
    → SpellsType Value ty row.ty → SpellsMaybe SpellsValue value row.value
    → add_field_formed row.name row.words row.notes ty value ≡ true
add_field_kept row ty value is x y =
    let notes = both_true _ (are_member_notes row.notes) is in
    let words = both_true _ (are_words field_words row.words.texts) notes.0 in
    let name = both_true _ (is_name row.name) words.0 in
    and-of _ _ name.1 (and-of _ _ words.1 (and-of _ _ notes.1
    (and-of _ _ (and-of _ _ (value_type x) (first_value_formed value row.value y)) refl)))

pub add_method_kept : (row : AddMethodRow) (result : IType) (params : List Param) (body : Option IBody)
    → is_row (rows.AddMethod row) ≡ true → SpellsType Result result row.result → SpellParams row.params params
    → SpellsMaybe SpellsBody body row.body
    → add_method_formed row.name row.kind result params row.words row.notes body ≡ true
add_method_kept row result params body is x y z =
    let notes = both_true _ (are_member_notes row.notes) is in
    let words = both_true _ (are_words kept_words row.words.texts) notes.0 in
    let listed = both_true _ (are_param_rows row.params) words.0 in
    let kind = both_true _ (is_kind row.kind) listed.0 in
    let name = both_true _ (is_name row.name) kind.0 in
    and-of _ _ (and-of _ _ (kind_formed row.kind kind.1) (all_params_formed row.params params listed.1 y))
    (and-of _ _ name.1 (and-of _ _ (result_type x) (and-of _ _ words.1 (and-of _ _ notes.1
    (and-of _ _ (maybe_body_formed body row.body z) refl)))))

pub add_override_kept : (row : AddOverrideRow) (body : Option IBody) → is_row (rows.AddOverride row) ≡ true
    → SpellsMaybe SpellsBody body row.body → add_override_formed row.method row.words row.notes body ≡ true
add_override_kept row body is z =
    let notes = both_true _ (are_member_notes row.notes) is in
    let words = both_true _ (are_words kept_words row.words.texts) notes.0 in
    and-of _ _ words.1 (and-of _ _ notes.1 (and-of _ _ (maybe_body_formed body row.body z) refl))

pub add_constructor_kept : (row : AddConstructorRow) (params : List Param) (body : Option IBody)
    → is_row (rows.AddConstructor row) ≡ true → SpellParams row.params params → SpellsMaybe SpellsBody body row.body
    → add_constructor_formed row.method params row.words row.notes body ≡ true
add_constructor_kept row params body is y z =
    let notes = both_true _ (are_member_notes row.notes) is in
    let words = both_true _ (are_words constructor_words row.words.texts) notes.0 in
    let listed = both_true _ (are_param_rows row.params) words.0 in
    and-of _ _ (and-of _ _ (all_params_formed row.params params listed.1 y) words.1)
    (and-of _ _ notes.1 (and-of _ _ (maybe_body_formed body row.body z) refl))

pub set_body_kept : (decl : Id) (words : Option Ws) (body : Option IBody) → SpellsMaybe SpellsBody body words
    → set_body_formed decl body ≡ true
set_body_kept decl words body z = and-of _ _ (maybe_body_formed body words z) refl

pub set_value_kept : (type_words : Ws) (value_words : Option Ws) (ty : IType) (value : Option IExpr) → SpellsType Value ty type_words
    → SpellsMaybe SpellsValue value value_words
    → set_value_formed ty value ≡ true
set_value_kept type_words value_words ty value x y =
    and-of _ _ (and-of _ _ (value_type x) (first_value_formed value value_words y)) refl

pub rename_class_kept : (row : RenameClassRow) → is_row (rows.RenameClass row) ≡ true → rename_class_formed row.name ≡ true
rename_class_kept row is = and-of _ _ (both_true (is_id row.class) (is_name row.name) is).1 refl

pub rename_method_kept : (row : RenameMethodRow) → is_row (rows.RenameMethod row) ≡ true → rename_method_formed row.name ≡ true
rename_method_kept row is = and-of _ _ (both_true (is_id row.method) (is_name row.name) is).1 refl

pub move_class_kept : (row : MoveClassRow) → is_row (rows.MoveClass row) ≡ true → move_class_formed row.package ≡ true
move_class_kept row is = and-of _ _ (both_true (is_id row.class) (is_dotted row.package) is).1 refl

pub change_signature_kept : (row : ChangeSignatureRow) (result : IType) (params : List Param)
    → is_row (rows.ChangeSignature row) ≡ true → SpellsType Result result row.result → SpellParams row.params params
    → change_signature_formed result params ≡ true
change_signature_kept row result params is x y =
    let listed = both_true (is_id row.method) (are_param_rows row.params) is in
    and-of _ _ (all_params_formed row.params params listed.1 y) (result_type x)
