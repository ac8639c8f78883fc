-- A row whose words are trees spells an entry.
use Rattle.std.proofs.Common.{◌≡◌, true, List, [], ◌∷◌, ◌++◌, append-nil, Option, None, Some, refl, sym, ◌∙◌, subst}
use Rattle.mol_base.specs.Spelled.{is_stamp}
use Rattle.mol_log_rows.specs.rows.RowForms.{is_row}
use Rattle.mol_log_rows.specs.declared.rows.row.ParamRow.{ParamRow}
use Rattle.mol_log_rows.specs.declared.rows.row.Recorded.{Recorded}
use Rattle.mol_log_rows.specs.declared.rows.row.Row.{Row}
use Rattle.mol_log_rows.specs.declared.rows.row.Row.TheVariants as rows
use Rattle.mol_log_words.specs.declared.type_role.TypeRole.TheVariants.{Super, Value}
use Rattle.mol_op.specs.declared.op.Op.{Op}
use Rattle.mol_op.specs.declared.op.Op.TheVariants as ops
use Rattle.mol_values_types.specs.declared.iblock.IBody.{IBody}
use Rattle.mol_values_types.specs.declared.iexpr.IExpr.{IExpr}
use Rattle.mol_values_types.specs.declared.itype.IType.{IType}
use Rattle.mol_values_types.specs.declared.param.Param.{Param}
use Rattle.mol_log.proofs.entries_lemmas.SpelledForms.{add_class_kept, add_constructor_kept, add_field_kept, add_method_kept, add_override_kept, change_signature_kept, move_class_kept, rename_class_kept, rename_method_kept, set_body_kept, set_value_kept}
use Rattle.mol_log.proofs.entries_lemmas.WrittenRows.{again, same_form}
use Rattle.mol_log.specs.entries.Entries.{SpellsEntry}
use Rattle.mol_log.specs.entries.Spelling.{SpellParams, Spells, SpellsMaybe}
use Rattle.mol_log.specs.entries.Spelling as spelling
use Rattle.mol_log.specs.entries.Trees.{AreGood, Good, Part, SpellsBody, SpellsType, SpellsValue, Ws, body, maybe, param_types, type, value}
use Rattle.mol_log.specs.declared.entries.entry.Entry.{Entry}

-- # Parts

parent_of : (words : Option Ws) → AreGood (maybe (type Super) words) → (parent : Option IType) × SpellsMaybe (SpellsType Super) parent words
parent_of None good = (None, tt)
parent_of (Some words) good = (Some good.0.0, good.0.1)

value_of : (words : Option Ws) → AreGood (maybe value words) → (init : Option IExpr) × SpellsMaybe SpellsValue init words
value_of None good = (None, tt)
value_of (Some words) good = (Some good.0.0, good.0.1)

body_of : (words : Option Ws) → AreGood (maybe body words) → (block : Option IBody) × SpellsMaybe SpellsBody block words
body_of None good = (None, tt)
body_of (Some words) good = (Some good.0.0, good.0.1)

-- parameters, and the parts after them
params_of : (rows : List ParamRow) (more : List Part) → AreGood (param_types rows ++ more)
    → (params : List Param) × SpellParams rows params × AreGood more
params_of [] more good = ([], tt, good)
params_of (row ∷ rows) more good =
    let later = params_of rows more good.1 in
    let param : Param = record { id = row.id; name = row.name; ty = good.0.0; filler = row.filler } in
    (param ∷ later.0, (record { id = refl; name = refl; ty = good.0.1; filler = refl }, later.1), later.2)

-- parameters alone
params_alone : (rows : List ParamRow) → AreGood (param_types rows) → (params : List Param) × SpellParams rows params
params_alone rows good =
    let all = params_of rows [] (subst AreGood (sym (append-nil (param_types rows))) good) in
    (all.0, all.1)

-- # Operations

op_of : (row : Row) → is_row row ≡ true → Good row → (op : Op) × Spells row op
op_of (rows.AddClass row) is good =
    let parent = parent_of row.parent good in (
      ops.AddClass (record {
        class = row.class;
        «package» = row.package;
        name = row.name;
        parent = parent.0;
        words = row.words;
        notes = row.notes;
        formed = add_class_kept row parent.0 is parent.1;
      }),
      spelling.add_class (record { class = refl; «package» = refl; name = refl; parent = parent.1; words = refl; notes = refl }),
    )
op_of (rows.AddField row) is good =
    let init = value_of row.value good.1 in (
      ops.AddField (record {
        field = row.field;
        owner = row.owner;
        name = row.name;
        words = row.words;
        notes = row.notes;
        ty = good.0.0;
        value = init.0;
        formed = add_field_kept row good.0.0 init.0 is good.0.1 init.1;
      }),
      spelling.add_field (record {
        field = refl;
        owner = refl;
        name = refl;
        words = refl;
        notes = refl;
        ty = good.0.1;
        value = init.1;
      }),
    )
op_of (rows.AddMethod row) is good =
    let params = params_of row.params (maybe body row.body) good.1 in
    let block = body_of row.body params.2 in (
      ops.AddMethod (record {
        method = row.method;
        decl = row.decl;
        owner = row.owner;
        name = row.name;
        kind = row.kind;
        result = good.0.0;
        params = params.0;
        words = row.words;
        notes = row.notes;
        body = block.0;
        formed = add_method_kept row good.0.0 params.0 block.0 is good.0.1 params.1 block.1;
      }),
      spelling.add_method (record {
        method = refl;
        decl = refl;
        owner = refl;
        name = refl;
        kind = refl;
        result = good.0.1;
        params = params.1;
        words = refl;
        notes = refl;
        body = block.1;
      }),
    )
op_of (rows.AddOverride row) is good =
    let block = body_of row.body good in (
      ops.AddOverride (record {
        decl = row.decl;
        method = row.method;
        owner = row.owner;
        words = row.words;
        notes = row.notes;
        body = block.0;
        formed = add_override_kept row block.0 is block.1;
      }),
      spelling.add_override (record { decl = refl; method = refl; owner = refl; words = refl; notes = refl; body = block.1 }),
    )
op_of (rows.AddConstructor row) is good =
    let params = params_of row.params (maybe body row.body) good in
    let block = body_of row.body params.2 in (
      ops.AddConstructor (record {
        method = row.method;
        decl = row.decl;
        owner = row.owner;
        params = params.0;
        words = row.words;
        notes = row.notes;
        body = block.0;
        formed = add_constructor_kept row params.0 block.0 is params.1 block.1;
      }),
      spelling.add_constructor (record {
        method = refl;
        decl = refl;
        owner = refl;
        params = params.1;
        words = refl;
        notes = refl;
        body = block.1;
      }),
    )
op_of (rows.Delete row) is good = (ops.Delete (record { id = row.id }), spelling.delete (record { id = refl }))
op_of (rows.SetBody row) is good =
    let block = body_of row.body good in (
      ops.SetBody (record { decl = row.decl; body = block.0; formed = set_body_kept row.decl row.body block.0 block.1 }),
      spelling.set_body (record { decl = refl; body = block.1 }),
    )
op_of (rows.SetValue row) is good =
    let init = value_of row.value good.1 in (
      ops.SetValue (record {
        field = row.field;
        ty = good.0.0;
        value = init.0;
        formed = set_value_kept row.ty row.value good.0.0 init.0 good.0.1 init.1;
      }),
      spelling.set_value (record { field = refl; ty = good.0.1; value = init.1 }),
    )
op_of (rows.RenameClass row) is good = (
  ops.RenameClass (record { class = row.class; name = row.name; formed = rename_class_kept row is }),
  spelling.rename_class (record { class = refl; name = refl }),
)
op_of (rows.RenameMethod row) is good = (
  ops.RenameMethod (record { method = row.method; name = row.name; formed = rename_method_kept row is }),
  spelling.rename_method (record { method = refl; name = refl }),
)
op_of (rows.MoveClass row) is good = (
  ops.MoveClass (record { class = row.class; «package» = row.package; formed = move_class_kept row is }),
  spelling.move_class (record { class = refl; «package» = refl }),
)
op_of (rows.MoveMethod row) is good = (
  ops.MoveMethod (record { decl = row.decl; owner = row.owner }),
  spelling.move_method (record { decl = refl; owner = refl }),
)
op_of (rows.ChangeSignature row) is good =
    let params = params_alone row.params good.1 in (
      ops.ChangeSignature (record {
        method = row.method;
        result = good.0.0;
        params = params.0;
        formed = change_signature_kept row good.0.0 params.0 is good.0.1 params.1;
      }),
      spelling.change_signature (record { method = refl; result = good.0.1; params = params.1 }),
    )

pub entry_of : (found : Recorded) → is_stamp found.stamp ≡ true → is_row found.row ≡ true → Good found.row
    → (entry : Entry) × SpellsEntry found entry
entry_of found stamped formed good =
    let op = op_of found.row formed good in (
      record {
        stamp = found.stamp;
        op = op.0;
        formed = ∣ record { stamped = stamped; formed = same_form op.1 ∙ formed; trees = again op.1 } ∣₁;
      },
      record { stamp = refl; op = op.1 },
    )
