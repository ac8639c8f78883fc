-- The row that is written for an operation.
use Rattle.std.specs.Prelude.{option_map}
use Rattle.mol_op.specs.declared.op.Op.{Op}
use Rattle.mol_op.specs.declared.op.Op.TheVariants as ops
use Rattle.mol_log_words.specs.TypeWords.{type_words}
use Rattle.mol_log_expr.specs.ExpressionWords.{expr_words}
use Rattle.mol_log_body.specs.BodyWords.{body_words}
use Rattle.mol_log_rows.specs.declared.rows.row.Row.{Row}
use Rattle.mol_log_rows.specs.declared.rows.row.Row.TheVariants as rows
use Rattle.mol_log_objects.specs.ParamRows.{param_rows}

abbrev pub row_of : Op → Row
row_of (ops.AddClass op) =
    rows.AddClass (record {
      class = op.class;
      «package» = op.package;
      name = op.name;
      parent = option_map type_words op.parent;
      words = op.words;
      notes = op.notes;
    })
row_of (ops.AddField op) =
    rows.AddField (record {
      field = op.field;
      owner = op.owner;
      name = op.name;
      words = op.words;
      notes = op.notes;
      ty = type_words op.ty;
      value = option_map expr_words op.value;
    })
row_of (ops.AddMethod op) =
    rows.AddMethod (record {
      method = op.method;
      decl = op.decl;
      owner = op.owner;
      name = op.name;
      kind = op.kind;
      result = type_words op.result;
      params = param_rows op.params;
      words = op.words;
      notes = op.notes;
      body = option_map body_words op.body;
    })
row_of (ops.AddOverride op) =
    rows.AddOverride (record {
      decl = op.decl;
      method = op.method;
      owner = op.owner;
      words = op.words;
      notes = op.notes;
      body = option_map body_words op.body;
    })
row_of (ops.AddConstructor op) =
    rows.AddConstructor (record {
      method = op.method;
      decl = op.decl;
      owner = op.owner;
      params = param_rows op.params;
      words = op.words;
      notes = op.notes;
      body = option_map body_words op.body;
    })
row_of (ops.Delete op) = rows.Delete (record { id = op.id })
row_of (ops.SetBody op) = rows.SetBody (record { decl = op.decl; body = option_map body_words op.body })
row_of (ops.SetValue op) = rows.SetValue (record { field = op.field; ty = type_words op.ty; value = option_map expr_words op.value })
row_of (ops.RenameClass op) = rows.RenameClass (record { class = op.class; name = op.name })
row_of (ops.RenameMethod op) = rows.RenameMethod (record { method = op.method; name = op.name })
row_of (ops.MoveClass op) = rows.MoveClass (record { class = op.class; «package» = op.package })
row_of (ops.MoveMethod op) = rows.MoveMethod (record { decl = op.decl; owner = op.owner })
row_of (ops.ChangeSignature op) =
    rows.ChangeSignature (record { method = op.method; result = type_words op.result; params = param_rows op.params })
