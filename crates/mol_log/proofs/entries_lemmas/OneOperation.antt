-- A row spells one operation.
use mathlib.Core.Bool.{Bool-set}
use mathlib.Core.HLevel.{is_prop→PathP}
use Rattle.std.proofs.Common.{◌≡◌, List, [], ◌∷◌, Option, Some, None, Bool, true, refl, sym, ◌∙◌, ap, append-nil, arith}
use Rattle.std.specs.Prelude.{IsTrue}
use Rattle.mol_op.specs.Kept.{add_class_formed, add_field_formed, add_method_formed, add_override_formed, add_constructor_formed}
use Rattle.mol_op.specs.Kept.{set_body_formed, set_value_formed, rename_class_formed, rename_method_formed, move_class_formed}
use Rattle.mol_op.specs.Kept.{change_signature_formed}
use Rattle.mol_op.specs.declared.add_class.AddClass.{AddClass}
use Rattle.mol_op.specs.declared.add_constructor.AddConstructor.{AddConstructor}
use Rattle.mol_op.specs.declared.add_field.AddField.{AddField}
use Rattle.mol_op.specs.declared.add_method.AddMethod.{AddMethod}
use Rattle.mol_op.specs.declared.add_override.AddOverride.{AddOverride}
use Rattle.mol_op.specs.declared.change_signature.ChangeSignature.{ChangeSignature}
use Rattle.mol_op.specs.declared.delete.Delete.{Delete}
use Rattle.mol_op.specs.declared.move_class.MoveClass.{MoveClass}
use Rattle.mol_op.specs.declared.move_method.MoveMethod.{MoveMethod}
use Rattle.mol_op.specs.declared.rename_class.RenameClass.{RenameClass}
use Rattle.mol_op.specs.declared.rename_method.RenameMethod.{RenameMethod}
use Rattle.mol_op.specs.declared.set_body.SetBody.{SetBody}
use Rattle.mol_op.specs.declared.set_value.SetValue.{SetValue}
use Rattle.mol_op.specs.declared.op.Op.{Op}
use Rattle.mol_op.specs.declared.op.Op.TheVariants as ops
use Rattle.mol_log_rows.specs.declared.rows.row.AddClassRow.{AddClassRow}
use Rattle.mol_log_rows.specs.declared.rows.row.AddConstructorRow.{AddConstructorRow}
use Rattle.mol_log_rows.specs.declared.rows.row.AddFieldRow.{AddFieldRow}
use Rattle.mol_log_rows.specs.declared.rows.row.AddMethodRow.{AddMethodRow}
use Rattle.mol_log_rows.specs.declared.rows.row.AddOverrideRow.{AddOverrideRow}
use Rattle.mol_log_rows.specs.declared.rows.row.ChangeSignatureRow.{ChangeSignatureRow}
use Rattle.mol_log_rows.specs.declared.rows.row.DeleteRow.{DeleteRow}
use Rattle.mol_log_rows.specs.declared.rows.row.MoveClassRow.{MoveClassRow}
use Rattle.mol_log_rows.specs.declared.rows.row.MoveMethodRow.{MoveMethodRow}
use Rattle.mol_log_rows.specs.declared.rows.row.RenameClassRow.{RenameClassRow}
use Rattle.mol_log_rows.specs.declared.rows.row.RenameMethodRow.{RenameMethodRow}
use Rattle.mol_log_rows.specs.declared.rows.row.SetBodyRow.{SetBodyRow}
use Rattle.mol_log_rows.specs.declared.rows.row.SetValueRow.{SetValueRow}
use Rattle.mol_log_rows.specs.declared.rows.row.ParamRow.{ParamRow}
use Rattle.mol_log_rows.specs.declared.rows.row.Row.{Row}
use Rattle.mol_values_types.specs.declared.iblock.IBody.{IBody}
use Rattle.mol_values_types.specs.declared.iexpr.IExpr.{IExpr}
use Rattle.mol_values_types.specs.declared.itype.IType.{IType}
use Rattle.mol_values_types.specs.declared.param.Param.{Param}
use Rattle.mol_log_words.proofs.BackTypes.{laws_type}
use Rattle.mol_log_words.proofs.FirstBad.{Laws, only}
use Rattle.mol_log_words.specs.FirstBad.{Form}
use Rattle.mol_log_words.specs.Reader.{Parser}
use Rattle.mol_log_words.specs.declared.type_role.TypeRole.{TypeRole}
use Rattle.mol_log_words.specs.declared.type_role.TypeRole.TheVariants.{Value, Result, Super}
use Rattle.mol_log_expr.proofs.BackExpressions.{laws_expr}
use Rattle.mol_log_expr.specs.declared.expr_role.ExprRole.TheVariants.{First}
use Rattle.mol_log_body.proofs.BackBodies.{laws_body}
use Rattle.mol_log.specs.entries.Spelling as spelling
use Rattle.mol_log.specs.entries.Spelling.{SpellsMaybe, SpellsParam, SpellParams, SpellsAddClass, SpellsAddField, SpellsAddMethod}
use Rattle.mol_log.specs.entries.Spelling.{SpellsAddOverride, SpellsAddConstructor, SpellsDelete, SpellsSetBody, SpellsSetValue}
use Rattle.mol_log.specs.entries.Spelling.{SpellsRenameClass, SpellsRenameMethod, SpellsMoveClass, SpellsMoveMethod}
use Rattle.mol_log.specs.entries.Spelling.{SpellsChangeSignature, Spells}
use Rattle.mol_log.specs.entries.Trees.{Ws, SpellsType, SpellsValue, SpellsBody}

-- ---- trees

one_tree : {T : Type 0} (Is : Form T) (reader : Parser T) → Laws Is reader → (words : Ws) (t t' : T) → Is t words → Is t' words → t ≡ t'
one_tree Is reader laws words t t' is is' =
    (only Is reader laws words t [] (ap reader (sym (append-nil words)) ∙ laws.back t words [] is) t' is').0

one_type : (role : TypeRole) (words : Ws) (t t' : IType) → SpellsType role t words → SpellsType role t' words → t ≡ t'
one_type role = one_tree (SpellsType role) _ (laws_type role)

one_value : (words : Ws) (e e' : IExpr) → SpellsValue e words → SpellsValue e' words → e ≡ e'
one_value = one_tree SpellsValue _ (laws_expr First 500 [] (omega arith))

one_body : (words : Ws) (b b' : IBody) → SpellsBody b words → SpellsBody b' words → b ≡ b'
one_body = one_tree SpellsBody _ (laws_body 500 (omega arith))

one_maybe : {T : Type 0} (Is : T → Ws → Type 0) → ((words : Ws) (t t' : T) → Is t words → Is t' words → t ≡ t')
    → (words : Option Ws) (t t' : Option T) → SpellsMaybe Is t words → SpellsMaybe Is t' words → t ≡ t'
one_maybe Is one None None None a b = refl
one_maybe Is one (Some words) (Some t) (Some t') a b = ap Some (one words t t' a b)
one_maybe Is one None (Some t) t' a b = absurd a
one_maybe Is one None None (Some t') a b = absurd b
one_maybe Is one (Some words) None t' a b = absurd a
one_maybe Is one (Some words) (Some t) None a b = absurd b

one_parent : (words : Option Ws) (t t' : Option IType) → SpellsMaybe (SpellsType Super) t words → SpellsMaybe (SpellsType Super) t' words
    → t ≡ t'
one_parent = one_maybe (SpellsType Super) (one_type Super)

one_init : (words : Option Ws) (e e' : Option IExpr) → SpellsMaybe SpellsValue e words → SpellsMaybe SpellsValue e' words → e ≡ e'
one_init = one_maybe SpellsValue one_value

one_block : (words : Option Ws) (b b' : Option IBody) → SpellsMaybe SpellsBody b words → SpellsMaybe SpellsBody b' words → b ≡ b'
one_block = one_maybe SpellsBody one_body

one_param : {row : ParamRow} {param param' : Param} → SpellsParam row param → SpellsParam row param' → param ≡ param'
one_param a b =
    let id = a.id ∙ sym b.id in
    let name = a.name ∙ sym b.name in
    let ty = one_type Value _ _ _ a.ty b.ty in
    let filler = a.filler ∙ sym b.filler in
    λ i. record { id = id i; name = name i; ty = ty i; filler = filler i }

one_params : (rows : List ParamRow) (params params' : List Param) → SpellParams rows params → SpellParams rows params' → params ≡ params'
one_params [] [] [] a b = refl
one_params (row ∷ rows) (p ∷ ps) (q ∷ qs) a b =
    let first = one_param a.0 b.0 in
    let more = one_params rows ps qs a.1 b.1 in
    λ i. first i ∷ more i
one_params [] [] (q ∷ qs) a b = absurd b
one_params [] (p ∷ ps) params' a b = absurd a
one_params (row ∷ rows) [] params' a b = absurd a
one_params (row ∷ rows) (p ∷ ps) [] a b = absurd b

-- ---- operations: what they keep of their fields has one proof

-- a test that holds has one proof
one_proof : (b : Bool) (p q : IsTrue b) → p ≡ q
one_proof b = Bool-set b true

one_add_class : {row : AddClassRow} {op op' : AddClass} → SpellsAddClass row op → SpellsAddClass row op' → op ≡ op'
one_add_class {op = op} {op' = op'} a b =
    let the_class = a.class ∙ sym b.class in
    let the_package = a.package ∙ sym b.package in
    let the_name = a.name ∙ sym b.name in
    let the_parent = one_parent _ _ _ a.parent b.parent in
    let the_words = a.words ∙ sym b.words in
    let the_notes = a.notes ∙ sym b.notes in
    λ i. record {
      class = the_class i;
      «package» = the_package i;
      name = the_name i;
      parent = the_parent i;
      words = the_words i;
      notes = the_notes i;
      formed = is_prop→PathP (λ j. IsTrue (add_class_formed (the_package j) (the_name j) (the_parent j) (the_words j) (the_notes j)))
          (λ j. one_proof _) op.formed op'.formed i;
    }

one_add_field : {row : AddFieldRow} {op op' : AddField} → SpellsAddField row op → SpellsAddField row op' → op ≡ op'
one_add_field {op = op} {op' = op'} a b =
    let the_field = a.field ∙ sym b.field in
    let the_owner = a.owner ∙ sym b.owner in
    let the_name = a.name ∙ sym b.name in
    let the_words = a.words ∙ sym b.words in
    let the_notes = a.notes ∙ sym b.notes in
    let the_ty = one_type Value _ _ _ a.ty b.ty in
    let the_value = one_init _ _ _ a.value b.value in
    λ i. record {
      field = the_field i;
      owner = the_owner i;
      name = the_name i;
      words = the_words i;
      notes = the_notes i;
      ty = the_ty i;
      value = the_value i;
      formed = is_prop→PathP (λ j. IsTrue (add_field_formed (the_name j) (the_words j) (the_notes j) (the_ty j) (the_value j)))
          (λ j. one_proof _) op.formed op'.formed i;
    }

one_add_method : {row : AddMethodRow} {op op' : AddMethod} → SpellsAddMethod row op → SpellsAddMethod row op' → op ≡ op'
one_add_method {op = op} {op' = op'} a b =
    let the_method = a.method ∙ sym b.method in
    let the_decl = a.decl ∙ sym b.decl in
    let the_owner = a.owner ∙ sym b.owner in
    let the_name = a.name ∙ sym b.name in
    let the_kind = a.kind ∙ sym b.kind in
    let the_result = one_type Result _ _ _ a.result b.result in
    let the_params = one_params _ _ _ a.params b.params in
    let the_words = a.words ∙ sym b.words in
    let the_notes = a.notes ∙ sym b.notes in
    let the_body = one_block _ _ _ a.body b.body in
    λ i. record {
      method = the_method i;
      decl = the_decl i;
      owner = the_owner i;
      name = the_name i;
      kind = the_kind i;
      result = the_result i;
      params = the_params i;
      words = the_words i;
      notes = the_notes i;
      body = the_body i;
      formed = is_prop→PathP
          (λ j. IsTrue (add_method_formed (the_name j) (the_kind j) (the_result j) (the_params j) (the_words j) (the_notes j) (the_body j)))
          (λ j. one_proof _) op.formed op'.formed i;
    }

one_add_override : {row : AddOverrideRow} {op op' : AddOverride} → SpellsAddOverride row op → SpellsAddOverride row op' → op ≡ op'
one_add_override {op = op} {op' = op'} a b =
    let the_decl = a.decl ∙ sym b.decl in
    let the_method = a.method ∙ sym b.method in
    let the_owner = a.owner ∙ sym b.owner in
    let the_words = a.words ∙ sym b.words in
    let the_notes = a.notes ∙ sym b.notes in
    let the_body = one_block _ _ _ a.body b.body in
    λ i. record {
      decl = the_decl i;
      method = the_method i;
      owner = the_owner i;
      words = the_words i;
      notes = the_notes i;
      body = the_body i;
      formed = is_prop→PathP (λ j. IsTrue (add_override_formed (the_method j) (the_words j) (the_notes j) (the_body j)))
          (λ j. one_proof _) op.formed op'.formed i;
    }

one_add_constructor : {row : AddConstructorRow} {op op' : AddConstructor} → SpellsAddConstructor row op
    → SpellsAddConstructor row op' → op ≡ op'
one_add_constructor {op = op} {op' = op'} a b =
    let the_method = a.method ∙ sym b.method in
    let the_decl = a.decl ∙ sym b.decl in
    let the_owner = a.owner ∙ sym b.owner in
    let the_params = one_params _ _ _ a.params b.params in
    let the_words = a.words ∙ sym b.words in
    let the_notes = a.notes ∙ sym b.notes in
    let the_body = one_block _ _ _ a.body b.body in
    λ i. record {
      method = the_method i;
      decl = the_decl i;
      owner = the_owner i;
      params = the_params i;
      words = the_words i;
      notes = the_notes i;
      body = the_body i;
      formed = is_prop→PathP (λ j. IsTrue (add_constructor_formed (the_method j) (the_params j) (the_words j) (the_notes j) (the_body j)))
          (λ j. one_proof _) op.formed op'.formed i;
    }

one_delete : {row : DeleteRow} {op op' : Delete} → SpellsDelete row op → SpellsDelete row op' → op ≡ op'
one_delete a b =
    let the_id = a.id ∙ sym b.id in
    λ i. record { id = the_id i }

one_set_body : {row : SetBodyRow} {op op' : SetBody} → SpellsSetBody row op → SpellsSetBody row op' → op ≡ op'
one_set_body {op = op} {op' = op'} a b =
    let the_decl = a.decl ∙ sym b.decl in
    let the_body = one_block _ _ _ a.body b.body in
    λ i. record {
      decl = the_decl i;
      body = the_body i;
      formed = is_prop→PathP (λ j. IsTrue (set_body_formed (the_decl j) (the_body j)))
          (λ j. one_proof _) op.formed op'.formed i;
    }

one_set_value : {row : SetValueRow} {op op' : SetValue} → SpellsSetValue row op → SpellsSetValue row op' → op ≡ op'
one_set_value {op = op} {op' = op'} a b =
    let the_field = a.field ∙ sym b.field in
    let the_ty = one_type Value _ _ _ a.ty b.ty in
    let the_value = one_init _ _ _ a.value b.value in
    λ i. record {
      field = the_field i;
      ty = the_ty i;
      value = the_value i;
      formed = is_prop→PathP (λ j. IsTrue (set_value_formed (the_ty j) (the_value j)))
          (λ j. one_proof _) op.formed op'.formed i;
    }

one_rename_class : {row : RenameClassRow} {op op' : RenameClass} → SpellsRenameClass row op → SpellsRenameClass row op' → op ≡ op'
one_rename_class {op = op} {op' = op'} a b =
    let the_class = a.class ∙ sym b.class in
    let the_name = a.name ∙ sym b.name in
    λ i. record {
      class = the_class i;
      name = the_name i;
      formed = is_prop→PathP (λ j. IsTrue (rename_class_formed (the_name j)))
          (λ j. one_proof _) op.formed op'.formed i;
    }

one_rename_method : {row : RenameMethodRow} {op op' : RenameMethod} → SpellsRenameMethod row op → SpellsRenameMethod row op' → op ≡ op'
one_rename_method {op = op} {op' = op'} a b =
    let the_method = a.method ∙ sym b.method in
    let the_name = a.name ∙ sym b.name in
    λ i. record {
      method = the_method i;
      name = the_name i;
      formed = is_prop→PathP (λ j. IsTrue (rename_method_formed (the_name j)))
          (λ j. one_proof _) op.formed op'.formed i;
    }

one_move_class : {row : MoveClassRow} {op op' : MoveClass} → SpellsMoveClass row op → SpellsMoveClass row op' → op ≡ op'
one_move_class {op = op} {op' = op'} a b =
    let the_class = a.class ∙ sym b.class in
    let the_package = a.package ∙ sym b.package in
    λ i. record {
      class = the_class i;
      «package» = the_package i;
      formed = is_prop→PathP (λ j. IsTrue (move_class_formed (the_package j)))
          (λ j. one_proof _) op.formed op'.formed i;
    }

one_move_method : {row : MoveMethodRow} {op op' : MoveMethod} → SpellsMoveMethod row op → SpellsMoveMethod row op' → op ≡ op'
one_move_method a b =
    let the_decl = a.decl ∙ sym b.decl in
    let the_owner = a.owner ∙ sym b.owner in
    λ i. record { decl = the_decl i; owner = the_owner i }

one_change_signature : {row : ChangeSignatureRow} {op op' : ChangeSignature} → SpellsChangeSignature row op
    → SpellsChangeSignature row op' → op ≡ op'
one_change_signature {op = op} {op' = op'} a b =
    let the_method = a.method ∙ sym b.method in
    let the_result = one_type Result _ _ _ a.result b.result in
    let the_params = one_params _ _ _ a.params b.params in
    λ i. record {
      method = the_method i;
      result = the_result i;
      params = the_params i;
      formed = is_prop→PathP (λ j. IsTrue (change_signature_formed (the_result j) (the_params j)))
          (λ j. one_proof _) op.formed op'.formed i;
    }

-- a row spells one operation
pub one_op : {row : Row} {op op' : Op} → Spells row op → Spells row op' → op ≡ op'
one_op (spelling.add_class a) (spelling.add_class b) = ap ops.AddClass (one_add_class a b)
one_op (spelling.add_field a) (spelling.add_field b) = ap ops.AddField (one_add_field a b)
one_op (spelling.add_method a) (spelling.add_method b) = ap ops.AddMethod (one_add_method a b)
one_op (spelling.add_override a) (spelling.add_override b) = ap ops.AddOverride (one_add_override a b)
one_op (spelling.add_constructor a) (spelling.add_constructor b) = ap ops.AddConstructor (one_add_constructor a b)
one_op (spelling.delete a) (spelling.delete b) = ap ops.Delete (one_delete a b)
one_op (spelling.set_body a) (spelling.set_body b) = ap ops.SetBody (one_set_body a b)
one_op (spelling.set_value a) (spelling.set_value b) = ap ops.SetValue (one_set_value a b)
one_op (spelling.rename_class a) (spelling.rename_class b) = ap ops.RenameClass (one_rename_class a b)
one_op (spelling.rename_method a) (spelling.rename_method b) = ap ops.RenameMethod (one_rename_method a b)
one_op (spelling.move_class a) (spelling.move_class b) = ap ops.MoveClass (one_move_class a b)
one_op (spelling.move_method a) (spelling.move_method b) = ap ops.MoveMethod (one_move_method a b)
one_op (spelling.change_signature a) (spelling.change_signature b) = ap ops.ChangeSignature (one_change_signature a b)
