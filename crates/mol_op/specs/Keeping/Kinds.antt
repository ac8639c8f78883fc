-- An operation of each kind, where it applies, keeps the rules of programs.
use Rattle.std.specs.Prelude.{◌≡◌, ℕ, false, List, [], ◌∷◌, None}
use Rattle.std.proofs.Common.{refl, sym, subst}
use Rattle.mol_base.specs.declared.ident.Id.{Id}
use Rattle.mol_table_rules.specs.Program.{Program}
use Rattle.mol_table_rules.specs.Rules.{IsProgram}
use Rattle.mol_values_types.specs.declared.value.Value.{Value}
use Rattle.mol_values_types.specs.declared.value.Value.TheVariants as values
use Rattle.mol_op.specs.Changes.{Write, Name, written}
use Rattle.mol_op.specs.Keeping.AddMethods.{method-may, method-written, constructor-may, constructor-written}
use Rattle.mol_op.specs.Keeping.AddedOne.{class-may, class-written, field-may, field-written, override-may, override-written}
use Rattle.mol_op.specs.Keeping.Sets.{delete-may, set_body-may, set_body-names, set_value-may, set_value-names, rename_class-may, rename_method-may, move_class-may, move_method-may}
use Rattle.mol_op.specs.Keeping.Setting.{with-plain, rules-set}
use Rattle.mol_op.specs.Keeping.Signature.{params-rules, params-written, result-may, signature-written}
use Rattle.mol_op.specs.Keeps.{MaySet}
use Rattle.mol_op.specs.Rows.{write, entities_writes, add_class_tests, add_class_entities, add_field_tests, add_field_entities, add_method_tests, add_method_entities, add_override_tests, add_override_entities, add_constructor_tests, add_constructor_entities, delete_tests, delete_writes, set_body_tests, set_body_writes, set_value_tests, set_value_writes, rename_class_tests, rename_class_writes, rename_method_tests, rename_method_writes, move_class_tests, move_class_writes, move_method_tests, move_method_writes, change_signature_tests, change_signature_writes, op_tests, op_writes}
use Rattle.mol_op.specs.Seen.{named_params}
use Rattle.mol_op.specs.Tests.{Test, condition, tests_names}
use Rattle.mol_op.specs.declared.add_class.AddClass.{AddClass}
use Rattle.mol_op.specs.declared.add_constructor.AddConstructor.{AddConstructor}
use Rattle.mol_op.specs.declared.add_field.AddField.{AddField}
use Rattle.mol_op.specs.declared.add_method.AddMethod.{AddMethod}
use Rattle.mol_op.specs.declared.add_override.AddOverride.{AddOverride}
use Rattle.mol_op.specs.declared.change_signature.ChangeSignature.{ChangeSignature}
use Rattle.mol_op.specs.declared.delete.Delete.{Delete}
use Rattle.mol_op.specs.declared.move_class.MoveClass.{MoveClass}
use Rattle.mol_op.specs.declared.move_method.MoveMethod.{MoveMethod}
use Rattle.mol_op.specs.declared.op.Op.{Op}
use Rattle.mol_op.specs.declared.op.Op.TheVariants as ops
use Rattle.mol_op.specs.declared.rename_class.RenameClass.{RenameClass}
use Rattle.mol_op.specs.declared.rename_method.RenameMethod.{RenameMethod}
use Rattle.mol_op.specs.declared.set_body.SetBody.{SetBody}
use Rattle.mol_op.specs.declared.set_value.SetValue.{SetValue}

-- an operation of these tests and these writes keeps the rules where it applies
abbrev pub KeepsRules : List Test → List Write → Type 0
KeepsRules tests writes = (tag : List ℕ) (program : Program) → IsProgram program → condition tests tag program.known ≡ None
    → IsProgram (written program writes (tests_names tests))

-- ---- additions

pub add_class-keeps : (op : AddClass) → KeepsRules (add_class_tests op) (entities_writes (add_class_entities op))
add_class-keeps op tag program rules holds =
    subst IsProgram (class-written program rules op tag holds) (class-may program rules op tag holds).rules

pub add_field-keeps : (op : AddField) → KeepsRules (add_field_tests op) (entities_writes (add_field_entities op))
add_field-keeps op tag program rules holds =
    subst IsProgram (field-written program rules op tag holds) (field-may program rules op tag holds).rules

pub add_method-keeps : (op : AddMethod) → KeepsRules (add_method_tests op) (entities_writes (add_method_entities op))
add_method-keeps op tag program rules holds =
    subst IsProgram (method-written program rules op tag holds) (method-may program rules op tag holds).rules

pub add_override-keeps : (op : AddOverride) → KeepsRules (add_override_tests op) (entities_writes (add_override_entities op))
add_override-keeps op tag program rules holds =
    subst IsProgram (override-written program rules op tag holds) (override-may program rules op tag holds).rules

pub add_constructor-keeps : (op : AddConstructor) → KeepsRules (add_constructor_tests op) (entities_writes (add_constructor_entities op))
add_constructor-keeps op tag program rules holds =
    subst IsProgram (constructor-written program rules op tag holds) (constructor-may program rules op tag holds).rules

-- ---- another value of a cell

-- a cell that may have another value; nothing is named
set-keeps : (program : Program) → IsProgram program → (id : Id) (value : Value) → MaySet program id value → (names : List Name) → names ≡ []
    → IsProgram (written program (write id value ∷ []) names)
set-keeps program rules id value may names none =
    subst (λ some. IsProgram (written program (write id value ∷ []) some)) (sym none)
    (subst IsProgram (with-plain program id value may.plain) (rules-set program rules id value may))

pub delete-keeps : (op : Delete) → KeepsRules (delete_tests op) (delete_writes op)
delete-keeps op tag program rules holds = set-keeps program rules op.id (values.Live false) (delete-may program op tag holds) [] refl

pub set_body-keeps : (op : SetBody) → KeepsRules (set_body_tests op) (set_body_writes op)
set_body-keeps op tag program rules holds =
    set-keeps program rules op.decl (values.Body op.body) (set_body-may program rules op tag holds)
    (tests_names (set_body_tests op)) (set_body-names op)

pub set_value-keeps : (op : SetValue) → KeepsRules (set_value_tests op) (set_value_writes op)
set_value-keeps op tag program rules holds =
    set-keeps program rules op.field (values.Value op.ty op.value) (set_value-may program op tag holds)
    (tests_names (set_value_tests op)) (set_value-names op)

pub rename_class-keeps : (op : RenameClass) → KeepsRules (rename_class_tests op) (rename_class_writes op)
rename_class-keeps op tag program rules holds =
    set-keeps program rules op.class (values.Name op.name) (rename_class-may program op tag holds) [] refl

pub rename_method-keeps : (op : RenameMethod) → KeepsRules (rename_method_tests op) (rename_method_writes op)
rename_method-keeps op tag program rules holds =
    set-keeps program rules op.method (values.Name op.name) (rename_method-may program op tag holds) [] refl

pub move_class-keeps : (op : MoveClass) → KeepsRules (move_class_tests op) (move_class_writes op)
move_class-keeps op tag program rules holds =
    set-keeps program rules op.class (values.Package op.«package») (move_class-may program op tag holds) [] refl

pub move_method-keeps : (op : MoveMethod) → KeepsRules (move_method_tests op) (move_method_writes op)
move_method-keeps op tag program rules holds =
    set-keeps program rules op.decl (values.Owner op.owner) (move_method-may program op tag holds) [] refl

-- ---- another signature: the parameters, and then the result

pub change_signature-keeps : (op : ChangeSignature) → KeepsRules (change_signature_tests op) (change_signature_writes op)
change_signature-keeps op tag program rules holds =
    let params = written program (write op.method (values.Params op.params) ∷ []) (named_params op.method op.params) in
    let params-kept : IsProgram params =
    subst IsProgram (params-written program rules op tag holds) (params-rules program rules op tag holds) in
    subst IsProgram (signature-written program rules op tag holds)
    (set-keeps params params-kept op.method (values.Result op.result) (result-may program rules op tag holds) [] refl)

-- ---- all of them

pub op-keeps : (op : Op) → KeepsRules (op_tests op) (op_writes op)
op-keeps (ops.AddClass op) = add_class-keeps op
op-keeps (ops.AddField op) = add_field-keeps op
op-keeps (ops.AddMethod op) = add_method-keeps op
op-keeps (ops.AddOverride op) = add_override-keeps op
op-keeps (ops.AddConstructor op) = add_constructor-keeps op
op-keeps (ops.Delete op) = delete-keeps op
op-keeps (ops.SetBody op) = set_body-keeps op
op-keeps (ops.SetValue op) = set_value-keeps op
op-keeps (ops.RenameClass op) = rename_class-keeps op
op-keeps (ops.RenameMethod op) = rename_method-keeps op
op-keeps (ops.MoveClass op) = move_class-keeps op
op-keeps (ops.MoveMethod op) = move_method-keeps op
op-keeps (ops.ChangeSignature op) = change_signature-keeps op
