-- The thirteen operations, a row each (docs/FORMATS.md, "Operations"): the tests of the condition in the order of the parts, and
-- what is written.
use Rattle.std.specs.Prelude.{ℕ, Bool, true, false, List, [], ◌∷◌, ◌++◌, map, length, Option, None, Some, if◌then◌else◌}
use Rattle.mol_base.specs.declared.ident.Id.{Id}
use Rattle.mol_table_rules.specs.Mentions.{type_mentions, maybe_mentions, body_mentions, parent_mentions}
use Rattle.mol_table_rules.specs.Program.{Knowns, cell}
use Rattle.mol_table_rules.specs.TypeForms.{is_void}
use Rattle.mol_table_rules.specs.declared.entity.NewEntity.{NewEntity}
use Rattle.mol_values_types.specs.Slots.{slot_of}
use Rattle.mol_values_types.specs.declared.iblock.IBody.{IBody}
use Rattle.mol_values_types.specs.declared.iexpr.IExpr.{IExpr}
use Rattle.mol_values_types.specs.declared.itype.IType.{IType}
use Rattle.mol_values_types.specs.declared.itype.IType.TheVariants as types
use Rattle.mol_values_types.specs.declared.kind.Kind.TheVariants as kinds
use Rattle.mol_values_types.specs.declared.kind.MethodKind.{MethodKind}
use Rattle.mol_values_types.specs.declared.kind.MethodKind.TheVariants.{Instance, Static, Constructor}
use Rattle.mol_values_types.specs.declared.known.Known.TheVariants as knowns
use Rattle.mol_values_types.specs.declared.param.Param.{Param}
use Rattle.mol_values_types.specs.declared.value.Value.{Value}
use Rattle.mol_values_types.specs.declared.value.Value.TheVariants as values
use Rattle.mol_values_types.specs.declared.words.Notes.{Notes}
use Rattle.mol_values_types.specs.declared.words.Words.{Words}
use Rattle.mol_op.specs.Changes.{Write, Name}
use Rattle.jav_names.specs.Members.{is_object_method}
use Rattle.mol_op.specs.Tests.{Test, needs, makes, lists, mentioned, mentioned_inside, declares, fails, tests_fault}
use Rattle.mol_op.specs.declared.add_class.AddClass.{AddClass}
use Rattle.mol_op.specs.declared.add_constructor.AddConstructor.{AddConstructor}
use Rattle.mol_op.specs.declared.add_field.AddField.{AddField}
use Rattle.mol_op.specs.declared.add_method.AddMethod.{AddMethod}
use Rattle.mol_op.specs.declared.add_override.AddOverride.{AddOverride}
use Rattle.mol_op.specs.declared.change_signature.ChangeSignature.{ChangeSignature}
use Rattle.mol_op.specs.declared.delete.Delete.{Delete}
use Rattle.mol_op.specs.declared.fault.OpFault.{OpFault}
use Rattle.mol_op.specs.declared.fault.OpFault.TheVariants.{WrongKind, NotStatic}
use Rattle.mol_op.specs.declared.move_class.MoveClass.{MoveClass}
use Rattle.mol_op.specs.declared.move_method.MoveMethod.{MoveMethod}
use Rattle.mol_op.specs.declared.op.Op.{Op}
use Rattle.mol_op.specs.declared.op.Op.TheVariants as ops
use Rattle.mol_op.specs.declared.rename_class.RenameClass.{RenameClass}
use Rattle.mol_op.specs.declared.rename_method.RenameMethod.{RenameMethod}
use Rattle.mol_op.specs.declared.set_body.SetBody.{SetBody}
use Rattle.mol_op.specs.declared.set_value.SetValue.{SetValue}
use Rattle.mol_op.specs.declared.conditions.Want.TheVariants as wants

-- ---- parts of rows

-- a type, and a superclass, mention what is known
abbrev pub type_tests : IType → List Test
type_tests ty = map mentioned (type_mentions ty)

-- a body, and a first value, of an addition may mention what the operation itself adds
abbrev pub body_tests : Option IBody → List Test
body_tests body = map mentioned_inside (body_mentions body)

abbrev pub value_tests : Option IExpr → List Test
value_tests value = map mentioned_inside (maybe_mentions value)

-- each parameter is tested so, and then its type
abbrev pub param_tests : (Id → Test) → List Param → List Test
param_tests test [] = []
param_tests test (param ∷ params) = test param.id ∷ type_tests param.ty ++ param_tests test params

-- A declaration that is added without a block is one of an instance method, else the fault is the declaration's.
abbrev pub block_tests : Option IBody → MethodKind → Id → List Test
block_tests (Some body) kind decl = []
block_tests None Instance decl = []
block_tests None kind decl = fails (WrongKind decl) ∷ []

-- the same where the declaration is known
abbrev pub known_block_tests : Option IBody → Id → List Test
known_block_tests (Some body) decl = []
known_block_tests None decl = declares Instance (WrongKind decl) decl ∷ []

-- a method that is added is known as that, and its declaration as one of it
abbrev pub new_method_names : Id → Id → MethodKind → List Name
new_method_names method decl kind = (method, knowns.Method kind) ∷ (decl, knowns.Decl method) ∷ []

-- its parameters, its block, and what the body mentions
abbrev pub new_method_tests : Id → Id → MethodKind → List Param → Option IBody → List Test
new_method_tests method decl kind params body =
    param_tests (makes (knowns.Param method)) params ++ (block_tests body kind decl ++ body_tests body)

-- the fault of these tests, once the method and its declaration are named
abbrev pub new_method_fault : List ℕ → Knowns → Id → Id → MethodKind → List Param → Option IBody → Option OpFault
new_method_fault tag known method decl kind params body =
    tests_fault tag (new_method_names method decl kind) known (new_method_tests method decl kind params body)

-- a declaration of a method
abbrev pub new_decl : Id → Id → Id → Words → Notes → Option IBody → NewEntity
new_decl decl owner method words notes body = record {
  id = decl;
  kind = kinds.Decl;
  values = values.Live true ∷ values.Owner owner ∷ values.Method method ∷ values.Words words ∷ values.Notes notes ∷ values.Body body ∷ [];
}

-- a method that has this kind from its adding on
abbrev pub new_method : Id → List ℕ → IType → List Param → MethodKind → Bool → NewEntity
new_method method name result params kind fixed = record {
  id = method;
  kind = kinds.Method;
  values = values.Name name ∷ values.Result result ∷ values.Params params ∷ values.Kind kind ∷ values.Fixed fixed ∷ [];
}

-- a value in the slot of its form
abbrev pub write : Id → Value → Write
write id value = (cell id (slot_of value), value)

-- each value in the slot of its form
abbrev pub values_writes : Id → List Value → List Write
values_writes id [] = []
values_writes id (value ∷ values) = write id value ∷ values_writes id values

-- all cells of the entities
abbrev pub entities_writes : List NewEntity → List Write
entities_writes [] = []
entities_writes (entity ∷ entities) = values_writes entity.id entity.values ++ entities_writes entities

-- ---- add-class

abbrev pub add_class_tests : AddClass → List Test
add_class_tests op = makes knowns.Class op.class ∷ map mentioned (parent_mentions op.parent)

abbrev pub new_class : AddClass → NewEntity
new_class op = record {
  id = op.class;
  kind = kinds.Class;
  values =
      values.Live true ∷ values.Package op.«package» ∷ values.Name op.name ∷ values.Super op.parent ∷ values.Words op.words
      ∷ values.Notes op.notes ∷ [];
}

abbrev pub add_class_entities : AddClass → List NewEntity
add_class_entities op = new_class op ∷ []

-- ---- add-field

abbrev pub add_field_tests : AddField → List Test
add_field_tests op = makes knowns.Field op.field ∷ needs wants.Class op.owner ∷ type_tests op.ty ++ value_tests op.value

abbrev pub new_field : AddField → NewEntity
new_field op = record {
  id = op.field;
  kind = kinds.Field;
  values =
      values.Live true ∷ values.Owner op.owner ∷ values.Name op.name ∷ values.Words op.words ∷ values.Notes op.notes
      ∷ values.Value op.ty op.value ∷ [];
}

abbrev pub add_field_entities : AddField → List NewEntity
add_field_entities op = new_field op ∷ []

-- ---- add-method

abbrev pub add_method_tests : AddMethod → List Test
add_method_tests op =
    makes (knowns.Method op.kind) op.method ∷ makes (knowns.Decl op.method) op.decl ∷ needs wants.Class op.owner
    ∷ type_tests op.result ++ new_method_tests op.method op.decl op.kind op.params op.body

abbrev pub add_method_entities : AddMethod → List NewEntity
add_method_entities op =
    new_method op.method op.name op.result op.params op.kind (is_object_method op.name (length op.params))
    ∷ new_decl op.decl op.owner op.method op.words op.notes op.body ∷ []

-- ---- add-override

abbrev pub add_override_tests : AddOverride → List Test
add_override_tests op =
    makes (knowns.Decl op.method) op.decl ∷ needs wants.Overridden op.method ∷ needs wants.Class op.owner ∷ body_tests op.body

abbrev pub add_override_entities : AddOverride → List NewEntity
add_override_entities op = new_decl op.decl op.owner op.method op.words op.notes op.body ∷ []

-- ---- add-constructor

abbrev pub add_constructor_tests : AddConstructor → List Test
add_constructor_tests op =
    makes (knowns.Method Constructor) op.method ∷ makes (knowns.Decl op.method) op.decl ∷ needs wants.Class op.owner
    ∷ new_method_tests op.method op.decl Constructor op.params op.body

-- a constructor has no name and no result
abbrev pub add_constructor_entities : AddConstructor → List NewEntity
add_constructor_entities op =
    new_method op.method [] types.Void op.params Constructor false ∷ new_decl op.decl op.owner op.method op.words op.notes op.body ∷ []

-- ---- delete

abbrev pub delete_tests : Delete → List Test
delete_tests op = needs wants.Deleted op.id ∷ []

abbrev pub delete_writes : Delete → List Write
delete_writes op = write op.id (values.Live false) ∷ []

-- ---- set-body

abbrev pub set_body_tests : SetBody → List Test
set_body_tests op = needs wants.Decl op.decl ∷ known_block_tests op.body op.decl ++ map mentioned (body_mentions op.body)

abbrev pub set_body_writes : SetBody → List Write
set_body_writes op = write op.decl (values.Body op.body) ∷ []

-- ---- set-value

abbrev pub set_value_tests : SetValue → List Test
set_value_tests op = needs wants.Field op.field ∷ type_tests op.ty ++ map mentioned (maybe_mentions op.value)

abbrev pub set_value_writes : SetValue → List Write
set_value_writes op = write op.field (values.Value op.ty op.value) ∷ []

-- ---- rename-class, rename-method

abbrev pub rename_class_tests : RenameClass → List Test
rename_class_tests op = needs wants.Class op.class ∷ []

abbrev pub rename_class_writes : RenameClass → List Write
rename_class_writes op = write op.class (values.Name op.name) ∷ []

abbrev pub rename_method_tests : RenameMethod → List Test
rename_method_tests op = needs wants.Called op.method ∷ []

abbrev pub rename_method_writes : RenameMethod → List Write
rename_method_writes op = write op.method (values.Name op.name) ∷ []

-- ---- move-class, move-method

abbrev pub move_class_tests : MoveClass → List Test
move_class_tests op = needs wants.Class op.class ∷ []

abbrev pub move_class_writes : MoveClass → List Write
move_class_writes op = write op.class (values.Package op.«package») ∷ []

-- only a declaration of a static method moves
abbrev pub move_method_tests : MoveMethod → List Test
move_method_tests op = needs wants.Decl op.decl ∷ declares Static (NotStatic op.decl) op.decl ∷ needs wants.Class op.owner ∷ []

abbrev pub move_method_writes : MoveMethod → List Write
move_method_writes op = write op.decl (values.Owner op.owner) ∷ []

-- ---- change-signature

-- a constructor's result stays `void`
abbrev pub change_signature_tests : ChangeSignature → List Test
change_signature_tests op =
    needs (if is_void op.result then wants.Method else wants.Called) op.method
    ∷ type_tests op.result ++ param_tests (lists op.method) op.params

abbrev pub change_signature_writes : ChangeSignature → List Write
change_signature_writes op = write op.method (values.Result op.result) ∷ write op.method (values.Params op.params) ∷ []

-- ---- all of them

abbrev pub op_tests : Op → List Test
op_tests (ops.AddClass op) = add_class_tests op
op_tests (ops.AddField op) = add_field_tests op
op_tests (ops.AddMethod op) = add_method_tests op
op_tests (ops.AddOverride op) = add_override_tests op
op_tests (ops.AddConstructor op) = add_constructor_tests op
op_tests (ops.Delete op) = delete_tests op
op_tests (ops.SetBody op) = set_body_tests op
op_tests (ops.SetValue op) = set_value_tests op
op_tests (ops.RenameClass op) = rename_class_tests op
op_tests (ops.RenameMethod op) = rename_method_tests op
op_tests (ops.MoveClass op) = move_class_tests op
op_tests (ops.MoveMethod op) = move_method_tests op
op_tests (ops.ChangeSignature op) = change_signature_tests op

abbrev pub op_writes : Op → List Write
op_writes (ops.AddClass op) = entities_writes (add_class_entities op)
op_writes (ops.AddField op) = entities_writes (add_field_entities op)
op_writes (ops.AddMethod op) = entities_writes (add_method_entities op)
op_writes (ops.AddOverride op) = entities_writes (add_override_entities op)
op_writes (ops.AddConstructor op) = entities_writes (add_constructor_entities op)
op_writes (ops.Delete op) = delete_writes op
op_writes (ops.SetBody op) = set_body_writes op
op_writes (ops.SetValue op) = set_value_writes op
op_writes (ops.RenameClass op) = rename_class_writes op
op_writes (ops.RenameMethod op) = rename_method_writes op
op_writes (ops.MoveClass op) = move_class_writes op
op_writes (ops.MoveMethod op) = move_method_writes op
op_writes (ops.ChangeSignature op) = change_signature_writes op
