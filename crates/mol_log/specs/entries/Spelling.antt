-- Which operation a row spells: its words are the trees of the operation, and all else is the same.
use Rattle.std.specs.Prelude.{◌≡◌, List, [], ◌∷◌, Option, None, Some}
use Rattle.mol_values_types.specs.declared.param.Param.{Param}
use Rattle.mol_log_rows.specs.declared.rows.row.AddClassRow.{AddClassRow}
use Rattle.mol_log_rows.specs.declared.rows.row.AddConstructorRow.{AddConstructorRow}
use Rattle.mol_log_rows.specs.declared.rows.row.AddFieldRow.{AddFieldRow}
use Rattle.mol_log_rows.specs.declared.rows.row.AddMethodRow.{AddMethodRow}
use Rattle.mol_log_rows.specs.declared.rows.row.AddOverrideRow.{AddOverrideRow}
use Rattle.mol_log_rows.specs.declared.rows.row.ChangeSignatureRow.{ChangeSignatureRow}
use Rattle.mol_log_rows.specs.declared.rows.row.DeleteRow.{DeleteRow}
use Rattle.mol_log_rows.specs.declared.rows.row.MoveClassRow.{MoveClassRow}
use Rattle.mol_log_rows.specs.declared.rows.row.MoveMethodRow.{MoveMethodRow}
use Rattle.mol_log_rows.specs.declared.rows.row.RenameClassRow.{RenameClassRow}
use Rattle.mol_log_rows.specs.declared.rows.row.RenameMethodRow.{RenameMethodRow}
use Rattle.mol_log_rows.specs.declared.rows.row.SetBodyRow.{SetBodyRow}
use Rattle.mol_log_rows.specs.declared.rows.row.SetValueRow.{SetValueRow}
use Rattle.mol_op.specs.declared.add_class.AddClass.{AddClass}
use Rattle.mol_op.specs.declared.add_constructor.AddConstructor.{AddConstructor}
use Rattle.mol_op.specs.declared.add_field.AddField.{AddField}
use Rattle.mol_op.specs.declared.add_method.AddMethod.{AddMethod}
use Rattle.mol_op.specs.declared.add_override.AddOverride.{AddOverride}
use Rattle.mol_op.specs.declared.change_signature.ChangeSignature.{ChangeSignature}
use Rattle.mol_op.specs.declared.delete.Delete.{Delete}
use Rattle.mol_op.specs.declared.move_class.MoveClass.{MoveClass}
use Rattle.mol_op.specs.declared.move_method.MoveMethod.{MoveMethod}
use Rattle.mol_op.specs.declared.rename_class.RenameClass.{RenameClass}
use Rattle.mol_op.specs.declared.rename_method.RenameMethod.{RenameMethod}
use Rattle.mol_op.specs.declared.set_body.SetBody.{SetBody}
use Rattle.mol_op.specs.declared.set_value.SetValue.{SetValue}
use Rattle.mol_op.specs.declared.op.Op.{Op}
use Rattle.mol_op.specs.declared.op.Op.TheVariants as ops
use Rattle.mol_log_words.specs.declared.type_role.TypeRole.TheVariants.{Value, Result, Super}
use Rattle.mol_log_rows.specs.declared.rows.row.ParamRow.{ParamRow}
use Rattle.mol_log_rows.specs.declared.rows.row.Row.{Row}
use Rattle.mol_log_rows.specs.declared.rows.row.Row.TheVariants as rows
use Rattle.mol_log.specs.entries.Trees.{Ws, SpellsType, SpellsValue, SpellsBody}

-- # Parts

-- a tree that may be absent
abbrev pub SpellsMaybe : {T : Type 0} → (T → Ws → Type 0) → Option T → Option Ws → Type 0
SpellsMaybe Spells None None = Unit {0}
SpellsMaybe Spells (Some tree) (Some words) = Spells tree words
SpellsMaybe Spells tree words = ⊥

-- a parameter, whose words are its type
pub record SpellsParam (row : ParamRow) (param : Param) : Type 0 where
  pub id : param.id ≡ row.id
  pub name : param.name ≡ row.name
  pub ty : SpellsType Value param.ty row.ty
  pub filler : param.filler ≡ row.filler

-- parameters, one for one
abbrev pub SpellParams : List ParamRow → List Param → Type 0
SpellParams [] [] = Unit {0}
SpellParams (row ∷ rows) (param ∷ params) = SpellsParam row param × SpellParams rows params
SpellParams rows params = ⊥

-- # Operations

pub record SpellsAddClass (row : AddClassRow) (op : AddClass) : Type 0 where
  pub class : op.class ≡ row.class
  pub «package» : op.package ≡ row.package
  pub name : op.name ≡ row.name
  pub parent : SpellsMaybe (SpellsType Super) op.parent row.parent
  pub words : op.words ≡ row.words
  pub notes : op.notes ≡ row.notes

pub record SpellsAddField (row : AddFieldRow) (op : AddField) : Type 0 where
  pub field : op.field ≡ row.field
  pub owner : op.owner ≡ row.owner
  pub name : op.name ≡ row.name
  pub words : op.words ≡ row.words
  pub notes : op.notes ≡ row.notes
  pub ty : SpellsType Value op.ty row.ty
  pub value : SpellsMaybe SpellsValue op.value row.value

pub record SpellsAddMethod (row : AddMethodRow) (op : AddMethod) : Type 0 where
  pub method : op.method ≡ row.method
  pub decl : op.decl ≡ row.decl
  pub owner : op.owner ≡ row.owner
  pub name : op.name ≡ row.name
  pub kind : op.kind ≡ row.kind
  pub result : SpellsType Result op.result row.result
  pub params : SpellParams row.params op.params
  pub words : op.words ≡ row.words
  pub notes : op.notes ≡ row.notes
  pub body : SpellsMaybe SpellsBody op.body row.body

pub record SpellsAddOverride (row : AddOverrideRow) (op : AddOverride) : Type 0 where
  pub decl : op.decl ≡ row.decl
  pub method : op.method ≡ row.method
  pub owner : op.owner ≡ row.owner
  pub words : op.words ≡ row.words
  pub notes : op.notes ≡ row.notes
  pub body : SpellsMaybe SpellsBody op.body row.body

pub record SpellsAddConstructor (row : AddConstructorRow) (op : AddConstructor) : Type 0 where
  pub method : op.method ≡ row.method
  pub decl : op.decl ≡ row.decl
  pub owner : op.owner ≡ row.owner
  pub params : SpellParams row.params op.params
  pub words : op.words ≡ row.words
  pub notes : op.notes ≡ row.notes
  pub body : SpellsMaybe SpellsBody op.body row.body

pub record SpellsDelete (row : DeleteRow) (op : Delete) : Type 0 where
  pub id : op.id ≡ row.id

pub record SpellsSetBody (row : SetBodyRow) (op : SetBody) : Type 0 where
  pub decl : op.decl ≡ row.decl
  pub body : SpellsMaybe SpellsBody op.body row.body

pub record SpellsSetValue (row : SetValueRow) (op : SetValue) : Type 0 where
  pub field : op.field ≡ row.field
  pub ty : SpellsType Value op.ty row.ty
  pub value : SpellsMaybe SpellsValue op.value row.value

pub record SpellsRenameClass (row : RenameClassRow) (op : RenameClass) : Type 0 where
  pub class : op.class ≡ row.class
  pub name : op.name ≡ row.name

pub record SpellsRenameMethod (row : RenameMethodRow) (op : RenameMethod) : Type 0 where
  pub method : op.method ≡ row.method
  pub name : op.name ≡ row.name

pub record SpellsMoveClass (row : MoveClassRow) (op : MoveClass) : Type 0 where
  pub class : op.class ≡ row.class
  pub «package» : op.package ≡ row.package

pub record SpellsMoveMethod (row : MoveMethodRow) (op : MoveMethod) : Type 0 where
  pub decl : op.decl ≡ row.decl
  pub owner : op.owner ≡ row.owner

pub record SpellsChangeSignature (row : ChangeSignatureRow) (op : ChangeSignature) : Type 0 where
  pub method : op.method ≡ row.method
  pub result : SpellsType Result op.result row.result
  pub params : SpellParams row.params op.params

-- the row spells the operation
pub data Spells : Row → Op → Type 0 where
  add_class : {row : AddClassRow} {op : AddClass} → SpellsAddClass row op → Spells (rows.AddClass row) (ops.AddClass op)
  add_field : {row : AddFieldRow} {op : AddField} → SpellsAddField row op → Spells (rows.AddField row) (ops.AddField op)
  add_method : {row : AddMethodRow} {op : AddMethod} → SpellsAddMethod row op → Spells (rows.AddMethod row) (ops.AddMethod op)
  add_override : {row : AddOverrideRow} {op : AddOverride} → SpellsAddOverride row op → Spells (rows.AddOverride row) (ops.AddOverride op)
  add_constructor : {row : AddConstructorRow} {op : AddConstructor} → SpellsAddConstructor row op
      → Spells (rows.AddConstructor row) (ops.AddConstructor op)
  delete : {row : DeleteRow} {op : Delete} → SpellsDelete row op → Spells (rows.Delete row) (ops.Delete op)
  set_body : {row : SetBodyRow} {op : SetBody} → SpellsSetBody row op → Spells (rows.SetBody row) (ops.SetBody op)
  set_value : {row : SetValueRow} {op : SetValue} → SpellsSetValue row op → Spells (rows.SetValue row) (ops.SetValue op)
  rename_class : {row : RenameClassRow} {op : RenameClass} → SpellsRenameClass row op → Spells (rows.RenameClass row) (ops.RenameClass op)
  rename_method : {row : RenameMethodRow} {op : RenameMethod} → SpellsRenameMethod row op
      → Spells (rows.RenameMethod row) (ops.RenameMethod op)
  move_class : {row : MoveClassRow} {op : MoveClass} → SpellsMoveClass row op → Spells (rows.MoveClass row) (ops.MoveClass op)
  move_method : {row : MoveMethodRow} {op : MoveMethod} → SpellsMoveMethod row op → Spells (rows.MoveMethod row) (ops.MoveMethod op)
  change_signature : {row : ChangeSignatureRow} {op : ChangeSignature} → SpellsChangeSignature row op
      → Spells (rows.ChangeSignature row) (ops.ChangeSignature op)
