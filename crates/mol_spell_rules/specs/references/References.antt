-- The references of a value, in the order in which they print: each name of a type, a variable, a member or a constructor, by what it
-- is the name of. A static member is one reference together with the class that it may be printed with, and so is an outside class
-- with its package. Nothing that is declared is a reference of what declares it; nor are `this` and the `super` of a member.
use Rattle.std.specs.Prelude.{ℕ, List, [], ◌∷◌, ◌++◌, Option, None, Some, codes}
use Rattle.std.specs.List.{flat_map}
use Rattle.mol_base.specs.declared.ident.Id.{Id}
use Rattle.mol_values_types.specs.declared.iblock.IBlock.{IBlock, fold-IBlock}
use Rattle.mol_values_types.specs.declared.iblock.IBody.{IBody}
use Rattle.mol_values_types.specs.declared.iblock.IDeclarator.{IDeclarator}
use Rattle.mol_values_types.specs.declared.iblock.IElse.{IElse, fold-IElse}
use Rattle.mol_values_types.specs.declared.iblock.IElse.TheOpen.{IElse-F, IStmtNode-F, IBlock-F, IIf-F, IStmt-F}
use Rattle.mol_values_types.specs.declared.iblock.IForStart.{IForStart}
use Rattle.mol_values_types.specs.declared.iblock.IForStart.TheVariants as starts
use Rattle.mol_values_types.specs.declared.iblock.IIf.{IIf, fold-IIf}
use Rattle.mol_values_types.specs.declared.iblock.ILet.{ILet}
use Rattle.mol_values_types.specs.declared.iblock.IStmt.{IStmt, fold-IStmt}
use Rattle.mol_values_types.specs.declared.iblock.IStmtNode.{IStmtNode, fold-IStmtNode}
use Rattle.mol_values_types.specs.declared.iexpr.Argument.{Argument, fold-Argument}
use Rattle.mol_values_types.specs.declared.iexpr.IExpr.{IExpr, fold-IExpr}
use Rattle.mol_values_types.specs.declared.iexpr.IExpr.TheOpen.{IExpr-F, Argument-F}
use Rattle.mol_values_types.specs.declared.itype.IType.{IType, fold-IType}
use Rattle.mol_values_types.specs.declared.itype.IType.TheOpen.{IType-F}
use Rattle.mol_values_types.specs.declared.param.Param.{Param}
use Rattle.mol_values_types.specs.declared.value.Value.{Value}
use Rattle.mol_values_types.specs.declared.value.Value.TheVariants as values
use Rattle.jav_names.specs.TypeTexts.{imported_text}

-- ---- what a name is the name of

-- A class, a field, a method or constructor, or a parameter, by its identity; the default constructor of a class; a local, by its
-- number; or something outside, by its text.
pub data Target : Type 0 where
  class_target : Id → Target
  field_target : Id → Target
  method_target : Id → Target
  param_target : Id → Target
  default_target : Id → Target
  local_target : ℕ → Target
  outside_target : List ℕ → Target

abbrev pub References : Type 0
References = List Target

abbrev pub joined : List References → References
joined lists = flat_map (λ list. list) lists

abbrev pub maybe : Option References → References
maybe None = []
maybe (Some list) = list

-- ---- types

abbrev pub type_step : IType-F References → References
type_step (IType-F.Class id) = class_target id ∷ []
type_step (IType-F.Imported import rest) = outside_target (imported_text import rest) ∷ []
type_step (IType-F.Written text) = outside_target text ∷ []
type_step (IType-F.Array item) = item
type_step primitive = []

abbrev pub type_references : IType → References
type_references = fold-IType References type_step

-- ---- expressions

-- what stands between the array and its index
abbrev pub index_target : Target
index_target = outside_target (codes "[]")

abbrev pub expr_step : IExpr-F References References → References
expr_step (IExpr-F.Lit text) = []
expr_step IExpr-F.This = []
expr_step (IExpr-F.Local number) = local_target number ∷ []
expr_step (IExpr-F.Param id) = param_target id ∷ []
expr_step (IExpr-F.Own field) = field_target field ∷ []
expr_step (IExpr-F.StaticField field) = field_target field ∷ []
expr_step (IExpr-F.Field field e) = e ++ field_target field ∷ []
expr_step (IExpr-F.Call method args) = method_target method ∷ joined args
expr_step (IExpr-F.StaticCall method args) = method_target method ∷ joined args
expr_step (IExpr-F.CallOn method e args) = e ++ method_target method ∷ joined args
expr_step (IExpr-F.SuperCall method args) = method_target method ∷ joined args
expr_step (IExpr-F.New constructor args) = method_target constructor ∷ joined args
expr_step (IExpr-F.NewDefault class) = default_target class ∷ []
expr_step (IExpr-F.Cond test a b) = test ++ a ++ b
expr_step (IExpr-F.OutsideName name) = outside_target name ∷ []
expr_step (IExpr-F.OutsideClass name) = outside_target name ∷ []
expr_step (IExpr-F.OutsideField name e) = e ++ outside_target name ∷ []
expr_step (IExpr-F.OutsideCall name args) = outside_target name ∷ joined args
expr_step (IExpr-F.OutsideCallOn name e args) = e ++ outside_target name ∷ joined args
expr_step (IExpr-F.OutsideSuperCall name args) = outside_target name ∷ joined args
expr_step (IExpr-F.NewOutside type args) = type_references type ++ joined args
expr_step (IExpr-F.NewArray type sizes pairs) = type_references type ++ joined sizes
expr_step (IExpr-F.ArrayLit type items) = type_references type ++ joined items
expr_step (IExpr-F.Braces items) = joined items
expr_step (IExpr-F.Index e index) = e ++ index_target ∷ index
expr_step (IExpr-F.Unary op e) = e
expr_step (IExpr-F.Post op e) = e
expr_step (IExpr-F.Binary op a b) = a ++ b
expr_step (IExpr-F.Assign op a b) = a ++ b
expr_step (IExpr-F.Cast type e) = type_references type ++ e
expr_step (IExpr-F.InstanceOf e type) = e ++ type_references type

-- Of an argument the value prints, and not the parameter that it is for.
abbrev pub argument_step : Argument-F References References → References
argument_step argument = argument.value

abbrev pub expr_references : IExpr → References
expr_references = fold-IExpr References References expr_step argument_step

abbrev pub argument_references : Argument → References
argument_references = fold-Argument References References expr_step argument_step

abbrev pub exprs_references : List IExpr → References
exprs_references es = flat_map expr_references es

abbrev pub arguments_references : List Argument → References
arguments_references arguments = flat_map (λ (argument : Argument). expr_references argument.value) arguments

abbrev pub maybe_references : Option IExpr → References
maybe_references None = []
maybe_references (Some e) = expr_references e

-- ---- statements

abbrev pub let_references : ILet → References
let_references declared =
    type_references declared.ty ++ flat_map (λ (declarator : IDeclarator). maybe_references declarator.init) declared.names

abbrev pub start_references : IForStart → References
start_references starts.None = []
start_references (starts.Let declared) = let_references declared
start_references (starts.Do es) = exprs_references es

abbrev pub else_step : IElse-F References References References References References → References
else_step IElse-F.None = []
else_step (IElse-F.IElse::Block block) = block
else_step (IElse-F.IElse::If branch) = branch

abbrev pub node_step : IStmtNode-F References References References References References → References
node_step (IStmtNode-F.IStmtNode::Block block) = block
node_step (IStmtNode-F.Let declared) = let_references declared
node_step (IStmtNode-F.Do e) = expr_references e
node_step (IStmtNode-F.IStmtNode::If branch) = branch
node_step (IStmtNode-F.While test block) = expr_references test ++ block
node_step (IStmtNode-F.For start test steps block) = start_references start ++ maybe_references test ++ exprs_references steps ++ block
node_step (IStmtNode-F.Each is_final type name e block) = type_references type ++ expr_references e ++ block
node_step (IStmtNode-F.Return e) = maybe_references e
node_step (IStmtNode-F.Throw e) = expr_references e
node_step IStmtNode-F.Break = []
node_step IStmtNode-F.Continue = []
node_step IStmtNode-F.Empty = []
node_step (IStmtNode-F.Super constructor args) = method_target constructor ∷ arguments_references args
node_step (IStmtNode-F.SuperDefault class) = default_target class ∷ []
node_step (IStmtNode-F.SuperOutside args) = outside_target (codes "super") ∷ exprs_references args

abbrev pub block_step : IBlock-F References References References References References → References
block_step block = joined block.items

abbrev pub if_step : IIf-F References References References References References → References
if_step branch = expr_references branch.test ++ branch.then ++ branch.rest

abbrev pub statement_step : IStmt-F References References References References References → References
statement_step statement = statement.node

abbrev pub else_references : IElse → References
else_references = fold-IElse References References References References References else_step node_step block_step if_step statement_step

abbrev pub node_references : IStmtNode → References
node_references =
    fold-IStmtNode References References References References References else_step node_step block_step if_step statement_step

abbrev pub block_references : IBlock → References
block_references = fold-IBlock References References References References References else_step node_step block_step if_step statement_step

abbrev pub if_references : IIf → References
if_references = fold-IIf References References References References References else_step node_step block_step if_step statement_step

abbrev pub statement_references : IStmt → References
statement_references =
    fold-IStmt References References References References References else_step node_step block_step if_step statement_step

-- ---- values

abbrev pub body_references : Option IBody → References
body_references None = []
body_references (Some body) = block_references body.block

abbrev pub parent_references : Option IType → References
parent_references None = []
parent_references (Some parent) = type_references parent

-- The references of the value of a cell. An owner and the method of a declaration stand in no source; the other values name nothing else.
abbrev pub references : Value → References
references (values.Super parent) = parent_references parent
references (values.Result type) = type_references type
references (values.Params params) = flat_map (λ (param : Param). type_references param.ty) params
references (values.Body body) = body_references body
references (values.Value type init) = type_references type ++ maybe_references init
references value = []
