-- The classes that a value creates by their default constructors (JLS 8.8.9, 15.9), as the value holds it: which constructors these have
-- decides what its tidied form says.
use Rattle.std.specs.Prelude.{List, [], ◌∷◌, ◌++◌, Option, None, Some}
use Rattle.std.specs.List.{flat_map}
use Rattle.mol_base.specs.declared.ident.Id.{Id}
use Rattle.mol_values_types.specs.declared.iblock.IBlock.{IBlock, fold-IBlock}
use Rattle.mol_values_types.specs.declared.iblock.IDeclarator.{IDeclarator}
use Rattle.mol_values_types.specs.declared.iblock.IElse.TheOpen.{IElse-F, IStmtNode-F, IBlock-F, IIf-F, IStmt-F}
use Rattle.mol_values_types.specs.declared.iblock.IForStart.{IForStart}
use Rattle.mol_values_types.specs.declared.iblock.IForStart.TheVariants as starts
use Rattle.mol_values_types.specs.declared.iblock.ILet.{ILet}
use Rattle.mol_values_types.specs.declared.iexpr.Argument.{Argument}
use Rattle.mol_values_types.specs.declared.iexpr.IExpr.{IExpr, fold-IExpr}
use Rattle.mol_values_types.specs.declared.iexpr.IExpr.TheOpen.{IExpr-F, Argument-F}
use Rattle.mol_values_types.specs.declared.value.Value.{Value}
use Rattle.mol_values_types.specs.declared.value.Value.TheVariants as values

abbrev pub Classes : Type 0
Classes = List Id

abbrev pub joined : List Classes → Classes
joined lists = flat_map (λ list. list) lists

abbrev pub expr_step : IExpr-F Classes Classes → Classes
expr_step (IExpr-F.Lit text) = []
expr_step IExpr-F.This = []
expr_step (IExpr-F.Local number) = []
expr_step (IExpr-F.Param id) = []
expr_step (IExpr-F.Own field) = []
expr_step (IExpr-F.StaticField field) = []
expr_step (IExpr-F.Field field e) = e
expr_step (IExpr-F.Call method args) = joined args
expr_step (IExpr-F.StaticCall method args) = joined args
expr_step (IExpr-F.CallOn method e args) = e ++ joined args
expr_step (IExpr-F.SuperCall method args) = joined args
expr_step (IExpr-F.New constructor args) = joined args
expr_step (IExpr-F.NewDefault class) = class ∷ []
expr_step (IExpr-F.Cond test a b) = test ++ a ++ b
expr_step (IExpr-F.OutsideName name) = []
expr_step (IExpr-F.OutsideClass name) = []
expr_step (IExpr-F.OutsideField name e) = e
expr_step (IExpr-F.OutsideCall name args) = joined args
expr_step (IExpr-F.OutsideCallOn name e args) = e ++ joined args
expr_step (IExpr-F.OutsideSuperCall name args) = joined args
expr_step (IExpr-F.NewOutside type args) = joined args
expr_step (IExpr-F.NewArray type sizes pairs) = joined sizes
expr_step (IExpr-F.ArrayLit type items) = joined items
expr_step (IExpr-F.Braces items) = joined items
expr_step (IExpr-F.Index e index) = e ++ index
expr_step (IExpr-F.Unary op e) = e
expr_step (IExpr-F.Post op e) = e
expr_step (IExpr-F.Binary op a b) = a ++ b
expr_step (IExpr-F.Assign op a b) = a ++ b
expr_step (IExpr-F.Cast type e) = e
expr_step (IExpr-F.InstanceOf e type) = e

abbrev pub argument_step : Argument-F Classes Classes → Classes
argument_step argument = argument.value

abbrev pub expr_creations : IExpr → Classes
expr_creations = fold-IExpr Classes Classes expr_step argument_step

abbrev pub exprs_creations : List IExpr → Classes
exprs_creations es = flat_map expr_creations es

abbrev pub arguments_creations : List Argument → Classes
arguments_creations arguments = flat_map (λ (argument : Argument). expr_creations argument.value) arguments

abbrev pub maybe_creations : Option IExpr → Classes
maybe_creations None = []
maybe_creations (Some e) = expr_creations e

-- ---- statements

abbrev pub let_creations : ILet → Classes
let_creations declared = flat_map (λ (declarator : IDeclarator). maybe_creations declarator.init) declared.names

abbrev pub start_creations : IForStart → Classes
start_creations starts.None = []
start_creations (starts.Let declared) = let_creations declared
start_creations (starts.Do es) = exprs_creations es

abbrev pub else_step : IElse-F Classes Classes Classes Classes Classes → Classes
else_step IElse-F.None = []
else_step (IElse-F.IElse::Block block) = block
else_step (IElse-F.IElse::If branch) = branch

abbrev pub node_step : IStmtNode-F Classes Classes Classes Classes Classes → Classes
node_step (IStmtNode-F.IStmtNode::Block block) = block
node_step (IStmtNode-F.Let declared) = let_creations declared
node_step (IStmtNode-F.Do e) = expr_creations e
node_step (IStmtNode-F.IStmtNode::If branch) = branch
node_step (IStmtNode-F.While test block) = expr_creations test ++ block
node_step (IStmtNode-F.For start test steps block) = start_creations start ++ maybe_creations test ++ exprs_creations steps ++ block
node_step (IStmtNode-F.Each is_final type name e block) = expr_creations e ++ block
node_step (IStmtNode-F.Return e) = maybe_creations e
node_step (IStmtNode-F.Throw e) = expr_creations e
node_step IStmtNode-F.Break = []
node_step IStmtNode-F.Continue = []
node_step IStmtNode-F.Empty = []
node_step (IStmtNode-F.Super constructor args) = arguments_creations args
node_step (IStmtNode-F.SuperDefault class) = []
node_step (IStmtNode-F.SuperOutside args) = exprs_creations args

abbrev pub block_step : IBlock-F Classes Classes Classes Classes Classes → Classes
block_step block = joined block.items

abbrev pub if_step : IIf-F Classes Classes Classes Classes Classes → Classes
if_step branch = expr_creations branch.test ++ branch.then ++ branch.rest

abbrev pub statement_step : IStmt-F Classes Classes Classes Classes Classes → Classes
statement_step statement = statement.node

abbrev pub block_creations : IBlock → Classes
block_creations = fold-IBlock Classes Classes Classes Classes Classes else_step node_step block_step if_step statement_step

-- ---- values

abbrev pub default_creations : Value → Classes
default_creations (values.Body (Some body)) = block_creations body.block
default_creations (values.Value type init) = maybe_creations init
default_creations value = []
