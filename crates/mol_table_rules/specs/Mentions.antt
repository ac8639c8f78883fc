-- What a value mentions: the classes, fields, methods and parameters that are named in it, as often and in the order in which
-- its words name them. The parameters to which a call gives its arguments do not count.
use Rattle.std.specs.Prelude.{List, [], ◌∷◌, ◌++◌, Option, None, Some}
use Rattle.std.specs.List.{flat_map}
use Rattle.mol_base.specs.declared.ident.Id.{Id}
use Rattle.mol_values_types.specs.declared.iblock.IBlock.{IBlock, fold-IBlock}
use Rattle.mol_values_types.specs.declared.iblock.IBody.{IBody}
use Rattle.mol_values_types.specs.declared.iblock.IDeclarator.{IDeclarator}
use Rattle.mol_values_types.specs.declared.iblock.IElse.TheOpen.{IElse-F, IStmtNode-F, IBlock-F, IIf-F, IStmt-F}
use Rattle.mol_values_types.specs.declared.iblock.IForStart.{IForStart}
use Rattle.mol_values_types.specs.declared.iblock.IForStart.TheVariants as starts
use Rattle.mol_values_types.specs.declared.iblock.ILet.{ILet}
use Rattle.mol_values_types.specs.declared.iexpr.Argument.{Argument}
use Rattle.mol_values_types.specs.declared.iexpr.IExpr.{IExpr, fold-IExpr}
use Rattle.mol_values_types.specs.declared.iexpr.IExpr.TheOpen.{IExpr-F, Argument-F}
use Rattle.mol_values_types.specs.declared.itype.IType.{IType, fold-IType}
use Rattle.mol_values_types.specs.declared.itype.IType.TheOpen.{IType-F}
use Rattle.mol_values_types.specs.declared.param.Param.{Param}
use Rattle.mol_values_types.specs.declared.value.Value.{Value}
use Rattle.mol_values_types.specs.declared.value.Value.TheVariants as values

-- as what a value names an identity
pub data Role : Type 0 where
  a_class : Role
  a_field : Role
  -- any method
  a_method : Role
  -- a method that is no constructor
  a_called_method : Role
  a_static_method : Role
  a_constructor : Role
  -- a parameter in an expression
  a_param : Role
  -- a parameter of the list of a method
  a_listed_param : Role

pub record Mention : Type 0 where
  pub role : Role
  pub id : Id

abbrev pub named : Role → Id → List Mention
named role id = record { role = role; id = id } ∷ []

abbrev pub joined : List (List Mention) → List Mention
joined lists = flat_map (λ mentions. mentions) lists

abbrev pub maybe : Option (List Mention) → List Mention
maybe None = []
maybe (Some mentions) = mentions

abbrev pub type_step : IType-F (List Mention) → List Mention
type_step (IType-F.Class id) = named a_class id
type_step (IType-F.Array item) = item
type_step other = []

abbrev pub type_mentions : IType → List Mention
type_mentions = fold-IType (List Mention) type_step

abbrev pub expr_step : IExpr-F (List Mention) (List Mention) → List Mention
expr_step (IExpr-F.Lit text) = []
expr_step IExpr-F.This = []
expr_step (IExpr-F.Local number) = []
expr_step (IExpr-F.Param id) = named a_param id
expr_step (IExpr-F.Own field) = named a_field field
expr_step (IExpr-F.StaticField field) = named a_field field
expr_step (IExpr-F.Field field e) = named a_field field ++ e
expr_step (IExpr-F.Call method args) = named a_called_method method ++ joined args
expr_step (IExpr-F.StaticCall method args) = named a_static_method method ++ joined args
expr_step (IExpr-F.CallOn method e args) = named a_called_method method ++ e ++ joined args
expr_step (IExpr-F.SuperCall method args) = named a_called_method method ++ joined args
expr_step (IExpr-F.New constructor args) = named a_constructor constructor ++ joined args
expr_step (IExpr-F.NewDefault class) = named a_class class
expr_step (IExpr-F.Cond test a b) = test ++ a ++ b
expr_step (IExpr-F.OutsideName name) = []
expr_step (IExpr-F.OutsideClass full) = []
expr_step (IExpr-F.OutsideField name e) = e
expr_step (IExpr-F.OutsideCall name args) = joined args
expr_step (IExpr-F.OutsideCallOn name e args) = e ++ joined args
expr_step (IExpr-F.OutsideSuperCall name args) = joined args
expr_step (IExpr-F.NewOutside ty args) = type_mentions ty ++ joined args
expr_step (IExpr-F.NewArray ty sizes pairs) = type_mentions ty ++ joined sizes
expr_step (IExpr-F.ArrayLit ty items) = type_mentions ty ++ joined items
expr_step (IExpr-F.Braces items) = joined items
expr_step (IExpr-F.Index e i) = e ++ i
expr_step (IExpr-F.Unary op e) = e
expr_step (IExpr-F.Post op e) = e
expr_step (IExpr-F.Binary op a b) = a ++ b
expr_step (IExpr-F.Assign op a b) = a ++ b
expr_step (IExpr-F.Cast ty e) = type_mentions ty ++ e
expr_step (IExpr-F.InstanceOf e ty) = e ++ type_mentions ty

-- an argument mentions what its value does; the parameter that it is for is not mentioned
abbrev pub argument_step : Argument-F (List Mention) (List Mention) → List Mention
argument_step argument = argument.value

abbrev pub expr_mentions : IExpr → List Mention
expr_mentions = fold-IExpr (List Mention) (List Mention) expr_step argument_step

abbrev pub exprs_mentions : List IExpr → List Mention
exprs_mentions es = flat_map expr_mentions es

abbrev pub arguments_mentions : List Argument → List Mention
arguments_mentions arguments = flat_map (λ (argument : Argument). expr_mentions argument.value) arguments

abbrev pub maybe_mentions : Option IExpr → List Mention
maybe_mentions None = []
maybe_mentions (Some e) = expr_mentions e

abbrev pub let_mentions : ILet → List Mention
let_mentions declared = type_mentions declared.ty ++ flat_map (λ (declarator : IDeclarator). maybe_mentions declarator.init) declared.names

abbrev pub start_mentions : IForStart → List Mention
start_mentions starts.None = []
start_mentions (starts.Let declared) = let_mentions declared
start_mentions (starts.Do es) = exprs_mentions es

abbrev pub else_step : IElse-F (List Mention) (List Mention) (List Mention) (List Mention) (List Mention) → List Mention
else_step IElse-F.None = []
else_step (IElse-F.IElse::Block block) = block
else_step (IElse-F.IElse::If branch) = branch

abbrev pub node_step : IStmtNode-F (List Mention) (List Mention) (List Mention) (List Mention) (List Mention) → List Mention
node_step (IStmtNode-F.IStmtNode::Block block) = block
node_step (IStmtNode-F.Let declared) = let_mentions declared
node_step (IStmtNode-F.Do e) = expr_mentions e
node_step (IStmtNode-F.IStmtNode::If branch) = branch
node_step (IStmtNode-F.While test block) = expr_mentions test ++ block
node_step (IStmtNode-F.For start test steps block) = start_mentions start ++ maybe_mentions test ++ exprs_mentions steps ++ block
node_step (IStmtNode-F.Each is_final ty name e block) = type_mentions ty ++ expr_mentions e ++ block
node_step (IStmtNode-F.Return e) = maybe_mentions e
node_step (IStmtNode-F.Throw e) = expr_mentions e
node_step IStmtNode-F.Break = []
node_step IStmtNode-F.Continue = []
node_step IStmtNode-F.Empty = []
node_step (IStmtNode-F.Super constructor args) = named a_constructor constructor ++ arguments_mentions args
node_step (IStmtNode-F.SuperDefault class) = named a_class class
node_step (IStmtNode-F.SuperOutside args) = exprs_mentions args

abbrev pub block_step : IBlock-F (List Mention) (List Mention) (List Mention) (List Mention) (List Mention) → List Mention
block_step block = joined block.items

abbrev pub if_step : IIf-F (List Mention) (List Mention) (List Mention) (List Mention) (List Mention) → List Mention
if_step branch = expr_mentions branch.test ++ branch.then ++ branch.rest

abbrev pub statement_step : IStmt-F (List Mention) (List Mention) (List Mention) (List Mention) (List Mention) → List Mention
statement_step statement = statement.node

abbrev pub block_mentions : IBlock → List Mention
block_mentions = fold-IBlock (List Mention) (List Mention) (List Mention) (List Mention) (List Mention) else_step node_step block_step if_step statement_step

abbrev pub body_mentions : Option IBody → List Mention
body_mentions None = []
body_mentions (Some body) = block_mentions body.block

abbrev pub parent_mentions : Option IType → List Mention
parent_mentions None = []
parent_mentions (Some parent) = type_mentions parent

-- a list of parameters mentions those that it lists, and their types
abbrev pub param_mentions : Param → List Mention
param_mentions param = named a_listed_param param.id ++ type_mentions param.ty

abbrev pub mentions : Value → List Mention
mentions (values.Live live) = []
mentions (values.Package name) = []
mentions (values.Owner owner) = named a_class owner
mentions (values.Method method) = named a_method method
mentions (values.Name name) = []
mentions (values.Super parent) = parent_mentions parent
mentions (values.Result ty) = type_mentions ty
mentions (values.Params params) = flat_map param_mentions params
mentions (values.Kind kind) = []
mentions (values.Fixed fixed) = []
mentions (values.Words words) = []
mentions (values.Notes notes) = []
mentions (values.Body body) = body_mentions body
mentions (values.Value ty init) = type_mentions ty ++ maybe_mentions init
