-- A value with other identities: each one that its words name, and each parameter in the arguments of a call, is renamed by a
-- function.
use Rattle.std.specs.Prelude.{map, option_map}
use Rattle.mol_base.specs.declared.ident.Id.{Id}
use Rattle.mol_values_types.specs.Blocks.{block_of, branch_of}
use Rattle.mol_values_types.specs.declared.iblock.IBlock.{IBlock, fold-IBlock}
use Rattle.mol_values_types.specs.declared.iblock.IBody.{IBody}
use Rattle.mol_values_types.specs.declared.iblock.IDeclarator.{IDeclarator}
use Rattle.mol_values_types.specs.declared.iblock.IElse.{IElse, fold-IElse}
use Rattle.mol_values_types.specs.declared.iblock.IElse.TheOpen.{IElse-F, IStmtNode-F, IBlock-F, IIf-F, IStmt-F}
use Rattle.mol_values_types.specs.declared.iblock.IElse.TheVariants as elses
use Rattle.mol_values_types.specs.declared.iblock.IForStart.{IForStart}
use Rattle.mol_values_types.specs.declared.iblock.IForStart.TheVariants as starts
use Rattle.mol_values_types.specs.declared.iblock.IIf.{IIf, fold-IIf}
use Rattle.mol_values_types.specs.declared.iblock.ILet.{ILet}
use Rattle.mol_values_types.specs.declared.iblock.IStmt.{IStmt, fold-IStmt}
use Rattle.mol_values_types.specs.declared.iblock.IStmtNode.{IStmtNode, fold-IStmtNode}
use Rattle.mol_values_types.specs.declared.iblock.IStmtNode.TheVariants as nodes
use Rattle.mol_values_types.specs.declared.iexpr.Argument.{Argument, fold-Argument}
use Rattle.mol_values_types.specs.declared.iexpr.IExpr.{IExpr, fold-IExpr}
use Rattle.mol_values_types.specs.declared.iexpr.IExpr.TheOpen.{IExpr-F, Argument-F}
use Rattle.mol_values_types.specs.declared.iexpr.IExpr.TheVariants as exprs
use Rattle.mol_values_types.specs.declared.itype.IType.{IType, fold-IType}
use Rattle.mol_values_types.specs.declared.itype.IType.TheOpen.{IType-F}
use Rattle.mol_values_types.specs.declared.itype.IType.TheVariants as types
use Rattle.mol_values_types.specs.declared.known.Known.{Known}
use Rattle.mol_values_types.specs.declared.known.Known.TheVariants as knowns
use Rattle.mol_values_types.specs.declared.param.Param.{Param}
use Rattle.mol_values_types.specs.declared.value.Value.{Value}
use Rattle.mol_values_types.specs.declared.value.Value.TheVariants as values

module _ (name : Id → Id) where
  abbrev pub type_step : IType-F IType → IType
  type_step IType-F.Boolean = types.Boolean
  type_step IType-F.Byte = types.Byte
  type_step IType-F.Short = types.Short
  type_step IType-F.Char = types.Char
  type_step IType-F.Int = types.Int
  type_step IType-F.Long = types.Long
  type_step IType-F.Void = types.Void
  type_step (IType-F.Class id) = types.Class (name id)
  type_step (IType-F.Imported full rest) = types.Imported full rest
  type_step (IType-F.Written text) = types.Written text
  type_step (IType-F.Array item) = types.Array item

  abbrev pub rename_type : IType → IType
  rename_type = fold-IType IType type_step

  abbrev pub expr_step : IExpr-F IExpr Argument → IExpr
  expr_step (IExpr-F.Lit text) = exprs.Lit text
  expr_step IExpr-F.This = exprs.This
  expr_step (IExpr-F.Local number) = exprs.Local number
  expr_step (IExpr-F.Param id) = exprs.Param (name id)
  expr_step (IExpr-F.Own field) = exprs.Own (name field)
  expr_step (IExpr-F.StaticField field) = exprs.StaticField (name field)
  expr_step (IExpr-F.Field field e) = exprs.Field (name field) e
  expr_step (IExpr-F.Call method args) = exprs.Call (name method) args
  expr_step (IExpr-F.StaticCall method args) = exprs.StaticCall (name method) args
  expr_step (IExpr-F.CallOn method e args) = exprs.CallOn (name method) e args
  expr_step (IExpr-F.SuperCall method args) = exprs.SuperCall (name method) args
  expr_step (IExpr-F.New constructor args) = exprs.New (name constructor) args
  expr_step (IExpr-F.NewDefault class) = exprs.NewDefault (name class)
  expr_step (IExpr-F.Cond test a b) = exprs.Cond test a b
  expr_step (IExpr-F.OutsideName text) = exprs.OutsideName text
  expr_step (IExpr-F.OutsideClass full) = exprs.OutsideClass full
  expr_step (IExpr-F.OutsideField text e) = exprs.OutsideField text e
  expr_step (IExpr-F.OutsideCall text args) = exprs.OutsideCall text args
  expr_step (IExpr-F.OutsideCallOn text e args) = exprs.OutsideCallOn text e args
  expr_step (IExpr-F.OutsideSuperCall text args) = exprs.OutsideSuperCall text args
  expr_step (IExpr-F.NewOutside ty args) = exprs.NewOutside (rename_type ty) args
  expr_step (IExpr-F.NewArray ty sizes pairs) = exprs.NewArray (rename_type ty) sizes pairs
  expr_step (IExpr-F.ArrayLit ty items) = exprs.ArrayLit (rename_type ty) items
  expr_step (IExpr-F.Braces items) = exprs.Braces items
  expr_step (IExpr-F.Index e i) = exprs.Index e i
  expr_step (IExpr-F.Unary op e) = exprs.Unary op e
  expr_step (IExpr-F.Post op e) = exprs.Post op e
  expr_step (IExpr-F.Binary op a b) = exprs.Binary op a b
  expr_step (IExpr-F.Assign op a b) = exprs.Assign op a b
  expr_step (IExpr-F.Cast ty e) = exprs.Cast (rename_type ty) e
  expr_step (IExpr-F.InstanceOf e ty) = exprs.InstanceOf e (rename_type ty)

  abbrev pub argument_step : Argument-F IExpr Argument → Argument
  argument_step argument = record { param = name argument.param; value = argument.value }

  abbrev pub rename_expr : IExpr → IExpr
  rename_expr = fold-IExpr IExpr Argument expr_step argument_step

  abbrev pub rename_argument : Argument → Argument
  rename_argument = fold-Argument IExpr Argument expr_step argument_step

  abbrev pub rename_declarator : IDeclarator → IDeclarator
  rename_declarator declarator = record { name = declarator.name; init = option_map rename_expr declarator.init }

  abbrev pub rename_let : ILet → ILet
  rename_let declared = record { is_final = declared.is_final; ty = rename_type declared.ty; names = map rename_declarator declared.names }

  abbrev pub rename_start : IForStart → IForStart
  rename_start starts.None = starts.None
  rename_start (starts.Let declared) = starts.Let (rename_let declared)
  rename_start (starts.Do es) = starts.Do (map rename_expr es)

  abbrev pub else_step : IElse-F IElse IStmtNode IBlock IIf IStmt → IElse
  else_step IElse-F.None = elses.None
  else_step (IElse-F.IElse::Block block) = elses.Block block
  else_step (IElse-F.IElse::If branch) = elses.If branch

  abbrev pub node_step : IStmtNode-F IElse IStmtNode IBlock IIf IStmt → IStmtNode
  node_step (IStmtNode-F.IStmtNode::Block block) = nodes.Block block
  node_step (IStmtNode-F.Let declared) = nodes.Let (rename_let declared)
  node_step (IStmtNode-F.Do e) = nodes.Do (rename_expr e)
  node_step (IStmtNode-F.IStmtNode::If branch) = nodes.If branch
  node_step (IStmtNode-F.While test block) = nodes.While (rename_expr test) block
  node_step (IStmtNode-F.For start test steps block) = nodes.For (rename_start start) (option_map rename_expr test) (map rename_expr steps) block
  node_step (IStmtNode-F.Each is_final ty text e block) = nodes.Each is_final (rename_type ty) text (rename_expr e) block
  node_step (IStmtNode-F.Return e) = nodes.Return (option_map rename_expr e)
  node_step (IStmtNode-F.Throw e) = nodes.Throw (rename_expr e)
  node_step IStmtNode-F.Break = nodes.Break
  node_step IStmtNode-F.Continue = nodes.Continue
  node_step IStmtNode-F.Empty = nodes.Empty
  node_step (IStmtNode-F.Super constructor args) = nodes.Super (name constructor) (map rename_argument args)
  node_step (IStmtNode-F.SuperDefault class) = nodes.SuperDefault (name class)
  node_step (IStmtNode-F.SuperOutside args) = nodes.SuperOutside (map rename_expr args)

  abbrev pub block_step : IBlock-F IElse IStmtNode IBlock IIf IStmt → IBlock
  block_step block = block_of block.items block.tail

  abbrev pub if_step : IIf-F IElse IStmtNode IBlock IIf IStmt → IIf
  if_step branch = branch_of (rename_expr branch.test) branch.then branch.rest

  abbrev pub statement_step : IStmt-F IElse IStmtNode IBlock IIf IStmt → IStmt
  statement_step statement = record { notes = statement.notes; node = statement.node }

  abbrev pub rename_else : IElse → IElse
  rename_else = fold-IElse IElse IStmtNode IBlock IIf IStmt else_step node_step block_step if_step statement_step

  abbrev pub rename_node : IStmtNode → IStmtNode
  rename_node = fold-IStmtNode IElse IStmtNode IBlock IIf IStmt else_step node_step block_step if_step statement_step

  abbrev pub rename_block : IBlock → IBlock
  rename_block = fold-IBlock IElse IStmtNode IBlock IIf IStmt else_step node_step block_step if_step statement_step

  abbrev pub rename_if : IIf → IIf
  rename_if = fold-IIf IElse IStmtNode IBlock IIf IStmt else_step node_step block_step if_step statement_step

  abbrev pub rename_statement : IStmt → IStmt
  rename_statement = fold-IStmt IElse IStmtNode IBlock IIf IStmt else_step node_step block_step if_step statement_step

  abbrev pub rename_body : IBody → IBody
  rename_body body = record { block = rename_block body.block }

  abbrev pub rename_param : Param → Param
  rename_param param = record { id = name param.id; name = param.name; ty = rename_type param.ty; filler = param.filler }

  abbrev pub rename_value : Value → Value
  rename_value (values.Owner owner) = values.Owner (name owner)
  rename_value (values.Method method) = values.Method (name method)
  rename_value (values.Super parent) = values.Super (option_map rename_type parent)
  rename_value (values.Result ty) = values.Result (rename_type ty)
  rename_value (values.Params params) = values.Params (map rename_param params)
  rename_value (values.Body body) = values.Body (option_map rename_body body)
  rename_value (values.Value ty init) = values.Value (rename_type ty) (option_map rename_expr init)
  rename_value value = value

  abbrev pub rename_known : Known → Known
  rename_known knowns.Class = knowns.Class
  rename_known (knowns.Method kind) = knowns.Method kind
  rename_known (knowns.Decl method) = knowns.Decl (name method)
  rename_known knowns.Field = knowns.Field
  rename_known (knowns.Param method) = knowns.Param (name method)
