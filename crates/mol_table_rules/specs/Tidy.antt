-- Tidying: the arguments of each call are made those of the present parameters of its method, at every depth, and a creation by
-- default constructor one by the constructor without parameters, where there is one. A value is tidied by two functions.
use Rattle.std.specs.Prelude.{ℕ, ◌==◌, Bool, true, false, ◌&&◌, List, [], ◌∷◌, map, drop, codes, Option, None, Some, if◌then◌else◌, option_map}
use Rattle.std.specs.List.{find, list_any}
use Rattle.std.specs.Option.{option_map_or}
use Rattle.std.specs.FinMap.{get, entries, keys, from_entries}
use Rattle.mol_base.specs.Lexical.Characters.{first}
use Rattle.mol_base.specs.declared.ident.Id.{Id}
use Rattle.mol_table_rules.specs.Life.{is_decl_of}
use Rattle.mol_table_rules.specs.Mentions.{Mention, mentions}
use Rattle.mol_table_rules.specs.Program.{Program, same_id, living_at, owner_at, params_at}
use Rattle.mol_values_types.specs.TokenForms.{is_empty}
use Rattle.mol_values_types.specs.declared.cell.Cell.{Cell}
use Rattle.mol_values_types.specs.Blocks.{block_of, branch_of}
use Rattle.mol_values_types.specs.declared.iblock.IBlock.{IBlock, fold-IBlock}
use Rattle.mol_values_types.specs.declared.iblock.IBody.{IBody}
use Rattle.mol_values_types.specs.declared.iblock.IDeclarator.{IDeclarator}
use Rattle.mol_values_types.specs.declared.iblock.IElse.{IElse, fold-IElse}
use Rattle.mol_values_types.specs.declared.iblock.IElse.TheOpen.{IElse-F, IStmtNode-F, IBlock-F, IIf-F, IStmt-F}
use Rattle.mol_values_types.specs.declared.iblock.IElse.TheVariants as elses
use Rattle.mol_values_types.specs.declared.iblock.IForStart.{IForStart}
use Rattle.mol_values_types.specs.declared.iblock.IForStart.TheVariants as starts
use Rattle.mol_values_types.specs.declared.iblock.IIf.{IIf, fold-IIf}
use Rattle.mol_values_types.specs.declared.iblock.ILet.{ILet}
use Rattle.mol_values_types.specs.declared.iblock.IStmt.{IStmt, fold-IStmt}
use Rattle.mol_values_types.specs.declared.iblock.IStmtNode.{IStmtNode, fold-IStmtNode}
use Rattle.mol_values_types.specs.declared.iblock.IStmtNode.TheVariants as nodes
use Rattle.mol_values_types.specs.declared.iexpr.Argument.{Argument, fold-Argument}
use Rattle.mol_values_types.specs.declared.iexpr.IExpr.{IExpr, fold-IExpr}
use Rattle.mol_values_types.specs.declared.iexpr.IExpr.TheOpen.{IExpr-F, Argument-F}
use Rattle.mol_values_types.specs.declared.iexpr.IExpr.TheVariants as exprs
use Rattle.mol_values_types.specs.declared.known.Known.{Known}
use Rattle.mol_values_types.specs.declared.known.Known.TheVariants as knowns
use Rattle.mol_values_types.specs.declared.kind.MethodKind.TheVariants.{Constructor}
use Rattle.mol_values_types.specs.declared.param.Param.{Param}
use Rattle.mol_values_types.specs.declared.value.Value.{Value}
use Rattle.mol_values_types.specs.declared.value.Value.TheVariants as values

-- a filler as an expression: `-` (45) and a number is the unary minus of that number
abbrev pub filler_expr : List ℕ → IExpr
filler_expr text = if first text == 45 then exprs.Unary (codes "-") (exprs.Lit (drop 1 text)) else exprs.Lit text

-- the first argument recorded for a parameter, else its filler
abbrev pub value_of : List Argument → Param → IExpr
value_of [] param = filler_expr param.filler
value_of (argument ∷ arguments) param = if same_id param.id argument.param then argument.value else value_of arguments param

abbrev pub argument_for : List Argument → Param → Argument
argument_for arguments param = record { param = param.id; value = value_of arguments param }

-- one argument for each parameter, in the order of the parameters
abbrev pub arguments_for : List Param → List Argument → List Argument
arguments_for params arguments = map (argument_for arguments) params

-- the creation of a class by the constructor that there is
abbrev pub creation : Id → Option Id → IExpr
creation class None = exprs.NewDefault class
creation class (Some constructor) = exprs.New constructor []

-- the present parameters of each method, and of each class the least living constructor without parameters
module _ (present : Id → List Param) (bare : Id → Option Id) where
  abbrev pub expr_step : IExpr-F IExpr Argument → IExpr
  expr_step (IExpr-F.Lit text) = exprs.Lit text
  expr_step IExpr-F.This = exprs.This
  expr_step (IExpr-F.Local number) = exprs.Local number
  expr_step (IExpr-F.Param id) = exprs.Param id
  expr_step (IExpr-F.Own field) = exprs.Own field
  expr_step (IExpr-F.StaticField field) = exprs.StaticField field
  expr_step (IExpr-F.Field field e) = exprs.Field field e
  expr_step (IExpr-F.Call method args) = exprs.Call method (arguments_for (present method) args)
  expr_step (IExpr-F.StaticCall method args) = exprs.StaticCall method (arguments_for (present method) args)
  expr_step (IExpr-F.CallOn method e args) = exprs.CallOn method e (arguments_for (present method) args)
  expr_step (IExpr-F.SuperCall method args) = exprs.SuperCall method (arguments_for (present method) args)
  expr_step (IExpr-F.New constructor args) = exprs.New constructor (arguments_for (present constructor) args)
  expr_step (IExpr-F.NewDefault class) = creation class (bare class)
  expr_step (IExpr-F.Cond test a b) = exprs.Cond test a b
  expr_step (IExpr-F.OutsideName name) = exprs.OutsideName name
  expr_step (IExpr-F.OutsideClass full) = exprs.OutsideClass full
  expr_step (IExpr-F.OutsideField name e) = exprs.OutsideField name e
  expr_step (IExpr-F.OutsideCall name args) = exprs.OutsideCall name args
  expr_step (IExpr-F.OutsideCallOn name e args) = exprs.OutsideCallOn name e args
  expr_step (IExpr-F.OutsideSuperCall name args) = exprs.OutsideSuperCall name args
  expr_step (IExpr-F.NewOutside ty args) = exprs.NewOutside ty args
  expr_step (IExpr-F.NewArray ty sizes pairs) = exprs.NewArray ty sizes pairs
  expr_step (IExpr-F.ArrayLit ty items) = exprs.ArrayLit ty items
  expr_step (IExpr-F.Braces items) = exprs.Braces items
  expr_step (IExpr-F.Index e i) = exprs.Index e i
  expr_step (IExpr-F.Unary op e) = exprs.Unary op e
  expr_step (IExpr-F.Post op e) = exprs.Post op e
  expr_step (IExpr-F.Binary op a b) = exprs.Binary op a b
  expr_step (IExpr-F.Assign op a b) = exprs.Assign op a b
  expr_step (IExpr-F.Cast ty e) = exprs.Cast ty e
  expr_step (IExpr-F.InstanceOf e ty) = exprs.InstanceOf e ty

  abbrev pub argument_step : Argument-F IExpr Argument → Argument
  argument_step argument = record { param = argument.param; value = argument.value }

  abbrev pub tidy_expr : IExpr → IExpr
  tidy_expr = fold-IExpr IExpr Argument expr_step argument_step

  abbrev pub tidy_argument : Argument → Argument
  tidy_argument = fold-Argument IExpr Argument expr_step argument_step

  abbrev pub tidy_declarator : IDeclarator → IDeclarator
  tidy_declarator declarator = record { name = declarator.name; init = option_map tidy_expr declarator.init }

  abbrev pub tidy_let : ILet → ILet
  tidy_let declared = record { is_final = declared.is_final; ty = declared.ty; names = map tidy_declarator declared.names }

  abbrev pub tidy_start : IForStart → IForStart
  tidy_start starts.None = starts.None
  tidy_start (starts.Let declared) = starts.Let (tidy_let declared)
  tidy_start (starts.Do es) = starts.Do (map tidy_expr es)

  abbrev pub else_step : IElse-F IElse IStmtNode IBlock IIf IStmt → IElse
  else_step IElse-F.None = elses.None
  else_step (IElse-F.IElse::Block block) = elses.Block block
  else_step (IElse-F.IElse::If branch) = elses.If branch

  abbrev pub node_step : IStmtNode-F IElse IStmtNode IBlock IIf IStmt → IStmtNode
  node_step (IStmtNode-F.IStmtNode::Block block) = nodes.Block block
  node_step (IStmtNode-F.Let declared) = nodes.Let (tidy_let declared)
  node_step (IStmtNode-F.Do e) = nodes.Do (tidy_expr e)
  node_step (IStmtNode-F.IStmtNode::If branch) = nodes.If branch
  node_step (IStmtNode-F.While test block) = nodes.While (tidy_expr test) block
  node_step (IStmtNode-F.For start test steps block) = nodes.For (tidy_start start) (option_map tidy_expr test) (map tidy_expr steps) block
  node_step (IStmtNode-F.Each is_final ty name e block) = nodes.Each is_final ty name (tidy_expr e) block
  node_step (IStmtNode-F.Return e) = nodes.Return (option_map tidy_expr e)
  node_step (IStmtNode-F.Throw e) = nodes.Throw (tidy_expr e)
  node_step IStmtNode-F.Break = nodes.Break
  node_step IStmtNode-F.Continue = nodes.Continue
  node_step IStmtNode-F.Empty = nodes.Empty
  node_step (IStmtNode-F.Super constructor args) = nodes.Super constructor (arguments_for (present constructor) (map tidy_argument args))
  node_step (IStmtNode-F.SuperDefault class) = nodes.SuperDefault class
  node_step (IStmtNode-F.SuperOutside args) = nodes.SuperOutside (map tidy_expr args)

  abbrev pub block_step : IBlock-F IElse IStmtNode IBlock IIf IStmt → IBlock
  block_step block = block_of block.items block.tail

  abbrev pub if_step : IIf-F IElse IStmtNode IBlock IIf IStmt → IIf
  if_step branch = branch_of (tidy_expr branch.test) branch.then branch.rest

  abbrev pub statement_step : IStmt-F IElse IStmtNode IBlock IIf IStmt → IStmt
  statement_step statement = record { notes = statement.notes; node = statement.node }

  abbrev pub tidy_else : IElse → IElse
  tidy_else = fold-IElse IElse IStmtNode IBlock IIf IStmt else_step node_step block_step if_step statement_step

  abbrev pub tidy_node : IStmtNode → IStmtNode
  tidy_node = fold-IStmtNode IElse IStmtNode IBlock IIf IStmt else_step node_step block_step if_step statement_step

  abbrev pub tidy_block : IBlock → IBlock
  tidy_block = fold-IBlock IElse IStmtNode IBlock IIf IStmt else_step node_step block_step if_step statement_step

  abbrev pub tidy_if : IIf → IIf
  tidy_if = fold-IIf IElse IStmtNode IBlock IIf IStmt else_step node_step block_step if_step statement_step

  abbrev pub tidy_statement : IStmt → IStmt
  tidy_statement = fold-IStmt IElse IStmtNode IBlock IIf IStmt else_step node_step block_step if_step statement_step

  abbrev pub tidy_body : IBody → IBody
  tidy_body body = record { block = tidy_block body.block }

  abbrev pub tidy_value : Value → Value
  tidy_value (values.Body body) = values.Body (option_map tidy_body body)
  tidy_value (values.Value ty init) = values.Value ty (option_map tidy_expr init)
  tidy_value value = value

-- ---- the two functions of a program

abbrev pub is_constructor : Option Known → Bool
is_constructor (Some (knowns.Method Constructor)) = true
is_constructor other = false

-- this is a living declaration of the method, in the class
abbrev pub is_living_decl_in : Program → Id → Id → Id × Known → Bool
is_living_decl_in program class method entry =
    is_decl_of method entry.1 && living_at program entry.0 && option_map_or (same_id class) (owner_at program entry.0) false

-- this is a constructor without parameters
abbrev pub is_plain : Program → Id → Bool
is_plain program id = is_constructor (get program.known id) && is_empty (params_at program id)

-- this is a living constructor of the class, without parameters
abbrev pub is_bare : Program → Id → Id → Bool
is_bare program class id = is_plain program id && list_any (is_living_decl_in program class id) (entries program.known)

-- the least one, if there is one
abbrev pub bare_constructor : Program → Id → Option Id
bare_constructor program class = find (is_bare program class) (keys program.known)

-- ---- programs

-- a value, tidied in a program
abbrev pub tidied : Program → Value → Value
tidied program value = tidy_value (params_at program) (bare_constructor program) value

abbrev pub tidy_entry : Program → Cell × Value → Cell × Value
tidy_entry program entry = (entry.0, tidied program entry.1)

-- a program with each value tidied
abbrev pub tidy : Program → Program
tidy program = record { cells = from_entries (map (tidy_entry program) (entries program.cells)); known = program.known }

-- what a value refers to in a program: what its tidied form mentions
abbrev pub references : Program → Value → List Mention
references program value = mentions (tidied program value)
