-- The words of a body.
use Rattle.std.specs.Prelude.{true, false, List, [], ◌∷◌, ◌++◌, codes, length, map, Option, Some, None}
use Rattle.mol_base.specs.Identity.{spelled_id}
use Rattle.mol_values_types.specs.declared.iblock.IBlock.{IBlock, fold-IBlock}
use Rattle.mol_values_types.specs.declared.iblock.IBody.{IBody}
use Rattle.mol_values_types.specs.declared.iblock.IDeclarator.{IDeclarator}
use Rattle.mol_values_types.specs.declared.iblock.IElse.{IElse, fold-IElse}
use Rattle.mol_values_types.specs.declared.iblock.IElse.TheOpen.{IElse-F, IStmtNode-F, IBlock-F, IIf-F, IStmt-F}
use Rattle.mol_values_types.specs.declared.iblock.IForStart.{IForStart}
use Rattle.mol_values_types.specs.declared.iblock.IForStart.TheVariants as starts
use Rattle.mol_values_types.specs.declared.iblock.IIf.{IIf, fold-IIf}
use Rattle.mol_values_types.specs.declared.iblock.ILet.{ILet}
use Rattle.mol_values_types.specs.declared.iblock.IStmt.{IStmt, fold-IStmt}
use Rattle.mol_values_types.specs.declared.iblock.IStmtNode.{IStmtNode, fold-IStmtNode}
use Rattle.mol_values_types.specs.declared.iexpr.IExpr.{IExpr}
use Rattle.mol_log_words.specs.Words.{numeral}
use Rattle.mol_log_words.specs.TypeWords.{type_words}
use Rattle.mol_log_expr.specs.ExpressionWords.{Ws, counted, expr_words, argument_words}
use Rattle.mol_log_body.specs.StatementHeads.{choice_spelled}
use Rattle.mol_log_body.specs.Bodies.{noted}
use Rattle.mol_log_body.specs.declared.stmt_head.Choice.{Choice}
use Rattle.mol_log_body.specs.declared.stmt_head.Choice.TheVariants as choice

abbrev pub maybe_words : Choice → Option IExpr → Ws
maybe_words choice None = choice_spelled choice false ∷ []
maybe_words choice (Some e) = choice_spelled choice true ∷ expr_words e

abbrev pub exprs_words : List IExpr → Ws
exprs_words es = counted (map expr_words es)

abbrev pub declarator_words : IDeclarator → Ws
declarator_words declarator = declarator.name ∷ maybe_words choice.Init declarator.init

abbrev pub let_words : ILet → Ws
let_words declared =
    choice_spelled choice.Final declared.is_final ∷ (type_words declared.ty ++ counted (map declarator_words declared.names))

abbrev pub start_words : IForStart → Ws
start_words starts.None = codes "none" ∷ []
start_words (starts.Let declared) = codes "let" ∷ let_words declared
start_words (starts.Do es) = codes "do" ∷ exprs_words es

abbrev pub else_step : IElse-F Ws Ws Ws Ws Ws → Ws
else_step IElse-F.None = codes "none" ∷ []
else_step (IElse-F.IElse::Block block) = codes "else" ∷ block
else_step (IElse-F.IElse::If branch) = codes "elif" ∷ branch

abbrev pub node_step : IStmtNode-F Ws Ws Ws Ws Ws → Ws
node_step (IStmtNode-F.IStmtNode::Block block) = block
node_step (IStmtNode-F.Let declared) = codes "let" ∷ let_words declared
node_step (IStmtNode-F.Do e) = codes "do" ∷ expr_words e
node_step (IStmtNode-F.IStmtNode::If branch) = codes "if" ∷ branch
node_step (IStmtNode-F.While test block) = codes "while" ∷ (expr_words test ++ block)
node_step (IStmtNode-F.For start test steps block) =
    codes "for" ∷ (start_words start ++ (maybe_words choice.Some test ++ (exprs_words steps ++ block)))
node_step (IStmtNode-F.Each is_final ty name e block) =
    codes "each" ∷ choice_spelled choice.Final is_final ∷ (type_words ty ++ name ∷ (expr_words e ++ block))
node_step (IStmtNode-F.Return e) = codes "return" ∷ maybe_words choice.Some e
node_step (IStmtNode-F.Throw e) = codes "throw" ∷ expr_words e
node_step IStmtNode-F.Break = codes "break" ∷ []
node_step IStmtNode-F.Continue = codes "continue" ∷ []
node_step IStmtNode-F.Empty = codes "empty" ∷ []
node_step (IStmtNode-F.Super id args) = codes "superc" ∷ spelled_id id ∷ counted (map argument_words args)
node_step (IStmtNode-F.SuperDefault id) = codes "superd" ∷ spelled_id id ∷ []
node_step (IStmtNode-F.SuperOutside args) = codes "superout" ∷ exprs_words args

abbrev pub block_step : IBlock-F Ws Ws Ws Ws Ws → Ws
block_step block = codes "block" ∷ (counted block.items ++ numeral (length block.tail) ∷ block.tail)

abbrev pub if_step : IIf-F Ws Ws Ws Ws Ws → Ws
if_step branch = expr_words branch.test ++ (branch.then ++ branch.rest)

abbrev pub statement_step : IStmt-F Ws Ws Ws Ws Ws → Ws
statement_step statement = noted statement.notes statement.node

abbrev pub else_words : IElse → Ws
else_words = fold-IElse Ws Ws Ws Ws Ws else_step node_step block_step if_step statement_step

abbrev pub node_words : IStmtNode → Ws
node_words = fold-IStmtNode Ws Ws Ws Ws Ws else_step node_step block_step if_step statement_step

abbrev pub block_words : IBlock → Ws
block_words = fold-IBlock Ws Ws Ws Ws Ws else_step node_step block_step if_step statement_step

abbrev pub if_words : IIf → Ws
if_words = fold-IIf Ws Ws Ws Ws Ws else_step node_step block_step if_step statement_step

abbrev pub statement_words : IStmt → Ws
statement_words = fold-IStmt Ws Ws Ws Ws Ws else_step node_step block_step if_step statement_step

abbrev pub body_words : IBody → Ws
body_words body = block_words body.block
