-- What parts of expressions and bodies mention.
use Rattle.std.specs.Prelude.{List, map}
use Rattle.std.specs.List.{flat_map}
use Rattle.mol_table_rules.specs.Mentions.{Mention, joined, expr_mentions, maybe_mentions, expr_step, argument_step, else_step, node_step, block_step, if_step, statement_step}
use Rattle.mol_values_types.specs.declared.iblock.IDeclarator.{IDeclarator}
use Rattle.mol_values_types.specs.declared.iblock.IElse.{IElse, fold-IElse}
use Rattle.mol_values_types.specs.declared.iblock.IIf.{IIf, fold-IIf}
use Rattle.mol_values_types.specs.declared.iblock.IStmt.{IStmt, fold-IStmt}
use Rattle.mol_values_types.specs.declared.iblock.IStmtNode.{IStmtNode, fold-IStmtNode}
use Rattle.mol_values_types.specs.declared.iexpr.Argument.{Argument, fold-Argument}
use Rattle.mol_values_types.specs.declared.iexpr.IExpr.{IExpr}

-- ---- several, within an expression

abbrev pub argument_mentions : Argument → List Mention
argument_mentions = fold-Argument (List Mention) (List Mention) expr_step argument_step

abbrev pub each_argument : List Argument → List Mention
each_argument arguments = joined (map argument_mentions arguments)

abbrev pub each_expr : List IExpr → List Mention
each_expr es = joined (map expr_mentions es)

-- ---- of a body

abbrev pub names_mentions : List IDeclarator → List Mention
names_mentions names = flat_map (λ (declarator : IDeclarator). maybe_mentions declarator.init) names

abbrev pub else_mentions : IElse → List Mention
else_mentions =
    fold-IElse (List Mention) (List Mention) (List Mention) (List Mention) (List Mention)
    else_step node_step block_step if_step statement_step

abbrev pub node_mentions : IStmtNode → List Mention
node_mentions =
    fold-IStmtNode (List Mention) (List Mention) (List Mention) (List Mention) (List Mention)
    else_step node_step block_step if_step statement_step

abbrev pub if_mentions : IIf → List Mention
if_mentions =
    fold-IIf (List Mention) (List Mention) (List Mention) (List Mention) (List Mention)
    else_step node_step block_step if_step statement_step

abbrev pub statement_mentions : IStmt → List Mention
statement_mentions =
    fold-IStmt (List Mention) (List Mention) (List Mention) (List Mention) (List Mention)
    else_step node_step block_step if_step statement_step

abbrev pub statements_mentions : List IStmt → List Mention
statements_mentions items = joined (map statement_mentions items)
