-- What parts of a body mention.
use Rattle.std.specs.Prelude.{List, map}
use Rattle.std.specs.List.{flat_map}
use Rattle.mol_table_rules.specs.Mentions.{Mention, joined, maybe_mentions, else_step, node_step, block_step, if_step, statement_step}
use Rattle.mol_values_types.specs.declared.iblock.IDeclarator.{IDeclarator}
use Rattle.mol_values_types.specs.declared.iblock.IElse.{IElse, fold-IElse}
use Rattle.mol_values_types.specs.declared.iblock.IIf.{IIf, fold-IIf}
use Rattle.mol_values_types.specs.declared.iblock.IStmt.{IStmt, fold-IStmt}
use Rattle.mol_values_types.specs.declared.iblock.IStmtNode.{IStmtNode, fold-IStmtNode}

abbrev pub names_mentions : List IDeclarator → List Mention
names_mentions names = flat_map (λ (declarator : IDeclarator). maybe_mentions declarator.init) names

abbrev pub else_mentions : IElse → List Mention
else_mentions =
    fold-IElse (List Mention) (List Mention) (List Mention) (List Mention) (List Mention)
    else_step node_step block_step if_step statement_step

abbrev pub node_mentions : IStmtNode → List Mention
node_mentions =
    fold-IStmtNode (List Mention) (List Mention) (List Mention) (List Mention) (List Mention)
    else_step node_step block_step if_step statement_step

abbrev pub if_mentions : IIf → List Mention
if_mentions =
    fold-IIf (List Mention) (List Mention) (List Mention) (List Mention) (List Mention)
    else_step node_step block_step if_step statement_step

abbrev pub statement_mentions : IStmt → List Mention
statement_mentions =
    fold-IStmt (List Mention) (List Mention) (List Mention) (List Mention) (List Mention)
    else_step node_step block_step if_step statement_step

abbrev pub statements_mentions : List IStmt → List Mention
statements_mentions items = joined (map statement_mentions items)
