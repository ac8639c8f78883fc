-- Parts of bodies, by the names that they declare.
use Rattle.std.specs.Prelude.{List, map}
use Rattle.mol_spell_rules.specs.LocalClashes.{Scopes, declaring, each, in_block, then_next, start_scopes, block_scopes, else_step, node_step, block_step, if_step, stmt_step}
use Rattle.jav_names.specs.DottedNames.{Name}
use Rattle.mol_values_types.specs.declared.iblock.IBlock.{IBlock}
use Rattle.mol_values_types.specs.declared.iblock.IDeclarator.{IDeclarator}
use Rattle.mol_values_types.specs.declared.iblock.IElse.{IElse, fold-IElse}
use Rattle.mol_values_types.specs.declared.iblock.IForStart.{IForStart}
use Rattle.mol_values_types.specs.declared.iblock.IIf.{IIf, fold-IIf}
use Rattle.mol_values_types.specs.declared.iblock.IStmt.{IStmt, fold-IStmt}
use Rattle.mol_values_types.specs.declared.iblock.IStmtNode.{IStmtNode, fold-IStmtNode}
use Rattle.mol_values_types.specs.declared.param.Param.{Param}

abbrev pub params_scopes : List Param → Scopes
params_scopes params = each (map (λ (param : Param). declaring param.name) params)

abbrev pub names_scopes : List IDeclarator → Scopes
names_scopes names = each (map (λ (declarator : IDeclarator). declaring declarator.name) names)

abbrev pub else_scopes : IElse → Scopes
else_scopes = fold-IElse Scopes Scopes Scopes Scopes Scopes else_step node_step block_step if_step stmt_step

abbrev pub node_scopes : IStmtNode → Scopes
node_scopes = fold-IStmtNode Scopes Scopes Scopes Scopes Scopes else_step node_step block_step if_step stmt_step

abbrev pub if_scopes : IIf → Scopes
if_scopes = fold-IIf Scopes Scopes Scopes Scopes Scopes else_step node_step block_step if_step stmt_step

abbrev pub statement_scopes : IStmt → Scopes
statement_scopes = fold-IStmt Scopes Scopes Scopes Scopes Scopes else_step node_step block_step if_step stmt_step

abbrev pub statements_scopes : List IStmt → Scopes
statements_scopes items = each (map statement_scopes items)

-- what a `for` declares is in scope up to its end
abbrev pub for_scopes : IForStart → IBlock → Scopes
for_scopes start block names = in_block names (then_next (start_scopes start names) (block_scopes block))

abbrev pub each_scopes : Name → IBlock → Scopes
each_scopes name block names = in_block names (then_next (declaring name names) (block_scopes block))
