-- Each call goes to a lower part, or to a function of a lower rank over the same ones.
use Rattle.std.proofs.Common.{◌≡◌, ◌+◌, ◌*◌, ◌++◌, drop}
use denote.Param.Weighed.{most}
use Rattle.mol_faults_mentions.specs.mentions.Parts.{statements_mentions}
use Rattle.mol_faults_mentions.proofs.mentions.body.+statement.Given as goal
use Rattle.mol_values_types.proofs.iblock.IBlock.TheLaws.{the_size as block_size}
use Rattle.mol_values_types.proofs.iblock.IElse.TheLaws.{the_size as else_size}
use Rattle.mol_values_types.proofs.iblock.IIf.TheLaws.{the_size as if_size}
use Rattle.mol_values_types.proofs.iblock.IStmt.TheLaws.{the_size as statement_size}
use Rattle.mol_values_types.proofs.iblock.IStmtNode.TheLaws.{the_size as node_size}
use Rattle.mol_values_types.specs.declared.iblock.IStmt.{IStmt}

abbrev pub decreases-add_block : goal.decreases-add_block
decreases-add_block l = 4 * block_size l.block.now

abbrev pub decreases-add_statements : goal.decreases-add_statements
decreases-add_statements l = 4 * most {X = IStmt} (λ statement. statement_size statement) l.items.now + 1

abbrev pub decreases-add_statement : goal.decreases-add_statement
decreases-add_statement l = 4 * statement_size l.statement.now

abbrev pub decreases-add_node : goal.decreases-add_node
decreases-add_node l = 4 * node_size l.node.now

abbrev pub decreases-add_tested_block : goal.decreases-add_tested_block
decreases-add_tested_block l = 4 * block_size l.block.now + 1

abbrev pub decreases-add_for : goal.decreases-add_for
decreases-add_for l = 4 * block_size l.block.now + 1

abbrev pub decreases-add_each : goal.decreases-add_each
decreases-add_each l = 4 * block_size l.block.now + 1

abbrev pub decreases-add_if : goal.decreases-add_if
decreases-add_if l = 4 * if_size l.branch.now

abbrev pub decreases-add_else : goal.decreases-add_else
decreases-add_else l = 4 * else_size l.rest.now

abbrev pub invariant-add_statements-loop-item : goal.invariant-add_statements-loop-item
invariant-add_statements-loop-item l =
    l.mentions ++ statements_mentions (drop l.item-index l.items) ≡ l.initial.mentions ++ statements_mentions l.items
