-- Each call goes to a lower part, or to a function of a lower rank over the same ones.
use Rattle.std.proofs.Common.{◌≡◌, ◌+◌, ◌*◌, drop, take, length}
use denote.Param.Weighed.{most}
use Rattle.mol_faults_values.specs.local_faults.PartScopes.{statements_scopes}
use Rattle.mol_faults_values.proofs.local_faults.body.+declared.Given as goal
use Rattle.mol_spell_rules.specs.LocalClashes.{then_next}
use Rattle.mol_values_types.proofs.iblock.IBlock.TheLaws.{the_size as block_size}
use Rattle.mol_values_types.proofs.iblock.IElse.TheLaws.{the_size as else_size}
use Rattle.mol_values_types.proofs.iblock.IIf.TheLaws.{the_size as if_size}
use Rattle.mol_values_types.proofs.iblock.IStmt.TheLaws.{the_size as statement_size}
use Rattle.mol_values_types.proofs.iblock.IStmtNode.TheLaws.{the_size as node_size}
use Rattle.mol_values_types.specs.declared.iblock.IStmt.{IStmt}

abbrev pub decreases-declare_block : goal.decreases-declare_block
decreases-declare_block l = 4 * block_size l.block.now

abbrev pub decreases-declare_statements : goal.decreases-declare_statements
decreases-declare_statements l = 4 * most {X = IStmt} (λ statement. statement_size statement) l.items.now + 1

abbrev pub decreases-declare_statement : goal.decreases-declare_statement
decreases-declare_statement l = 4 * statement_size l.statement.now

abbrev pub decreases-declare_node : goal.decreases-declare_node
decreases-declare_node l = 4 * node_size l.node.now

abbrev pub decreases-declare_for : goal.decreases-declare_for
decreases-declare_for l = 4 * block_size l.block.now + 1

abbrev pub decreases-declare_each : goal.decreases-declare_each
decreases-declare_each l = 4 * block_size l.block.now + 1

abbrev pub decreases-declare_if : goal.decreases-declare_if
decreases-declare_if l = 4 * if_size l.branch.now

abbrev pub decreases-declare_else : goal.decreases-declare_else
decreases-declare_else l = 4 * else_size l.rest.now

abbrev pub invariant-declare_statements-loop-statement : goal.invariant-declare_statements-loop-statement
invariant-declare_statements-loop-statement l = record {
  scope : then_next l.scope (statements_scopes (drop l.statement-index l.items)) ≡ then_next l.initial.scope (statements_scopes l.items);
  kept : take (length l.initial.scope.in_scope) l.scope.in_scope ≡ l.initial.scope.in_scope;
}
