-- Each call goes to a lower part of a tree, or to a function of a lower rank over the same part.
use Rattle.std.proofs.Common.{◌+◌, ◌*◌, map, max, take}
use denote.Param.Weighed.{most}
use Rattle.jav_tree.proofs.stmt.Block.TheLaws.{the_size as block_size}
use Rattle.jav_tree.proofs.stmt.Else.TheLaws.{the_size as else_size}
use Rattle.jav_tree.proofs.stmt.Stmt.TheLaws.{the_size as stmt_size}
use Rattle.jav_tree.proofs.stmt.StmtNode.TheLaws.{the_size as node_size}
use Rattle.jav_tree.specs.declared.stmt.Stmt.{Stmt}
use Rattle.mol_resolve_readings.specs.locals.Scoped.{locals_of}
use Rattle.mol_resolve_rules.specs.ReadStatements.{each}
use Rattle.mol_resolve_stmt.proofs.stmt_reader.StmtReader.+read_stmt.Given as goal
use Rattle.mol_resolve_stmt.specs.GoesOn.{GoesOn}
use Rattle.mol_resolve_stmt.specs.Statements.{statement_of}

abbrev pub decreases-block : goal.decreases-block
decreases-block g l = 2 * block_size l.block.now

abbrev pub decreases-statements : goal.decreases-statements
decreases-statements g l = 2 * most {X = Stmt} (λ s. stmt_size s) l.items.now + 1

abbrev pub decreases-statement : goal.decreases-statement
decreases-statement g l = 2 * stmt_size l.statement.now

abbrev pub decreases-node : goal.decreases-node
decreases-node g l = 2 * node_size l.node.now

abbrev pub decreases-looping : goal.decreases-looping
decreases-looping g l = 2 * block_size l.block.now + 1

abbrev pub decreases-branches : goal.decreases-branches
decreases-branches g l = 2 * max (block_size l.block.now) (else_size l.rest.now) + 1

abbrev pub decreases-otherwise : goal.decreases-otherwise
decreases-otherwise g l = 2 * else_size l.rest.now

abbrev pub decreases-else_if : goal.decreases-else_if
decreases-else_if g l = 2 * stmt_size l.statement.now + 1

abbrev pub invariant-statements-loop-item : goal.invariant-statements-loop-item
invariant-statements-loop-item g l =
    GoesOn (each (map (statement_of (g.N.Names.reader l.self.names.now)) (take l.item-index l.items)) (locals_of l.initial.locals)) l.all
    (locals_of l.initial.locals) (locals_of l.locals) l.initial.faults l.faults
