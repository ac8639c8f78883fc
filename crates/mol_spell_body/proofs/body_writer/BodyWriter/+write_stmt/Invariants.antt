-- Each call goes to a lower part, or to a function of a lower rank over the same ones.
use Rattle.std.proofs.Common.{◌+◌, ◌*◌, map, max, take}
use denote.Param.Weighed.{most}
use Rattle.mol_spell_body.proofs.body_writer.BodyWriter.+write_stmt.Given as goal
use Rattle.mol_spell_body.specs.GoesOn.{GoesOn}
use Rattle.mol_spell_places.specs.body_places.Statements.{stmt_spelling}
use Rattle.mol_spell_places.specs.body_locals.Kept.{locals_of}
use Rattle.mol_spell_rules.specs.SpelledStatements.{each}
use Rattle.mol_values_types.proofs.iblock.IBlock.TheLaws.{the_size as block_size}
use Rattle.mol_values_types.proofs.iblock.IElse.TheLaws.{the_size as else_size}
use Rattle.mol_values_types.proofs.iblock.IIf.TheLaws.{the_size as if_size}
use Rattle.mol_values_types.proofs.iblock.IStmt.TheLaws.{the_size as stmt_size}
use Rattle.mol_values_types.proofs.iblock.IStmtNode.TheLaws.{the_size as node_size}
use Rattle.mol_values_types.specs.declared.iblock.IStmt.{IStmt}

abbrev pub decreases-block : goal.decreases-block
decreases-block g l = 4 * block_size l.block.now

abbrev pub decreases-statements : goal.decreases-statements
decreases-statements g l = 4 * most {X = IStmt} (λ s. stmt_size s) l.items.now + 1

abbrev pub decreases-statement : goal.decreases-statement
decreases-statement g l = 4 * stmt_size l.statement.now

abbrev pub decreases-node : goal.decreases-node
decreases-node g l = 4 * node_size l.node.now

abbrev pub decreases-branches : goal.decreases-branches
decreases-branches g l = 4 * if_size l.branch.now

abbrev pub decreases-inner : goal.decreases-inner
decreases-inner g l = 4 * max (block_size l.then.now) (else_size l.rest.now) + 1

abbrev pub decreases-else_part : goal.decreases-else_part
decreases-else_part g l = 4 * else_size l.rest.now

abbrev pub decreases-looping : goal.decreases-looping
decreases-looping g l = 4 * block_size l.body.now + 1

abbrev pub invariant-statements-loop-item : goal.invariant-statements-loop-item
invariant-statements-loop-item g l =
    GoesOn (each (map (stmt_spelling (g.P.Places.writer l.self.places.now)) (take l.item-index l.items))) l.trees
    (locals_of l.initial.locals) (locals_of l.locals)
