-- Each call goes to a lower part, or to a function of a lower rank over the same ones.
use Rattle.std.proofs.Common.{◌+◌, ◌*◌, map, take}
use denote.Param.Weighed.{most}
use Rattle.mol_spell_places.specs.body_locals.Kept.{locals_of}
use Rattle.mol_spell_places.specs.body_places.Statements.{stmt_spelling}
use Rattle.mol_spell_uses.proofs.body_uses.body_uses.BodyUses.+body_uses.Given as goal
use Rattle.mol_spell_uses.specs.body_uses.UsesOn.{UsesOn}
use Rattle.mol_spell_rules.specs.SpelledStatements.{each}
use Rattle.mol_values_types.proofs.iblock.IBlock.TheLaws.{the_size as block_size}
use Rattle.mol_values_types.proofs.iblock.IElse.TheLaws.{the_size as else_size}
use Rattle.mol_values_types.proofs.iblock.IIf.TheLaws.{the_size as if_size}
use Rattle.mol_values_types.proofs.iblock.IStmt.TheLaws.{the_size as stmt_size}
use Rattle.mol_values_types.proofs.iblock.IStmtNode.TheLaws.{the_size as node_size}
use Rattle.mol_values_types.specs.declared.iblock.IStmt.{IStmt}

abbrev pub decreases-add_block : goal.decreases-add_block
decreases-add_block g l = 4 * block_size l.block.now

abbrev pub decreases-add_statements : goal.decreases-add_statements
decreases-add_statements g l = 4 * most {X = IStmt} (λ s. stmt_size s) l.items.now + 1

abbrev pub decreases-add_node : goal.decreases-add_node
decreases-add_node g l = 4 * node_size l.node.now

abbrev pub decreases-add_if : goal.decreases-add_if
decreases-add_if g l = 4 * if_size l.branch.now

abbrev pub decreases-add_tested : goal.decreases-add_tested
decreases-add_tested g l = 4 * block_size l.block.now + 1

abbrev pub decreases-add_else : goal.decreases-add_else
decreases-add_else g l = 4 * else_size l.rest.now

abbrev pub decreases-add_for : goal.decreases-add_for
decreases-add_for g l = 4 * block_size l.body.now + 3

abbrev pub decreases-add_for_parts : goal.decreases-add_for_parts
decreases-add_for_parts g l = 4 * block_size l.body.now + 2

abbrev pub decreases-add_for_rest : goal.decreases-add_for_rest
decreases-add_for_rest g l = 4 * block_size l.body.now + 1

abbrev pub decreases-add_each : goal.decreases-add_each
decreases-add_each g l = 4 * block_size l.body.now + 2

abbrev pub decreases-add_each_body : goal.decreases-add_each_body
decreases-add_each_body g l = 4 * block_size l.body.now + 1

abbrev pub invariant-add_statements-loop-item : goal.invariant-add_statements-loop-item
invariant-add_statements-loop-item g l =
    UsesOn (each (map (stmt_spelling (g.P.Places.writer l.self.places.now)) (take l.item-index l.items))) (locals_of l.initial.locals)
    l.initial.uses (locals_of l.locals) l.uses
