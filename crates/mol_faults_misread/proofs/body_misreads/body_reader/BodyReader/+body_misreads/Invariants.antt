-- Each call goes to a lower part, or to a function of a lower rank over the same ones.
use Rattle.std.proofs.Common.{◌+◌, ◌*◌, map, take}
use denote.Param.Weighed.{most}
use Rattle.mol_spell_places.specs.body_locals.Kept.{locals_of}
use Rattle.mol_spell_places.specs.body_places.Statements.{stmt_spelling}
use Rattle.mol_faults_misread.proofs.body_misreads.body_reader.BodyReader.+body_misreads.Given as goal
use Rattle.mol_faults_misread.specs.body_misreads.NotedOn.{NotedOn}
use Rattle.mol_spell_rules.specs.SpelledStatements.{each}
use Rattle.mol_values_types.proofs.iblock.IBlock.TheLaws.{the_size as block_size}
use Rattle.mol_values_types.proofs.iblock.IElse.TheLaws.{the_size as else_size}
use Rattle.mol_values_types.proofs.iblock.IIf.TheLaws.{the_size as if_size}
use Rattle.mol_values_types.proofs.iblock.IStmt.TheLaws.{the_size as stmt_size}
use Rattle.mol_values_types.proofs.iblock.IStmtNode.TheLaws.{the_size as node_size}
use Rattle.mol_values_types.specs.declared.iblock.IStmt.{IStmt}

abbrev pub decreases-note_block : goal.decreases-note_block
decreases-note_block g l = 4 * block_size l.block.now

abbrev pub decreases-note_statements : goal.decreases-note_statements
decreases-note_statements g l = 4 * most {X = IStmt} (λ s. stmt_size s) l.items.now + 1

abbrev pub decreases-note_node : goal.decreases-note_node
decreases-note_node g l = 4 * node_size l.node.now

abbrev pub decreases-note_if : goal.decreases-note_if
decreases-note_if g l = 4 * if_size l.branch.now

abbrev pub decreases-note_tested : goal.decreases-note_tested
decreases-note_tested g l = 4 * block_size l.block.now + 1

abbrev pub decreases-note_else : goal.decreases-note_else
decreases-note_else g l = 4 * else_size l.rest.now

abbrev pub decreases-note_for : goal.decreases-note_for
decreases-note_for g l = 4 * block_size l.body.now + 3

abbrev pub decreases-note_for_parts : goal.decreases-note_for_parts
decreases-note_for_parts g l = 4 * block_size l.body.now + 2

abbrev pub decreases-note_for_rest : goal.decreases-note_for_rest
decreases-note_for_rest g l = 4 * block_size l.body.now + 1

abbrev pub decreases-note_each : goal.decreases-note_each
decreases-note_each g l = 4 * block_size l.body.now + 2

abbrev pub decreases-note_each_body : goal.decreases-note_each_body
decreases-note_each_body g l = 4 * block_size l.body.now + 1

abbrev pub invariant-note_statements-loop-item : goal.invariant-note_statements-loop-item
invariant-note_statements-loop-item g l =
    let writer = g.P.Places.writer l.self.places.now in
    NotedOn writer (each (map (stmt_spelling writer) (take l.item-index l.items))) (locals_of l.initial.locals) l.initial.misreads
    (locals_of l.locals) l.misreads
