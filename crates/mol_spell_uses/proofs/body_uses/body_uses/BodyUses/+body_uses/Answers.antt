-- What each part uses, put together as the definitions do it.
use Rattle.std.proofs.lemmas.Result.{on_ok_weaker}
use Rattle.mol_spell_places.specs.body_locals.Kept.{locals_of}
use Rattle.mol_spell_places.specs.body_places.Statements.{stmt_spelling}
use Rattle.mol_spell_uses.proofs.body_uses_lemmas.InTurn.{block_ends, each_more, each_none, each_whole, none_declared, then_on}
use Rattle.mol_spell_uses.proofs.body_uses_lemmas.LoopUses.{each-body-goes, each-goes, for-rest-goes}
use Rattle.mol_spell_uses.proofs.body_uses_lemmas.Marks.{scope_back}
use Rattle.mol_spell_uses.proofs.body_uses_lemmas.StatementUses as nodes
use Rattle.mol_spell_uses.proofs.body_uses.body_uses.BodyUses.+body_uses.Goals as goal
use Rattle.mol_spell_uses.specs.body_uses.Loops.{for_parts, for_rest}
use Rattle.mol_spell_rules.specs.SpelledStatements.{one_expr, spelled_block, spelled_start}
use Rattle.std.proofs.Common.{refl}

-- # Blocks

pub add_block-returns : goal.add_block-returns
add_block-returns g t c =
    nodes.block-goes (g.P.Places.writer c.args.self.now.places.now) (locals_of c.args.locals.now) c.args.uses.now c.args.block.now _ _ _ _
    c.items.ensures c.in_ok-add_statements.ensures (scope_back c.args.locals.now _ _ _ c.mark-mark.ensures c.end_block.ensures)

pub add_statements-loop-item-init : goal.add_statements-loop-item-init
add_statements-loop-item-init g t c =
    each_none (stmt_spelling (g.P.Places.writer c.args.self.now.places.now)) (locals_of c.args.locals.now) c.args.uses.now

pub add_statements-loop-item-preserved : goal.add_statements-loop-item-preserved
add_statements-loop-item-preserved g t c =
    let writer = g.P.Places.writer c.args.self.now.places.now in
    each_more (stmt_spelling writer) c.args.items.now c.loop-item.item-index c.item-item.result _ _ _ _ _ _ c.loop-item-test.true
    c.item-item.is c.loop-item.invariant
    (nodes.statement-goes writer _ _ c.item-item.result _ _ c.in_ok-add_node.ensures)

pub add_statements-returns : goal.add_statements-returns
add_statements-returns g t c =
    each_whole (stmt_spelling (g.P.Places.writer c.args.self.now.places.now)) c.args.items.now c.loop-item.item-index _ _ _ _
    c.loop-item-test.false c.loop-item.invariant

-- # Each kind of statement

pub add_node-returns-in-Block : goal.add_node-returns-in-Block
add_node-returns-in-Block g t c =
    on_ok_weaker c.add_block.result (nodes.at-Block (g.P.Places.writer c.args.self.now.places.now) c.args.node.now
    (locals_of c.args.locals.now) c.args.uses.now _ _ _ c.in-Block.is) c.add_block.ensures

pub add_node-returns-in-Let : goal.add_node-returns-in-Let
add_node-returns-in-Let g t c =
    on_ok_weaker c.add_let.result (nodes.at-Let (g.P.Places.writer c.args.self.now.places.now) c.args.node.now
    (locals_of c.args.locals.now) c.args.uses.now _ _ _ c.in-Let.is) c.add_let.ensures

pub add_node-returns-in-Do : goal.add_node-returns-in-Do
add_node-returns-in-Do g t c =
    on_ok_weaker c.add_expr.result (nodes.at-Do (g.P.Places.writer c.args.self.now.places.now) c.args.node.now
    (locals_of c.args.locals.now) c.args.uses.now _ _ c.in-Do.is) c.add_expr.ensures

pub add_node-returns-in-If : goal.add_node-returns-in-If
add_node-returns-in-If g t c =
    on_ok_weaker c.add_if.result (nodes.at-If (g.P.Places.writer c.args.self.now.places.now) c.args.node.now
    (locals_of c.args.locals.now) c.args.uses.now _ _ _ c.in-If.is) c.add_if.ensures

pub add_node-returns-in-While : goal.add_node-returns-in-While
add_node-returns-in-While g t c =
    on_ok_weaker c.add_tested.result (nodes.at-While (g.P.Places.writer c.args.self.now.places.now) c.args.node.now
    (locals_of c.args.locals.now) c.args.uses.now _ _ _ _ c.in-While.is) c.add_tested.ensures

pub add_node-returns-in-For : goal.add_node-returns-in-For
add_node-returns-in-For g t c =
    on_ok_weaker c.add_for.result (nodes.at-For (g.P.Places.writer c.args.self.now.places.now) c.args.node.now
    (locals_of c.args.locals.now) c.args.uses.now _ _ _ _ _ _ _ c.in-For.is c.items.ensures) c.add_for.ensures

pub add_node-returns-in-Each : goal.add_node-returns-in-Each
add_node-returns-in-Each g t c =
    on_ok_weaker c.add_each.result (nodes.at-Each (g.P.Places.writer c.args.self.now.places.now) c.args.node.now
    (locals_of c.args.locals.now) c.args.uses.now _ _ _ _ _ _ _ c.in-Each.is) c.add_each.ensures

pub add_node-returns-in-Return : goal.add_node-returns-in-Return
add_node-returns-in-Return g t c =
    on_ok_weaker c.add_maybe.result (nodes.at-Return (g.P.Places.writer c.args.self.now.places.now) c.args.node.now
    (locals_of c.args.locals.now) c.args.uses.now _ _ c.in-Return.is) c.add_maybe.ensures

pub add_node-returns-in-Throw : goal.add_node-returns-in-Throw
add_node-returns-in-Throw g t c =
    on_ok_weaker c.add_expr-in-Throw.result (nodes.at-Throw (g.P.Places.writer c.args.self.now.places.now) c.args.node.now
    (locals_of c.args.locals.now) c.args.uses.now _ _ c.in-Throw.is) c.add_expr-in-Throw.ensures

pub add_node-returns-in-Break : goal.add_node-returns-in-Break
add_node-returns-in-Break g t c =
    nodes.at-Break (g.P.Places.writer c.args.self.now.places.now) c.args.node.now (locals_of c.args.locals.now) c.args.uses.now
    c.in-Break.is

pub add_node-returns-in-Continue : goal.add_node-returns-in-Continue
add_node-returns-in-Continue g t c =
    nodes.at-Continue (g.P.Places.writer c.args.self.now.places.now) c.args.node.now (locals_of c.args.locals.now) c.args.uses.now
    c.in-Continue.is

pub add_node-returns-in-Empty : goal.add_node-returns-in-Empty
add_node-returns-in-Empty g t c =
    nodes.at-Empty (g.P.Places.writer c.args.self.now.places.now) c.args.node.now (locals_of c.args.locals.now) c.args.uses.now
    c.in-Empty.is

pub add_node-returns-in-Super : goal.add_node-returns-in-Super
add_node-returns-in-Super g t c =
    on_ok_weaker c.add_arguments.result (nodes.at-Super (g.P.Places.writer c.args.self.now.places.now) c.args.node.now
    (locals_of c.args.locals.now) c.args.uses.now _ _ _ _ c.in-Super.is c.items-in-Super.ensures) c.add_arguments.ensures

pub add_node-returns-in-SuperDefault : goal.add_node-returns-in-SuperDefault
add_node-returns-in-SuperDefault g t c =
    nodes.at-SuperDefault (g.P.Places.writer c.args.self.now.places.now) c.args.node.now (locals_of c.args.locals.now) c.args.uses.now _
    c.in-SuperDefault.is

pub add_node-returns-in-SuperOutside : goal.add_node-returns-in-SuperOutside
add_node-returns-in-SuperOutside g t c =
    on_ok_weaker c.add_all.result (nodes.at-SuperOutside (g.P.Places.writer c.args.self.now.places.now) c.args.node.now
    (locals_of c.args.locals.now) c.args.uses.now _ _ _ c.in-SuperOutside.is c.items-in-SuperOutside.ensures) c.add_all.ensures

-- # Branches

pub add_if-returns : goal.add_if-returns
add_if-returns g t c =
    on_ok_weaker c.add_else.result (nodes.if-goes (g.P.Places.writer c.args.self.now.places.now) (locals_of c.args.locals.now)
    c.args.uses.now c.args.branch.now _ _ _ _ c.in_ok-add_tested.ensures) c.add_else.ensures

pub add_tested-returns : goal.add_tested-returns
add_tested-returns g t c =
    let writer = g.P.Places.writer c.args.self.now.places.now in
    let locals = locals_of c.args.locals.now in
    on_ok_weaker c.add_block.result (then_on (one_expr writer c.args.test.now) (spelled_block writer c.args.block.now) locals locals _
    c.args.uses.now _ _
    (none_declared (one_expr writer c.args.test.now) locals c.args.uses.now _ refl c.in_ok-add_expr.ensures)) c.add_block.ensures

pub add_else-returns-in-None : goal.add_else-returns-in-None
add_else-returns-in-None g t c =
    nodes.no-else (g.P.Places.writer c.args.self.now.places.now) (locals_of c.args.locals.now) c.args.uses.now c.args.rest.now c.in-None.is

pub add_else-returns-in-Block : goal.add_else-returns-in-Block
add_else-returns-in-Block g t c =
    on_ok_weaker c.add_block.result (nodes.else-of-block (g.P.Places.writer c.args.self.now.places.now) (locals_of c.args.locals.now)
    c.args.uses.now c.args.rest.now _ _ _ c.in-Block.is) c.add_block.ensures

pub add_else-returns-in-If : goal.add_else-returns-in-If
add_else-returns-in-If g t c =
    on_ok_weaker c.add_if.result (nodes.else-of-if (g.P.Places.writer c.args.self.now.places.now) (locals_of c.args.locals.now)
    c.args.uses.now c.args.rest.now _ _ _ _ c.in-If.is c.get.ensures) c.add_if.ensures

-- # Loops

pub add_for-returns : goal.add_for-returns
add_for-returns g t c =
    block_ends (for_parts (g.P.Places.writer c.args.self.now.places.now) c.args.start.now c.args.test.now c.args.steps.now c.args.body.now)
    (locals_of c.args.locals.now) c.args.uses.now _ _ _ c.in_ok-add_for_parts.ensures
    (scope_back c.args.locals.now _ _ _ c.mark-mark.ensures c.end_block.ensures)

pub add_for_parts-returns : goal.add_for_parts-returns
add_for_parts-returns g t c =
    let writer = g.P.Places.writer c.args.self.now.places.now in
    on_ok_weaker c.add_for_rest.result (then_on (spelled_start writer c.args.start.now)
    (for_rest writer c.args.test.now c.args.steps.now c.args.body.now) (locals_of c.args.locals.now) _ _ c.args.uses.now _ _
    c.in_ok-add_start.ensures) c.add_for_rest.ensures

pub add_for_rest-returns : goal.add_for_rest-returns
add_for_rest-returns g t c =
    on_ok_weaker c.add_block.result (for-rest-goes (g.P.Places.writer c.args.self.now.places.now) (locals_of c.args.locals.now)
    c.args.test.now c.args.steps.now c.args.body.now _ c.args.uses.now _ _ c.in_ok-add_test_and_steps.ensures) c.add_block.ensures

pub add_each-returns : goal.add_each-returns
add_each-returns g t c =
    on_ok_weaker c.add_each_body.result (each-goes (g.P.Places.writer c.args.self.now.places.now) (locals_of c.args.locals.now)
    c.args.ty.now c.args.name.now c.args.e.now c.args.body.now _ c.args.uses.now _ _ c.in_ok-add_typed.ensures) c.add_each_body.ensures

pub add_each_body-returns : goal.add_each_body-returns
add_each_body-returns g t c =
    each-body-goes (g.P.Places.writer c.args.self.now.places.now) (locals_of c.args.locals.now) c.args.ty.now c.args.name.now
    c.args.body.now _ _ _ c.args.uses.now _ c.in_ok-declare.ensures.ok c.in_ok-add_block.ensures
    (scope_back c.args.locals.now _ _ _ c.mark-mark.ensures c.end_block.ensures)
