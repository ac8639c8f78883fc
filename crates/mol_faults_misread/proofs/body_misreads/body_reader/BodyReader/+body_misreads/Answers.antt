-- What is noted of each part, put together as the definitions do it.
use Rattle.std.proofs.lemmas.Result.{on_ok_weaker}
use Rattle.mol_spell_places.specs.body_locals.Kept.{locals_of}
use Rattle.mol_spell_places.specs.body_places.Statements.{stmt_spelling}
use Rattle.mol_faults_misread.proofs.body_misreads_lemmas.InTurn.{block_ends, each_more, each_none, each_whole, none_declared, then_on}
use Rattle.mol_faults_misread.proofs.body_misreads_lemmas.Looped.{each-body-goes, each-goes, for-rest-goes}
use Rattle.mol_spell_uses.proofs.body_uses_lemmas.Marks.{scope_back}
use Rattle.mol_faults_misread.proofs.body_misreads_lemmas.StatementNodes as nodes
use Rattle.mol_faults_misread.proofs.body_misreads.body_reader.BodyReader.+body_misreads.Goals as goal
use Rattle.mol_spell_uses.specs.body_uses.Loops.{for_parts, for_rest}
use Rattle.mol_spell_rules.specs.SpelledStatements.{one_expr, spelled_block, spelled_start}
use Rattle.std.proofs.Common.{refl}

-- # Blocks

pub note_block-returns : goal.note_block-returns
note_block-returns g t c =
    let writer = g.P.Places.writer c.args.self.now.places.now in
    nodes.block-goes writer (locals_of c.args.locals.now) c.args.misreads.now c.args.block.now _ _ _ _
    c.items.ensures c.in_ok-note_statements.ensures (scope_back c.args.locals.now _ _ _ c.mark-mark.ensures c.end_block.ensures)

pub note_statements-loop-item-init : goal.note_statements-loop-item-init
note_statements-loop-item-init g t c =
    let writer = g.P.Places.writer c.args.self.now.places.now in
    each_none writer (stmt_spelling writer) (locals_of c.args.locals.now) c.args.misreads.now

pub note_statements-loop-item-preserved : goal.note_statements-loop-item-preserved
note_statements-loop-item-preserved g t c =
    let writer = g.P.Places.writer c.args.self.now.places.now in
    each_more writer (stmt_spelling writer) c.args.items.now c.loop-item.item-index c.item-item.result _ _ _ _ _ _ c.loop-item-test.true
    c.item-item.is c.loop-item.invariant
    (nodes.statement-goes writer _ _ c.item-item.result _ _ c.in_ok-note_node.ensures)

pub note_statements-returns : goal.note_statements-returns
note_statements-returns g t c =
    let writer = g.P.Places.writer c.args.self.now.places.now in
    each_whole writer (stmt_spelling writer) c.args.items.now c.loop-item.item-index _ _ _ _
    c.loop-item-test.false c.loop-item.invariant

-- # Each kind of statement

pub note_node-returns-in-Block : goal.note_node-returns-in-Block
note_node-returns-in-Block g t c =
    let writer = g.P.Places.writer c.args.self.now.places.now in
    on_ok_weaker c.note_block.result (nodes.at-Block writer c.args.node.now
    (locals_of c.args.locals.now) c.args.misreads.now _ _ _ c.in-Block.is) c.note_block.ensures

pub note_node-returns-in-Let : goal.note_node-returns-in-Let
note_node-returns-in-Let g t c =
    let writer = g.P.Places.writer c.args.self.now.places.now in
    on_ok_weaker c.note_let.result (nodes.at-Let writer c.args.node.now
    (locals_of c.args.locals.now) c.args.misreads.now _ _ _ c.in-Let.is) c.note_let.ensures

pub note_node-returns-in-Do : goal.note_node-returns-in-Do
note_node-returns-in-Do g t c =
    let writer = g.P.Places.writer c.args.self.now.places.now in
    on_ok_weaker c.note_expr.result (nodes.at-Do writer c.args.node.now
    (locals_of c.args.locals.now) c.args.misreads.now _ _ c.in-Do.is) c.note_expr.ensures

pub note_node-returns-in-If : goal.note_node-returns-in-If
note_node-returns-in-If g t c =
    let writer = g.P.Places.writer c.args.self.now.places.now in
    on_ok_weaker c.note_if.result (nodes.at-If writer c.args.node.now
    (locals_of c.args.locals.now) c.args.misreads.now _ _ _ c.in-If.is) c.note_if.ensures

pub note_node-returns-in-While : goal.note_node-returns-in-While
note_node-returns-in-While g t c =
    let writer = g.P.Places.writer c.args.self.now.places.now in
    on_ok_weaker c.note_tested.result (nodes.at-While writer c.args.node.now
    (locals_of c.args.locals.now) c.args.misreads.now _ _ _ _ c.in-While.is) c.note_tested.ensures

pub note_node-returns-in-For : goal.note_node-returns-in-For
note_node-returns-in-For g t c =
    let writer = g.P.Places.writer c.args.self.now.places.now in
    on_ok_weaker c.note_for.result (nodes.at-For writer c.args.node.now
    (locals_of c.args.locals.now) c.args.misreads.now _ _ _ _ _ _ _ c.in-For.is c.items.ensures) c.note_for.ensures

pub note_node-returns-in-Each : goal.note_node-returns-in-Each
note_node-returns-in-Each g t c =
    let writer = g.P.Places.writer c.args.self.now.places.now in
    on_ok_weaker c.note_each.result (nodes.at-Each writer c.args.node.now
    (locals_of c.args.locals.now) c.args.misreads.now _ _ _ _ _ _ _ c.in-Each.is) c.note_each.ensures

pub note_node-returns-in-Return : goal.note_node-returns-in-Return
note_node-returns-in-Return g t c =
    let writer = g.P.Places.writer c.args.self.now.places.now in
    on_ok_weaker c.note_maybe.result (nodes.at-Return writer c.args.node.now
    (locals_of c.args.locals.now) c.args.misreads.now _ _ c.in-Return.is) c.note_maybe.ensures

pub note_node-returns-in-Throw : goal.note_node-returns-in-Throw
note_node-returns-in-Throw g t c =
    let writer = g.P.Places.writer c.args.self.now.places.now in
    on_ok_weaker c.note_expr-in-Throw.result (nodes.at-Throw writer c.args.node.now
    (locals_of c.args.locals.now) c.args.misreads.now _ _ c.in-Throw.is) c.note_expr-in-Throw.ensures

pub note_node-returns-in-Break : goal.note_node-returns-in-Break
note_node-returns-in-Break g t c =
    let writer = g.P.Places.writer c.args.self.now.places.now in
    nodes.at-Break writer c.args.node.now (locals_of c.args.locals.now) c.args.misreads.now
    c.in-Break.is

pub note_node-returns-in-Continue : goal.note_node-returns-in-Continue
note_node-returns-in-Continue g t c =
    let writer = g.P.Places.writer c.args.self.now.places.now in
    nodes.at-Continue writer c.args.node.now (locals_of c.args.locals.now) c.args.misreads.now
    c.in-Continue.is

pub note_node-returns-in-Empty : goal.note_node-returns-in-Empty
note_node-returns-in-Empty g t c =
    let writer = g.P.Places.writer c.args.self.now.places.now in
    nodes.at-Empty writer c.args.node.now (locals_of c.args.locals.now) c.args.misreads.now
    c.in-Empty.is

pub note_node-returns-in-Super : goal.note_node-returns-in-Super
note_node-returns-in-Super g t c =
    let writer = g.P.Places.writer c.args.self.now.places.now in
    on_ok_weaker c.note_super.result (nodes.at-Super writer c.args.node.now
    (locals_of c.args.locals.now) c.args.misreads.now _ _ _ _ c.in-Super.is c.items-in-Super.ensures) c.note_super.ensures

pub note_node-returns-in-SuperDefault : goal.note_node-returns-in-SuperDefault
note_node-returns-in-SuperDefault g t c =
    let writer = g.P.Places.writer c.args.self.now.places.now in
    on_ok_weaker c.note_super_default.result (nodes.at-SuperDefault writer c.args.node.now
    (locals_of c.args.locals.now) c.args.misreads.now _ _ c.in-SuperDefault.is) c.note_super_default.ensures

pub note_node-returns-in-SuperOutside : goal.note_node-returns-in-SuperOutside
note_node-returns-in-SuperOutside g t c =
    let writer = g.P.Places.writer c.args.self.now.places.now in
    on_ok_weaker c.note_super_outside.result (nodes.at-SuperOutside writer c.args.node.now
    (locals_of c.args.locals.now) c.args.misreads.now _ _ _ c.in-SuperOutside.is c.items-in-SuperOutside.ensures)
    c.note_super_outside.ensures

-- # Branches

pub note_if-returns : goal.note_if-returns
note_if-returns g t c =
    let writer = g.P.Places.writer c.args.self.now.places.now in
    on_ok_weaker c.note_else.result (nodes.if-goes writer (locals_of c.args.locals.now)
    c.args.misreads.now c.args.branch.now _ _ _ _ c.in_ok-note_tested.ensures) c.note_else.ensures

pub note_tested-returns : goal.note_tested-returns
note_tested-returns g t c =
    let writer = g.P.Places.writer c.args.self.now.places.now in
    let locals = locals_of c.args.locals.now in
    on_ok_weaker c.note_block.result (then_on writer (one_expr writer c.args.test.now) (spelled_block writer c.args.block.now) locals locals
    _ c.args.misreads.now _ _
    (none_declared writer (one_expr writer c.args.test.now) locals c.args.misreads.now _ refl c.in_ok-note_expr.ensures))
    c.note_block.ensures

pub note_else-returns-in-None : goal.note_else-returns-in-None
note_else-returns-in-None g t c =
    let writer = g.P.Places.writer c.args.self.now.places.now in
    nodes.no-else writer (locals_of c.args.locals.now) c.args.misreads.now c.args.rest.now c.in-None.is

pub note_else-returns-in-Block : goal.note_else-returns-in-Block
note_else-returns-in-Block g t c =
    let writer = g.P.Places.writer c.args.self.now.places.now in
    on_ok_weaker c.note_block.result (nodes.else-of-block writer (locals_of c.args.locals.now)
    c.args.misreads.now c.args.rest.now _ _ _ c.in-Block.is) c.note_block.ensures

pub note_else-returns-in-If : goal.note_else-returns-in-If
note_else-returns-in-If g t c =
    let writer = g.P.Places.writer c.args.self.now.places.now in
    on_ok_weaker c.note_if.result (nodes.else-of-if writer (locals_of c.args.locals.now)
    c.args.misreads.now c.args.rest.now _ _ _ _ c.in-If.is c.get.ensures) c.note_if.ensures

-- # Loops

pub note_for-returns : goal.note_for-returns
note_for-returns g t c =
    let writer = g.P.Places.writer c.args.self.now.places.now in
    block_ends writer (for_parts writer c.args.start.now c.args.test.now c.args.steps.now c.args.body.now)
    (locals_of c.args.locals.now) c.args.misreads.now _ _ _ c.in_ok-note_for_parts.ensures
    (scope_back c.args.locals.now _ _ _ c.mark-mark.ensures c.end_block.ensures)

pub note_for_parts-returns : goal.note_for_parts-returns
note_for_parts-returns g t c =
    let writer = g.P.Places.writer c.args.self.now.places.now in
    on_ok_weaker c.note_for_rest.result (then_on writer (spelled_start writer c.args.start.now)
    (for_rest writer c.args.test.now c.args.steps.now c.args.body.now) (locals_of c.args.locals.now) _ _ c.args.misreads.now _ _
    c.in_ok-note_start.ensures) c.note_for_rest.ensures

pub note_for_rest-returns : goal.note_for_rest-returns
note_for_rest-returns g t c =
    let writer = g.P.Places.writer c.args.self.now.places.now in
    on_ok_weaker c.note_block.result (for-rest-goes writer (locals_of c.args.locals.now)
    c.args.test.now c.args.steps.now c.args.body.now _ c.args.misreads.now _ _ c.in_ok-note_test_and_steps.ensures) c.note_block.ensures

pub note_each-returns : goal.note_each-returns
note_each-returns g t c =
    let writer = g.P.Places.writer c.args.self.now.places.now in
    on_ok_weaker c.note_each_body.result (each-goes writer (locals_of c.args.locals.now)
    c.args.ty.now c.args.name.now c.args.e.now c.args.body.now _ c.args.misreads.now _ _ c.in_ok-note_typed.ensures)
    c.note_each_body.ensures

pub note_each_body-returns : goal.note_each_body-returns
note_each_body-returns g t c =
    let writer = g.P.Places.writer c.args.self.now.places.now in
    each-body-goes writer (locals_of c.args.locals.now) c.args.ty.now c.args.name.now
    c.args.body.now _ _ _ c.args.misreads.now _ c.in_ok-declare.ensures.ok c.in_ok-note_block.ensures
    (scope_back c.args.locals.now _ _ _ c.mark-mark.ensures c.end_block.ensures)
