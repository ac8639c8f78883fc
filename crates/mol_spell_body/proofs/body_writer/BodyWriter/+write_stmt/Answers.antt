-- What each part is written as, put together as the definitions do it.
use Rattle.std.proofs.Common.{◌∙◌, refl, ap, take}
use Rattle.std.proofs.lemmas.Result.{IfOk-weaker}
use Rattle.jav_tree.specs.declared.stmt.StmtNode.TheVariants as node
use Rattle.mol_spell_body.proofs.Branched.{block-goes, else-of-block, else-of-if, if-goes, no-else, statement-goes}
use Rattle.mol_spell_body.proofs.Declared.{maybe-goes}
use Rattle.mol_spell_body.proofs.HandedOver.{with_part}
use Rattle.mol_spell_body.proofs.InTurn.{each_more, each_none, each_whole, made_on, none_declared, same_tree, then_on}
use Rattle.mol_spell_body.proofs.Looped.{loop-goes}
use Rattle.mol_spell_body.proofs.StatementNodes as nodes
use Rattle.mol_spell_body.proofs.body_writer.BodyWriter.+write_stmt.Goals as goal
use Rattle.mol_spell_places.specs.body_places.Statements.{else_spelling, stmt_spelling}
use Rattle.mol_spell_body.specs.declared.branches.BothBranches.{BothBranches}
use Rattle.mol_spell_places.specs.body_locals.Kept.{locals_of}
use Rattle.mol_spell_rules.specs.SpelledStatements.{mapped, maybe_expr, one_expr, spelled_block}

-- # Blocks

pub block-returns : goal.block-returns
block-returns g t c =
    let writer = g.P.Places.writer c.args.self.now.places.now in
    let after = locals_of c.statements.new.locals in
    IfOk-weaker c.block_of.result _ _ (λ tree is.
    block-goes writer (locals_of c.args.locals.now) c.args.block.now _ _ _ tree after _ c.items.ensures c.items-2.ensures
    c.in_ok-items.ensures is
    (ap locals_of c.end_block.ensures
    ∙ (λ i. record { declared = after.declared; in_scope = take (c.mark-mark.ensures i) after.in_scope }))) c.block_of.ensures

pub statements-loop-item-init : goal.statements-loop-item-init
statements-loop-item-init g t c =
    let writer = g.P.Places.writer c.args.self.now.places.now in
    each_none (stmt_spelling writer) c.in_ok-trees.trees (locals_of c.args.locals.now) c.in_ok-trees.ensures

pub statements-loop-item-preserved : goal.statements-loop-item-preserved
statements-loop-item-preserved g t c =
    let writer = g.P.Places.writer c.args.self.now.places.now in
    each_more (stmt_spelling writer) c.args.items.now c.loop-item.item-index c.item-item.result _ _ _ _ _ _ c.loop-item-test.true
    c.item-item.is c.loop-item.invariant c.in_ok-tree.ensures c.in_ok-add.ensures.ok

pub statements-returns : goal.statements-returns
statements-returns g t c =
    let writer = g.P.Places.writer c.args.self.now.places.now in
    each_whole (stmt_spelling writer) c.args.items.now c.loop-item.item-index _ _ _ c.loop-item-test.false c.loop-item.invariant

pub statement-returns : goal.statement-returns
statement-returns g t c =
    let writer = g.P.Places.writer c.args.self.now.places.now in
    IfOk-weaker c.with_notes.result _ _ (λ tree is.
    statement-goes writer (locals_of c.args.locals.now) c.args.statement.now _ _ tree _ c.items.ensures c.in_ok-node.ensures is)
    c.with_notes.ensures

-- # Each kind of statement

pub node-returns-in_ok-block-in-Block : goal.node-returns-in_ok-block-in-Block
node-returns-in_ok-block-in-Block g t c =
    let writer = g.P.Places.writer c.args.self.now.places.now in
    nodes.at-Block writer c.args.node.now _ _ _ _ c.in-Block.is
    (made_on (λ block. node.Block block) (spelled_block writer c.in-Block.inner) _ _ _ _ c.in_ok-block-in-Block.ensures refl)

pub node-returns-in-Let : goal.node-returns-in-Let
node-returns-in-Let g t c =
    let writer = g.P.Places.writer c.args.self.now.places.now in
    IfOk-weaker c.let_statement.result _ _ (λ tree goes. nodes.at-Let writer c.args.node.now tree _ _ _ c.in-Let.is goes)
    c.let_statement.ensures

pub node-returns-in-If : goal.node-returns-in-If
node-returns-in-If g t c =
    let writer = g.P.Places.writer c.args.self.now.places.now in
    IfOk-weaker c.branches.result _ _ (λ tree goes. nodes.at-If writer c.args.node.now tree _ _ _ c.in-If.is goes) c.branches.ensures

pub node-returns-in-While : goal.node-returns-in-While
node-returns-in-While g t c =
    let writer = g.P.Places.writer c.args.self.now.places.now in
    IfOk-weaker c.looping.result _ _ (λ tree goes. nodes.at-While writer c.args.node.now tree _ _ _ _ c.in-While.is goes) c.looping.ensures

pub node-returns-in-For : goal.node-returns-in-For
node-returns-in-For g t c =
    let writer = g.P.Places.writer c.args.self.now.places.now in
    IfOk-weaker c.looping-in-For.result _ _ (λ tree goes.
    nodes.at-For writer c.args.node.now tree _ _ _ _ _ _ _ c.in-For.is c.items.ensures goes) c.looping-in-For.ensures

pub node-returns-in-Each : goal.node-returns-in-Each
node-returns-in-Each g t c =
    let writer = g.P.Places.writer c.args.self.now.places.now in
    IfOk-weaker c.looping-in-Each.result _ _ (λ tree goes. nodes.at-Each writer c.args.node.now tree _ _ _ _ _ _ _ c.in-Each.is goes)
    c.looping-in-Each.ensures

pub node-returns-in-Break : goal.node-returns-in-Break
node-returns-in-Break g t c =
    let writer = g.P.Places.writer c.args.self.now.places.now in
    nodes.at-Break writer c.args.node.now _ (locals_of c.args.locals.now) c.in-Break.is refl

pub node-returns-in-Continue : goal.node-returns-in-Continue
node-returns-in-Continue g t c =
    let writer = g.P.Places.writer c.args.self.now.places.now in
    nodes.at-Continue writer c.args.node.now _ (locals_of c.args.locals.now) c.in-Continue.is refl

pub node-returns-in-Empty : goal.node-returns-in-Empty
node-returns-in-Empty g t c =
    let writer = g.P.Places.writer c.args.self.now.places.now in
    nodes.at-Empty writer c.args.node.now _ (locals_of c.args.locals.now) c.in-Empty.is refl

pub node-returns-in-Do : goal.node-returns-in-Do
node-returns-in-Do g t c =
    let writer = g.P.Places.writer c.args.self.now.places.now in
    let locals = locals_of c.args.locals.now in
    IfOk-weaker c.action.result _ _ (λ tree is.
    nodes.at-Do writer c.args.node.now tree locals locals _ c.in-Do.is
    (none_declared (λ locals. mapped (λ e. node.Do e) (one_expr writer _ locals)) tree locals refl is)) c.action.ensures

pub node-returns-in-Return : goal.node-returns-in-Return
node-returns-in-Return g t c =
    let writer = g.P.Places.writer c.args.self.now.places.now in
    let locals = locals_of c.args.locals.now in
    IfOk-weaker c.returned.result _ _ (λ tree is.
    nodes.at-Return writer c.args.node.now tree locals locals _ c.in-Return.is
    (made_on (λ e. node.Return e) (maybe_expr writer _) _ tree locals locals (maybe-goes writer locals _ _ refl) is)) c.returned.ensures

pub node-returns-in-Throw : goal.node-returns-in-Throw
node-returns-in-Throw g t c =
    let writer = g.P.Places.writer c.args.self.now.places.now in
    let locals = locals_of c.args.locals.now in
    IfOk-weaker c.thrown.result _ _ (λ tree is.
    nodes.at-Throw writer c.args.node.now tree locals locals _ c.in-Throw.is
    (none_declared (λ locals. mapped (λ e. node.Throw e) (one_expr writer _ locals)) tree locals refl is)) c.thrown.ensures

pub node-returns-in-Super : goal.node-returns-in-Super
node-returns-in-Super g t c =
    let writer = g.P.Places.writer c.args.self.now.places.now in
    let locals = locals_of c.args.locals.now in
    IfOk-weaker c.super_call.result _ _ (λ tree is.
    nodes.at-Super writer c.args.node.now tree locals _ _ _ c.in-Super.is c.items-in-Super.ensures is) c.super_call.ensures

pub node-returns-in-SuperDefault : goal.node-returns-in-SuperDefault
node-returns-in-SuperDefault g t c =
    let writer = g.P.Places.writer c.args.self.now.places.now in
    let locals = locals_of c.args.locals.now in
    nodes.at-SuperDefault writer c.args.node.now _ locals _ c.in-SuperDefault.is (ap (λ args. node.SuperInit args) c.new.ensures)

pub node-returns-in-SuperOutside : goal.node-returns-in-SuperOutside
node-returns-in-SuperOutside g t c =
    let writer = g.P.Places.writer c.args.self.now.places.now in
    let locals = locals_of c.args.locals.now in
    IfOk-weaker c.super_outside.result _ _ (λ tree is.
    nodes.at-SuperOutside writer c.args.node.now tree locals _ _ c.in-SuperOutside.is c.items-in-SuperOutside.ensures is)
    c.super_outside.ensures

-- # Branches

pub branches-returns : goal.branches-returns
branches-returns g t c =
    let writer = g.P.Places.writer c.args.self.now.places.now in
    let locals = locals_of c.args.locals.now in
    IfOk-weaker c.if_of.result _ _ (λ tree made. with_part c.inner.result _ _ _ made c.inner.ensures (λ parts is goes.
    if-goes writer locals c.args.branch.now _ _ _ _ parts.then parts.rest tree _ refl refl refl c.in_ok-test.ensures goes is))
    c.if_of.ensures

pub inner-returns : goal.inner-returns
inner-returns g t c =
    let writer = g.P.Places.writer c.args.self.now.places.now in
    IfOk-weaker c.branches_of.result _ _ (λ trees made. with_part c.else_part.result _ _ _ made c.else_part.ensures (λ rest is goes.
    same_tree _ _ (trees.then, trees.rest) _ _ (ap (λ (trees : BothBranches). (trees.then, trees.rest)) is)
    (then_on (spelled_block writer c.args.then.now) (else_spelling writer c.args.rest.now) c.in_ok-then.then rest
    (locals_of c.args.locals.now) _ _ c.in_ok-then.ensures
    goes))) c.branches_of.ensures

pub else_part-returns-in-None : goal.else_part-returns-in-None
else_part-returns-in-None g t c =
    let writer = g.P.Places.writer c.args.self.now.places.now in
    no-else writer c.args.rest.now (locals_of c.args.locals.now) c.in-None.is

pub else_part-returns-in_ok-block-in-Block : goal.else_part-returns-in_ok-block-in-Block
else_part-returns-in_ok-block-in-Block g t c =
    let writer = g.P.Places.writer c.args.self.now.places.now in
    else-of-block writer c.args.rest.now _ _ _ _ _ c.in-Block.is c.in_ok-block-in-Block.ensures refl

pub else_part-returns-in_ok-node-in-If : goal.else_part-returns-in_ok-node-in-If
else_part-returns-in_ok-node-in-If g t c =
    let writer = g.P.Places.writer c.args.self.now.places.now in
    IfOk-weaker c.else_if.result _ _ (λ tree is.
    else-of-if writer c.args.rest.now tree _ _ _ _ _ c.in-If.is c.get.ensures c.in_ok-node-in-If.ensures is) c.else_if.ensures

-- # Loops

pub looping-returns : goal.looping-returns
looping-returns g t c =
    let writer = g.P.Places.writer c.args.self.now.places.now in
    let after = locals_of c.block-body.new.locals in
    IfOk-weaker c.looped.result _ _ (λ tree made. with_part c.block-body.result _ _ _ made c.block-body.ensures (λ body is further.
    loop-goes writer c.args.kind c.args.body.now c.in_ok-header.header body tree _ _ after _ c.in_ok-header.ensures further is
    (ap locals_of c.end_block.ensures
    ∙ (λ i. record { declared = after.declared; in_scope = take (c.mark-mark.ensures i) after.in_scope })))) c.looped.ensures
