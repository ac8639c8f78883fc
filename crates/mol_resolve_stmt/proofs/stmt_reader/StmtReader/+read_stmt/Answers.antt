-- What each part reads as, put together as the definitions do it.
use Rattle.std.proofs.Common.{Some, ap, arith, refl}
use Rattle.std.proofs.lemmas.Result.{IfOk-weaker}
use Rattle.mol_resolve_readings.specs.locals.Scoped.{locals_of}
use Rattle.mol_resolve_rules.specs.ReadStatements.{block_reading, declaring_none, then_next}
use Rattle.mol_resolve_rules.specs.ReadTrees.{read_expr}
use Rattle.mol_resolve_stmt.proofs.AfterElse.{block_else, else_branches, else_other, if_else, no_else}
use Rattle.mol_resolve_stmt.proofs.BlockStatements.{block_read, statement_read}
use Rattle.mol_resolve_stmt.proofs.InTurn.{block_ends, each_read-more, each_read-none, each_read-whole, fine_on, goes_as, made_on, none_declared, scope_back, then_on}
use Rattle.mol_resolve_stmt.proofs.StatementNodes as nodes
use Rattle.mol_resolve_stmt.proofs.TreesRead.{tree_read}
use Rattle.mol_resolve_stmt.proofs.stmt_reader.StmtReader.+read_stmt.Goals as goal
use Rattle.mol_resolve_stmt.specs.Loops.{loop_node}
use Rattle.mol_resolve_stmt.specs.Made as made
use Rattle.mol_resolve_stmt.specs.Statements.{else_reading, statement_of}
use Rattle.mol_values_types.specs.declared.iblock.IElse.TheVariants as elses
use Rattle.mol_values_types.specs.declared.iblock.IStmtNode.TheVariants as values

-- # Blocks

pub block-returns : goal.block-returns
block-returns g t c =
    let reader = g.N.Names.reader c.args.self.now.names.now in
    IfOk-weaker c.block_of.result _ _ (λ value is.
    block_read reader (locals_of c.args.locals.now) c.args.block.now _ _ _ value _ _ _ _ c.items.ensures c.items-2.ensures
    c.in_ok-items.ensures (scope_back c.args.locals.now _ _ _ c.mark-mark.ensures c.end_block.ensures) is) c.block_of.ensures

pub statements-loop-item-init : goal.statements-loop-item-init
statements-loop-item-init g t c =
    each_read-none (statement_of (g.N.Names.reader c.args.self.now.names.now)) c.args.items.now _ _ _
    (ap (λ items. Some items) c.in_ok-room.ensures)

pub statements-loop-item-preserved : goal.statements-loop-item-preserved
statements-loop-item-preserved g t c =
    let args = c.args in
    each_read-more (statement_of (g.N.Names.reader args.self.now.names.now)) args.items.now c.loop-item.item-index c.item-item.result
    _ _ _ _ _ _ _ _ _ (omega arith) c.item-item.is c.loop-item.invariant c.in_ok-read.ensures c.in_ok-all.ensures

pub statements-returns : goal.statements-returns
statements-returns g t c =
    each_read-whole (statement_of (g.N.Names.reader c.args.self.now.names.now)) c.args.items.now _ c.loop-item.item-index _ _ _ _ _
    refl (omega arith) c.loop-item.invariant

pub statement-returns : goal.statement-returns
statement-returns g t c =
    let reader = g.N.Names.reader c.args.self.now.names.now in
    IfOk-weaker c.with_notes.result _ _ (λ value is.
    statement_read reader (locals_of c.args.locals.now) c.args.statement.now _ _ value _ _ _ c.items.ensures c.in_ok-node.ensures is)
    c.with_notes.ensures

-- # Loops

pub looping-returns : goal.looping-returns
looping-returns g t c =
    let reader = g.N.Names.reader c.args.self.now.names.now in
    let locals = locals_of c.args.locals.now in
    let body = block_reading reader c.args.block.now in
    block_ends _ _ locals _ _ _ _ (made_on loop_node _ _ c.whole_loop.result locals _ _ _
    (then_on _ body _ _ locals _ _ _ _ _ c.in_ok-header.ensures c.in_ok-body.ensures) c.whole_loop.ensures)
    (scope_back c.args.locals.now _ _ _ c.mark-mark.ensures c.end_block.ensures)

-- # Branches

pub branches-returns : goal.branches-returns
branches-returns g t c =
    let reader = g.N.Names.reader c.args.self.now.names.now in
    let locals = locals_of c.args.locals.now in
    let test = declaring_none locals (read_expr reader locals c.args.test.now) in
    let then_block = block_reading reader c.args.block.now in
    let rest = else_reading reader c.args.rest.now in
    made_on made.branches (then_next (then_next test then_block) rest) _ c.branches.result locals _ _ _
    (then_on (then_next test then_block) rest _ _ locals _ _ _ _ _
    (then_on test then_block _ _ locals _ _ _ _ _
    (none_declared _ _ locals _ _ (tree_read reader locals c.args.test.now _ _ _ c.in_ok-test.ensures)) c.in_ok-then.ensures)
    c.in_ok-rest.ensures) c.branches.ensures

-- # Statements

pub node-returns-in_ok-block-in-Block : goal.node-returns-in_ok-block-in-Block
node-returns-in_ok-block-in-Block g t c =
    let reader = g.N.Names.reader c.args.self.now.names.now in
    let locals = locals_of c.args.locals.now in
    let at = c.args.at in
    let arm = c.in-Block in
    goes_as _ _ _ _ _ _ _ (nodes.at-Block reader at locals c.args.node.now _ arm.is)
    (made_on (λ block. values.Block block) _ _ _ locals _ _ _ c.in_ok-block-in-Block.ensures
    c.inner_block.ensures)

pub node-returns-in-Let : goal.node-returns-in-Let
node-returns-in-Let g t c =
    let reader = g.N.Names.reader c.args.self.now.names.now in
    let locals = locals_of c.args.locals.now in
    let at = c.args.at in
    let arm = c.in-Let in
    IfOk-weaker c.declared.result _ _ (λ value goes.
    goes_as _ _ _ _ _ _ _ (nodes.at-Let reader at locals c.args.node.now _ arm.is) goes) c.declared.ensures

pub node-returns-in-Do : goal.node-returns-in-Do
node-returns-in-Do g t c =
    let reader = g.N.Names.reader c.args.self.now.names.now in
    let locals = locals_of c.args.locals.now in
    let at = c.args.at in
    let arm = c.in-Do in
    IfOk-weaker c.action.result _ _ (λ value read.
    goes_as _ _ _ _ _ _ _ (nodes.at-Do reader at locals c.args.node.now _ arm.is) (none_declared _ value locals _ _ read)) c.action.ensures

pub node-returns-in-Return : goal.node-returns-in-Return
node-returns-in-Return g t c =
    let reader = g.N.Names.reader c.args.self.now.names.now in
    let locals = locals_of c.args.locals.now in
    let at = c.args.at in
    let arm = c.in-Return in
    IfOk-weaker c.returned.result _ _ (λ value read.
    goes_as _ _ _ _ _ _ _ (nodes.at-Return reader at locals c.args.node.now _ arm.is) (none_declared _ value locals _ _ read))
    c.returned.ensures

pub node-returns-in-Throw : goal.node-returns-in-Throw
node-returns-in-Throw g t c =
    let reader = g.N.Names.reader c.args.self.now.names.now in
    let locals = locals_of c.args.locals.now in
    let at = c.args.at in
    let arm = c.in-Throw in
    IfOk-weaker c.thrown.result _ _ (λ value read.
    goes_as _ _ _ _ _ _ _ (nodes.at-Throw reader at locals c.args.node.now _ arm.is) (none_declared _ value locals _ _ read))
    c.thrown.ensures

pub node-returns-in-SuperInit : goal.node-returns-in-SuperInit
node-returns-in-SuperInit g t c =
    let reader = g.N.Names.reader c.args.self.now.names.now in
    let locals = locals_of c.args.locals.now in
    let at = c.args.at in
    let arm = c.in-SuperInit in
    IfOk-weaker c.super_init.result _ _ (λ value read.
    goes_as _ _ _ _ _ _ _ (nodes.at-SuperInit reader at locals c.args.node.now _ _ arm.is c.items-in-SuperInit.ensures)
    (none_declared _ value locals _ _ read))
    c.super_init.ensures

pub node-returns-in_ok-branches-in-If : goal.node-returns-in_ok-branches-in-If
node-returns-in_ok-branches-in-If g t c =
    let reader = g.N.Names.reader c.args.self.now.names.now in
    let locals = locals_of c.args.locals.now in
    let at = c.args.at in
    let arm = c.in-If in
    goes_as _ _ _ _ _ _ _ (nodes.at-If reader at locals c.args.node.now _ _ _ arm.is)
    (made_on (λ branches. values.If branches) _ _ _ locals _ _ _
    c.in_ok-branches-in-If.ensures c.branch-branch.ensures)

pub node-returns-in-While : goal.node-returns-in-While
node-returns-in-While g t c =
    let reader = g.N.Names.reader c.args.self.now.names.now in
    let locals = locals_of c.args.locals.now in
    let at = c.args.at in
    let arm = c.in-While in
    IfOk-weaker c.looping.result _ _ (λ value goes.
    goes_as _ _ _ _ _ _ _ (nodes.at-While reader at locals c.args.node.now _ _ arm.is) goes) c.looping.ensures

pub node-returns-in-For : goal.node-returns-in-For
node-returns-in-For g t c =
    let reader = g.N.Names.reader c.args.self.now.names.now in
    let locals = locals_of c.args.locals.now in
    let at = c.args.at in
    let arm = c.in-For in
    IfOk-weaker c.looping-in-For.result _ _ (λ value goes.
    goes_as _ _ _ _ _ _ _ (nodes.at-For reader at locals c.args.node.now _ _ _ _ _ arm.is c.items.ensures) goes) c.looping-in-For.ensures

pub node-returns-in-Each : goal.node-returns-in-Each
node-returns-in-Each g t c =
    let reader = g.N.Names.reader c.args.self.now.names.now in
    let locals = locals_of c.args.locals.now in
    let at = c.args.at in
    let arm = c.in-Each in
    IfOk-weaker c.looping-in-Each.result _ _ (λ value goes.
    goes_as _ _ _ _ _ _ _ (nodes.at-Each reader at locals c.args.node.now _ _ _ _ _ arm.is) goes) c.looping-in-Each.ensures

pub node-returns-in-Break : goal.node-returns-in-Break
node-returns-in-Break g t c =
    let reader = g.N.Names.reader c.args.self.now.names.now in
    let locals = locals_of c.args.locals.now in
    let at = c.args.at in
    let arm = c.in-Break in
    goes_as _ _ _ _ _ _ _ (nodes.at-Break reader at locals c.args.node.now arm.is) (fine_on values.Break locals _)

pub node-returns-in-Continue : goal.node-returns-in-Continue
node-returns-in-Continue g t c =
    let reader = g.N.Names.reader c.args.self.now.names.now in
    let locals = locals_of c.args.locals.now in
    let at = c.args.at in
    let arm = c.in-Continue in
    goes_as _ _ _ _ _ _ _ (nodes.at-Continue reader at locals c.args.node.now arm.is) (fine_on values.Continue locals _)

pub node-returns-in-Empty : goal.node-returns-in-Empty
node-returns-in-Empty g t c =
    let reader = g.N.Names.reader c.args.self.now.names.now in
    let locals = locals_of c.args.locals.now in
    let at = c.args.at in
    let arm = c.in-Empty in
    goes_as _ _ _ _ _ _ _ (nodes.at-Empty reader at locals c.args.node.now arm.is) (fine_on values.Empty locals _)

-- # After `else`

pub otherwise-returns-in-None : goal.otherwise-returns-in-None
otherwise-returns-in-None g t c =
    let reader = g.N.Names.reader c.args.self.now.names.now in
    let locals = locals_of c.args.locals.now in
    goes_as _ _ _ _ _ _ _ (no_else reader locals c.args.rest.now c.in-None.is) (fine_on elses.None locals _)

pub otherwise-returns-in_ok-block-in-Block : goal.otherwise-returns-in_ok-block-in-Block
otherwise-returns-in_ok-block-in-Block g t c =
    let reader = g.N.Names.reader c.args.self.now.names.now in
    let locals = locals_of c.args.locals.now in
    goes_as _ _ _ _ _ _ _ (block_else reader locals c.args.rest.now _ c.in-Block.is)
    (made_on (λ block. elses.Block block) _ _ _ locals _ _ _ c.in_ok-block-in-Block.ensures
    c.else_of.ensures)

pub otherwise-returns-in-If : goal.otherwise-returns-in-If
otherwise-returns-in-If g t c =
    let reader = g.N.Names.reader c.args.self.now.names.now in
    let locals = locals_of c.args.locals.now in
    IfOk-weaker c.else_if.result _ _ (λ value goes.
    goes_as _ _ _ _ _ _ _ (if_else reader locals c.args.rest.now _ _ c.in-If.is c.get.ensures) goes) c.else_if.ensures

pub else_if-returns-in_ok-branches-in-If : goal.else_if-returns-in_ok-branches-in-If
else_if-returns-in_ok-branches-in-If g t c =
    let reader = g.N.Names.reader c.args.self.now.names.now in
    let locals = locals_of c.args.locals.now in
    let arm = c.in-If in
    IfOk-weaker c.else_if.result _ _ (λ value is. goes_as _ _ _ _ _ _ _
    (else_branches reader c.args.statement.now locals _ _ _ arm.is)
    (made_on made.else_if _ _ value locals _ _ _
    c.in_ok-branches-in-If.ensures is)) c.else_if.ensures

pub else_if-returns-in_ok-read-in_default : goal.else_if-returns-in_ok-read-in_default
else_if-returns-in_ok-read-in_default g t c =
    let reader = g.N.Names.reader c.args.self.now.names.now in
    let locals = locals_of c.args.locals.now in
    IfOk-weaker c.else_block.result _ _ (λ value is. goes_as _ _ _ _ _ _ _
    (else_other reader c.args.statement.now locals c.in_default.not-If)
    (made_on made.else_block (statement_of reader c.args.statement.now locals) _ value locals _ _ _ c.in_ok-read-in_default.ensures is))
    c.else_block.ensures
