use Rattle.std.proofs.Common.{◌-◌, [], false, arith, rules}
use Rattle.std.proofs.lemmas.Grind.{common_steps}
use Rattle.mol_log_expr.specs.ExpressionReader.{expr}
use Rattle.mol_log_expr.specs.Scope.{Scope, closed}
use Rattle.mol_log_expr.specs.declared.expr_role.ExprRole.TheVariants.{Value}
use Rattle.mol_log_words.specs.Reader.{◌>>=◌, pure, take}
use Rattle.mol_log_body.specs.Bodies.{stmt_of}
use Rattle.mol_log_body.specs.BodyReader as reader
use Rattle.mol_log_body.specs.BodyReader.{after, block_by, level, opening}
use Rattle.mol_log_body.specs.StatementHeads.{is_block, marked}
use Rattle.mol_log_body.proofs.BodyTurns.{stmt_none, stmt_steps, items_none, items_steps, else_part_none, statements_none, statements_steps}
use Rattle.mol_log_body.proofs.ReadsOn.{goes_on, stops, mapped, unchanged}
use Rattle.mol_log_body.proofs.stmt.+read_body.Goals as goal

pub else_part-returns-then-depth-eq0 : goal.else_part-returns-then-depth-eq0
else_part-returns-then-depth-eq0 t c _ = else_part_none c.args.depth c.args.scope.now c.args.words.now (omega arith)

pub items-returns-then-depth-eq0 : goal.items-returns-then-depth-eq0
items-returns-then-depth-eq0 t c _ = items_none c.args.first c.args.depth c.args.scope.now c.args.words.now (omega arith)

pub stmt-returns-then-depth-eq0 : goal.stmt-returns-then-depth-eq0
stmt-returns-then-depth-eq0 t c _ = stmt_none c.args.first c.args.depth c.args.scope.now c.args.words.now (omega arith)

pub statements-returns-in_err-item : goal.statements-returns-in_err-item
statements-returns-in_err-item t c =
    let k = c.in_ok-count.ensures in
    let i = c.loop-turn.invariant k.0 k.2 in
    let st = statements_steps
    (level c.args.depth).stmt c.loop-turn.leading k.0 c.loop-turn._turn c.loop-turn.all c.loop-turn.scope c.loop-turn.words
    (omega (arith, k.2)) in
    first_of (search rules, grind (arith, common_steps))

pub statements-loop-turn-preserved : goal.statements-loop-turn-preserved
statements-loop-turn-preserved t c = λ n e.
    let i = c.loop-turn.invariant n e in
    let st = statements_steps
    (level c.args.depth).stmt c.loop-turn.leading n c.loop-turn._turn c.loop-turn.all c.loop-turn.scope c.loop-turn.words
    (omega (arith, e)) in
    first_of (search rules, grind (arith, common_steps))

pub statements-returns : goal.statements-returns
statements-returns t c =
    let k = c.in_ok-count.ensures in
    let i = c.loop-turn.invariant k.0 k.2 in
    let z = statements_none (level c.args.depth).stmt c.loop-turn.leading
    (k.0 - c.loop-turn._turn) c.loop-turn.all c.loop-turn.scope c.loop-turn.words (omega (arith, k.2)) in
    first_of (search rules, grind (arith, common_steps))

pub stmt-returns-in_err-opening : goal.stmt-returns-in_err-opening
stmt-returns-in_err-opening t c =
    let d = c.args.depth - 1 in
    let s = c.args.scope.now in
    rw (stmt_steps c.args.first c.args.depth s c.args.words.now (omega arith))
    (stops (opening c.args.first d [] c.args.words.now)
    (λ o. reader.node_by d (level d) s o.head >>= (λ x. pure (after x.1 (stmt_of o.notes x.0))))
    c.in_err-opening.field-0.0 c.from_residual.result s c.open_stmt.new.words c.in_err-opening.ensures c.from_residual.ensures.1)

pub stmt-returns : goal.stmt-returns
stmt-returns t c =
    let d = c.args.depth - 1 in
    let s = c.args.scope.now in
    let o = c.in_ok-opening.opening in
    rw (stmt_steps c.args.first c.args.depth s c.args.words.now (omega arith), c.noted.ensures)
    (goes_on (opening c.args.first d [] c.args.words.now)
    (λ o. reader.node_by d (level d) s o.head >>= (λ x. pure (after x.1 (stmt_of o.notes x.0))))
    o c.open_stmt.new.words _ c.node.new.scope c.node.new.words c.in_ok-opening.ensures
    (mapped (stmt_of o.notes) (λ (z : Scope). z) (reader.node_by d (level d) s o.head c.open_stmt.new.words)
    c.node.result c.node.new.scope c.node.new.words c.node.ensures))

pub repetition-returns-in_err-header : goal.repetition-returns-in_err-header
repetition-returns-in_err-header t c =
    let d = c.args.depth in
    let s = c.args.scope.now in
    stops (reader.header_by d s c.args.head c.args.words.now)
    (λ h. block_by ((level d).items' false) h.1 >>= (λ b. pure (after (closed s b.1) (reader.looped h.0 b.0))))
    c.in_err-header.field-0.0 c.from_residual.result c.loop_header.new.scope c.loop_header.new.words c.in_err-header.ensures
    c.from_residual.ensures.1

pub repetition-returns : goal.repetition-returns
repetition-returns t c =
    let d = c.args.depth in
    let s = c.args.scope.now in
    let h = c.in_ok-header.header in
    rw (c.looped.ensures, c.close.ensures, c.count-before.ensures)
    (goes_on (reader.header_by d s c.args.head c.args.words.now)
    (λ h. block_by ((level d).items' false) h.1 >>= (λ b. pure (after (closed s b.1) (reader.looped h.0 b.0))))
    (h, c.loop_header.new.scope) c.loop_header.new.words _ (closed s c.block-body.new.scope) c.block-body.new.words c.in_ok-header.ensures
    (mapped (reader.looped h) (closed s) (block_by ((level d).items' false) c.loop_header.new.scope c.loop_header.new.words)
    c.block-body.result c.block-body.new.scope c.block-body.new.words c.block-body.ensures))

pub items-returns-in_err-all : goal.items-returns-in_err-all
items-returns-in_err-all t c =
    let d = c.args.depth - 1 in
    let s = c.args.scope.now in
    rw (items_steps c.args.first c.args.depth s c.args.words.now (omega arith))
    (stops (reader.counted_statements d (level d).stmt c.args.first s c.args.words.now)
    (λ xs. reader.block_after xs.0 >>= (λ b. pure (after (closed s xs.1) b)))
    c.in_err-all.field-0.0 c.from_residual.result c.statements.new.scope c.statements.new.words c.in_err-all.ensures
    c.from_residual.ensures.1)

pub items-returns : goal.items-returns
items-returns t c =
    let d = c.args.depth - 1 in
    let s = c.args.scope.now in
    let inner = c.statements.new.scope in
    rw (items_steps c.args.first c.args.depth s c.args.words.now (omega arith), c.close.ensures, c.count-before.ensures)
    (goes_on (reader.counted_statements d (level d).stmt c.args.first s c.args.words.now)
    (λ xs. reader.block_after xs.0 >>= (λ b. pure (after (closed s xs.1) b)))
    (c.in_ok-all.all, inner) c.statements.new.words c.block_of.result (closed s inner) c.block_of.new.words c.in_ok-all.ensures
    (unchanged (reader.block_after c.in_ok-all.all c.statements.new.words) c.block_of.result (closed s inner) c.block_of.new.words
    c.block_of.ensures))

pub block-returns-in_err-take_block : goal.block-returns-in_err-take_block
block-returns-in_err-take_block t c =
    let s = c.args.scope.now in
    stops (take (marked is_block) c.args.words.now) (λ mark. (level c.args.depth).items' c.args.first s)
    c.in_err-take_block.field-0.0 c.from_residual.result s c.take_block.new.words c.in_err-take_block.ensures c.from_residual.ensures.1

pub block-returns : goal.block-returns
block-returns t c =
    let s = c.args.scope.now in
    goes_on (take (marked is_block) c.args.words.now) (λ mark. (level c.args.depth).items' c.args.first s)
    (tt {0}) c.take_block.new.words c.items.result c.items.new.scope c.items.new.words c.in_ok-take_block.ensures c.items.ensures

pub conditional-returns-in_err-test : goal.conditional-returns-in_err-test
conditional-returns-in_err-test t c =
    let d = c.args.depth in
    let s = c.args.scope.now in
    stops (expr d s.locals Value c.args.words.now)
    (λ e. reader.branches_by (level d) s >>= (λ all. pure (after all.1 (reader.if_of e all.0))))
    c.in_err-test.field-0.0 c.from_residual.result s c.expr.new.words c.in_err-test.ensures c.from_residual.ensures.1

pub conditional-returns : goal.conditional-returns
conditional-returns t c =
    let d = c.args.depth in
    let s = c.args.scope.now in
    let e = c.in_ok-test.test in
    rw c.if_of.ensures
    (goes_on (expr d s.locals Value c.args.words.now)
    (λ e. reader.branches_by (level d) s >>= (λ all. pure (after all.1 (reader.if_of e all.0))))
    e c.expr.new.words _ c.branches.new.scope c.branches.new.words c.in_ok-test.ensures
    (mapped (reader.if_of e) (λ (z : Scope). z) (reader.branches_by (level d) s c.expr.new.words)
    c.branches.result c.branches.new.scope c.branches.new.words c.branches.ensures))

pub branches-returns-in_err-then : goal.branches-returns-in_err-then
branches-returns-in_err-then t c =
    let low = level c.args.depth in
    let s = c.args.scope.now in
    stops (block_by (low.items' false) s c.args.words.now)
    (λ b. low.else_part b.1 >>= (λ x. pure (after x.1 (reader.branches_of b.0 x.0))))
    c.in_err-then.field-0.0 c.from_residual.result c.block.new.scope c.block.new.words c.in_err-then.ensures c.from_residual.ensures.1

pub branches-returns : goal.branches-returns
branches-returns t c =
    let low = level c.args.depth in
    let s = c.args.scope.now in
    let b = c.in_ok-then.then in
    rw c.branches_of.ensures
    (goes_on (block_by (low.items' false) s c.args.words.now)
    (λ b. low.else_part b.1 >>= (λ x. pure (after x.1 (reader.branches_of b.0 x.0))))
    (b, c.block.new.scope) c.block.new.words _ c.else_part.new.scope c.else_part.new.words c.in_ok-then.ensures
    (mapped (reader.branches_of b) (λ (z : Scope). z) (low.else_part c.block.new.scope c.block.new.words)
    c.else_part.result c.else_part.new.scope c.else_part.new.words c.else_part.ensures))
