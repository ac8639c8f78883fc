use Rattle.std.proofs.Common.{◌≡◌, ◌-◌, arith, rules, refl}
use Rattle.std.proofs.lemmas.Grind.{common_steps}
use Rattle.mol_log_expr.specs.ExpressionReader as reader
use Rattle.mol_log_expr.proofs.ExpressionTurns.{expr_none}
use Rattle.mol_log_words.proofs.Repeats.{repeat_none, repeat_steps}
use Rattle.mol_log_expr.proofs.read_exprs.+read_expr.Goals as goal

pub expr-returns-then-depth-eq0 : goal.expr-returns-then-depth-eq0
expr-returns-then-depth-eq0 t c _ = expr_none c.args.depth c.args.scope.now.locals c.args.role c.args.words.now (omega arith)

pub arguments-loop-turn-init : goal.arguments-loop-turn-init
arguments-loop-turn-init t c =
    let all : c.in_ok-count.count - 0 ≡ c.in_ok-count.count = omega arith in
    rw (all, c.new-all.ensures) refl

pub arguments-returns-in_err-item : goal.arguments-returns-in_err-item
arguments-returns-in_err-item t c =
    let st = repeat_steps (reader.argument c.args.depth (reader.expr c.args.depth c.args.scope.now.locals))
    c.in_ok-count.count c.loop-turn._turn c.loop-turn.all c.loop-turn.words (omega arith) in
    first_of (search rules, grind (arith, common_steps))

pub arguments-loop-turn-preserved : goal.arguments-loop-turn-preserved
arguments-loop-turn-preserved t c =
    let st = repeat_steps (reader.argument c.args.depth (reader.expr c.args.depth c.args.scope.now.locals))
    c.in_ok-count.count c.loop-turn._turn c.loop-turn.all c.loop-turn.words (omega arith) in
    first_of (search rules, grind (arith, common_steps))

pub arguments-returns : goal.arguments-returns
arguments-returns t c =
    let z = repeat_none (reader.argument c.args.depth (reader.expr c.args.depth c.args.scope.now.locals))
    (c.in_ok-count.count - c.loop-turn._turn) c.loop-turn.all c.loop-turn.words (omega arith) in
    first_of (search rules, grind (arith, common_steps))

pub exprs-returns-in_err-item : goal.exprs-returns-in_err-item
exprs-returns-in_err-item t c =
    let k = c.in_ok-count.ensures in
    let i = c.loop-turn.invariant k.0 k.2 in
    let st = repeat_steps (reader.expr c.args.depth c.args.scope.now.locals c.args.role)
    k.0 c.loop-turn._turn c.loop-turn.all c.loop-turn.words
    (omega (arith, k.2)) in
    first_of (search rules, grind (arith, common_steps))

pub exprs-loop-turn-preserved : goal.exprs-loop-turn-preserved
exprs-loop-turn-preserved t c = λ n e.
    let i = c.loop-turn.invariant n e in
    let st = repeat_steps (reader.expr c.args.depth c.args.scope.now.locals c.args.role)
    n c.loop-turn._turn c.loop-turn.all c.loop-turn.words
    (omega (arith, e)) in
    first_of (search rules, grind (arith, common_steps))

pub exprs-returns : goal.exprs-returns
exprs-returns t c =
    let k = c.in_ok-count.ensures in
    let i = c.loop-turn.invariant k.0 k.2 in
    let z = repeat_none (reader.expr c.args.depth c.args.scope.now.locals c.args.role)
    (k.0 - c.loop-turn._turn) c.loop-turn.all c.loop-turn.words (omega (arith, k.2)) in
    first_of (search rules, grind (arith, common_steps))
