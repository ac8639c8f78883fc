use Rattle.std.proofs.Common.{◌≡◌, ◌∙◌, ◌-◌, ap, arith, rules, true, false, Some, []}
use Rattle.std.proofs.lemmas.Grind.{common_steps}
use Rattle.jav_parse_expr.specs.ExprRules.{climb, expr}
use Rattle.jav_parse_cursor.proofs.Turns.{one_more, no_more}
use Rattle.jav_parse_expr.proofs.primary.Grammar.climb.Goals as goal

pub returns-then-own-least-clause-reads : goal.returns-then-own-least-clause-reads
unfolding climb
returns-then-own-least-clause-reads g c =
    let e = one_more (λ n. climb c.args.self.now.limits c.args.self.now.top (expr c.args.self.now.limits (c.args.self.now.top - 1)) (expr c.args.self.now.limits (c.args.self.now.top - 1 - 1)) n c.args.least c.loop-turn.cap c.loop-turn.left c.loop-turn.tokens) _ c.loop-turn._turn c.loop-turn-test.true c.loop-turn.invariant.same in
    first_of (search rules, grind (arith, common_steps))

pub returns-in_err-left-clause-reads : goal.returns-in_err-left-clause-reads
unfolding climb
returns-in_err-left-clause-reads g c =
    let e = one_more (λ n. climb c.args.self.now.limits c.args.self.now.top (expr c.args.self.now.limits (c.args.self.now.top - 1)) (expr c.args.self.now.limits (c.args.self.now.top - 1 - 1)) n c.args.least c.loop-turn.cap c.loop-turn.left c.loop-turn.tokens) _ c.loop-turn._turn c.loop-turn-test.true c.loop-turn.invariant.same in
    first_of (search rules, grind (arith, common_steps))

pub loop-turn-preserved : goal.loop-turn-preserved
unfolding climb
loop-turn-preserved g c =
    let e = one_more (λ n. climb c.args.self.now.limits c.args.self.now.top (expr c.args.self.now.limits (c.args.self.now.top - 1)) (expr c.args.self.now.limits (c.args.self.now.top - 1 - 1)) n c.args.least c.loop-turn.cap c.loop-turn.left c.loop-turn.tokens) _ c.loop-turn._turn c.loop-turn-test.true c.loop-turn.invariant.same in
    first_of (search rules, grind (arith, common_steps))

pub returns-clause-reads : goal.returns-clause-reads
unfolding climb
returns-clause-reads g c =
    let e = no_more (λ n. climb c.args.self.now.limits c.args.self.now.top (expr c.args.self.now.limits (c.args.self.now.top - 1)) (expr c.args.self.now.limits (c.args.self.now.top - 1 - 1)) n c.args.least c.loop-turn.cap c.loop-turn.left c.loop-turn.tokens) _ c.loop-turn._turn c.loop-turn-test.false c.loop-turn.invariant.same in
    first_of (search rules, grind (arith, common_steps))
