use Rattle.std.proofs.Common.{◌≡◌, ◌∙◌, ◌-◌, ap, arith, rules, true, false, Some, []}
use Rattle.std.proofs.lemmas.Grind.{common_steps}
use Rattle.jav_parse_expr.specs.PrimaryRules.{chain}
use Rattle.jav_parse_expr.specs.ExprRules.{expr, inside}
use Rattle.jav_parse_cursor.proofs.Turns.{one_more, no_more}
use Rattle.jav_parse_expr.proofs.primary.Grammar.chain.Goals as goal

pub returns-then-not-is_link-clause-reads : goal.returns-then-not-is_link-clause-reads
unfolding chain
returns-then-not-is_link-clause-reads g c =
    let e = one_more (λ n. chain c.args.self.now.limits c.args.self.now.top c.args.self.now.rooms (inside c.args.self.now.limits c.args.self.now.rooms) n c.loop-turn.left c.loop-turn.tokens) _ c.loop-turn._turn c.loop-turn-test.true c.loop-turn.invariant.same in
    first_of (search rules, grind (arith, common_steps))

pub returns-in_err-left-clause-reads : goal.returns-in_err-left-clause-reads
unfolding chain
returns-in_err-left-clause-reads g c =
    let e = one_more (λ n. chain c.args.self.now.limits c.args.self.now.top c.args.self.now.rooms (inside c.args.self.now.limits c.args.self.now.rooms) n c.loop-turn.left c.loop-turn.tokens) _ c.loop-turn._turn c.loop-turn-test.true c.loop-turn.invariant.same in
    first_of (search rules, grind (arith, common_steps))

pub loop-turn-preserved : goal.loop-turn-preserved
unfolding chain
loop-turn-preserved g c =
    let e = one_more (λ n. chain c.args.self.now.limits c.args.self.now.top c.args.self.now.rooms (inside c.args.self.now.limits c.args.self.now.rooms) n c.loop-turn.left c.loop-turn.tokens) _ c.loop-turn._turn c.loop-turn-test.true c.loop-turn.invariant.same in
    first_of (search rules, grind (arith, common_steps))

pub returns-then-is_link-clause-reads : goal.returns-then-is_link-clause-reads
unfolding chain
returns-then-is_link-clause-reads g c =
    let e = no_more (λ n. chain c.args.self.now.limits c.args.self.now.top c.args.self.now.rooms (inside c.args.self.now.limits c.args.self.now.rooms) n c.loop-turn.left c.loop-turn.tokens) _ c.loop-turn._turn c.loop-turn-test.false c.loop-turn.invariant.same in
    first_of (search rules, grind (arith, common_steps))

pub returns-clause-reads : goal.returns-clause-reads
unfolding chain
returns-clause-reads g c =
    let e = no_more (λ n. chain c.args.self.now.limits c.args.self.now.top c.args.self.now.rooms (inside c.args.self.now.limits c.args.self.now.rooms) n c.loop-turn.left c.loop-turn.tokens) _ c.loop-turn._turn c.loop-turn-test.false c.loop-turn.invariant.same in
    first_of (search rules, grind (arith, common_steps))
