use Rattle.std.proofs.Common.{◌≡◌, ◌∙◌, ◌-◌, ap, arith, rules, true, false, Some, []}
use Rattle.std.proofs.lemmas.Grind.{common_steps}
use Rattle.jav_parse_expr.specs.ActionRules.{further_actions}
use Rattle.jav_parse_cursor.proofs.Turns.{one_more, no_more}
use Rattle.jav_parse_expr.proofs.action.further_actions.Goals as goal

pub returns-then-not-is-clause-reads : goal.returns-then-not-is-clause-reads
unfolding further_actions
returns-then-not-is-clause-reads c =
    let e = one_more (λ n. further_actions c.args.limits c.args.top n c.loop-turn.all c.loop-turn.tokens) _ c.loop-turn._turn c.loop-turn-test.true c.loop-turn.invariant.same in
    first_of (search rules, grind (arith, common_steps))

pub returns-in_err-take-clause-reads : goal.returns-in_err-take-clause-reads
unfolding further_actions
returns-in_err-take-clause-reads c =
    let e = one_more (λ n. further_actions c.args.limits c.args.top n c.loop-turn.all c.loop-turn.tokens) _ c.loop-turn._turn c.loop-turn-test.true c.loop-turn.invariant.same in
    first_of (search rules, grind (arith, common_steps))

pub returns-in_err-x-clause-reads : goal.returns-in_err-x-clause-reads
unfolding further_actions
returns-in_err-x-clause-reads c =
    let e = one_more (λ n. further_actions c.args.limits c.args.top n c.loop-turn.all c.loop-turn.tokens) _ c.loop-turn._turn c.loop-turn-test.true c.loop-turn.invariant.same in
    first_of (search rules, grind (arith, common_steps))

pub loop-turn-preserved : goal.loop-turn-preserved
unfolding further_actions
loop-turn-preserved c =
    let e = one_more (λ n. further_actions c.args.limits c.args.top n c.loop-turn.all c.loop-turn.tokens) _ c.loop-turn._turn c.loop-turn-test.true c.loop-turn.invariant.same in
    first_of (search rules, grind (arith, common_steps))

pub returns-clause-reads : goal.returns-clause-reads
unfolding further_actions
returns-clause-reads c =
    let e = no_more (λ n. further_actions c.args.limits c.args.top n c.loop-turn.all c.loop-turn.tokens) _ c.loop-turn._turn c.loop-turn-test.false c.loop-turn.invariant.same in
    first_of (search rules, grind (arith, common_steps))
