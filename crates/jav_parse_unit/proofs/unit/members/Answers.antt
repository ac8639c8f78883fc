use Rattle.std.proofs.Common.{◌≡◌, ◌∙◌, ◌-◌, ap, arith, rules, true, false, Some, []}
use Rattle.std.proofs.lemmas.Grind.{common_steps}
use Rattle.jav_parse_unit.specs.UnitRules.{members}
use Rattle.jav_parse_cursor.proofs.Turns.{one_more, no_more}
use Rattle.jav_parse_unit.proofs.unit.members.Goals as goal

pub returns-in_err-notes : goal.returns-in_err-notes
unfolding members
returns-in_err-notes c =
    let e = one_more (λ n. members c.args.limits c.args.top (Some c.args.class.now) n c.loop-turn.items c.loop-turn.tokens) _ c.loop-turn._turn c.loop-turn-test.true c.loop-turn.invariant in
    first_of (search rules, grind (arith, common_steps))

pub returns-in_err-take : goal.returns-in_err-take
unfolding members
returns-in_err-take c =
    let e = one_more (λ n. members c.args.limits c.args.top (Some c.args.class.now) n c.loop-turn.items c.loop-turn.tokens) _ c.loop-turn._turn c.loop-turn-test.true c.loop-turn.invariant in
    first_of (search rules, grind (arith, common_steps))

pub returns-then-is : goal.returns-then-is
unfolding members
returns-then-is c =
    let e = one_more (λ n. members c.args.limits c.args.top (Some c.args.class.now) n c.loop-turn.items c.loop-turn.tokens) _ c.loop-turn._turn c.loop-turn-test.true c.loop-turn.invariant in
    first_of (search rules, grind (arith, common_steps))

pub returns-in_err-more : goal.returns-in_err-more
unfolding members
returns-in_err-more c =
    let e = one_more (λ n. members c.args.limits c.args.top (Some c.args.class.now) n c.loop-turn.items c.loop-turn.tokens) _ c.loop-turn._turn c.loop-turn-test.true c.loop-turn.invariant in
    first_of (search rules, grind (arith, common_steps))

pub loop-turn-preserved : goal.loop-turn-preserved
unfolding members
loop-turn-preserved c =
    let e = one_more (λ n. members c.args.limits c.args.top (Some c.args.class.now) n c.loop-turn.items c.loop-turn.tokens) _ c.loop-turn._turn c.loop-turn-test.true c.loop-turn.invariant in
    first_of (search rules, grind (arith, common_steps))

pub returns : goal.returns
unfolding members
returns c =
    let e = no_more (λ n. members c.args.limits c.args.top (Some c.args.class.now) n c.loop-turn.items c.loop-turn.tokens) _ c.loop-turn._turn c.loop-turn-test.false c.loop-turn.invariant in
    first_of (search rules, grind (arith, common_steps))
