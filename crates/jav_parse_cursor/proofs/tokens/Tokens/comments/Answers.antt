use Rattle.std.proofs.Common.{◌≡◌, ◌∙◌, ap, arith, rules, true, false}
use Rattle.std.proofs.lemmas.Grind.{common_steps}
use Rattle.jav_parse_cursor.specs.Reading.{comments}
use Rattle.jav_parse_cursor.proofs.Turns.{one_more, no_more}
use Rattle.jav_parse_cursor.proofs.tokens.Tokens.comments.Goals as goal

pub returns-then-not-is : goal.returns-then-not-is
unfolding comments
returns-then-not-is c =
    let e = one_more (λ n. comments n c.loop-turn.all c.loop-turn.self) _ c.loop-turn._turn c.loop-turn-test.true c.loop-turn.invariant in
    first_of (search rules, grind (arith, common_steps))

pub returns-in_err-token : goal.returns-in_err-token
unfolding comments
returns-in_err-token c =
    let e = one_more (λ n. comments n c.loop-turn.all c.loop-turn.self) _ c.loop-turn._turn c.loop-turn-test.true c.loop-turn.invariant in
    first_of (search rules, grind (arith, common_steps))

pub loop-turn-preserved : goal.loop-turn-preserved
unfolding comments
loop-turn-preserved c =
    let e = one_more (λ n. comments n c.loop-turn.all c.loop-turn.self) _ c.loop-turn._turn c.loop-turn-test.true c.loop-turn.invariant in
    first_of (search rules, grind (arith, common_steps))

pub returns : goal.returns
unfolding comments
returns c =
    let e = no_more (λ n. comments n c.loop-turn.all c.loop-turn.self) _ c.loop-turn._turn c.loop-turn-test.false c.loop-turn.invariant in
    first_of (search rules, grind (arith, common_steps))
