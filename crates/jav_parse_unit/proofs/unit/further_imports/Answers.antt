use Rattle.std.proofs.Common.{◌≡◌, ◌∙◌, ◌-◌, ap, arith, rules, true, false, Some, []}
use Rattle.std.proofs.lemmas.Grind.{common_steps}
use Rattle.jav_parse_unit.specs.UnitRules.{further_imports, no_imports}
use Rattle.jav_parse_cursor.proofs.Turns.{one_more, no_more}
use Rattle.jav_parse_unit.proofs.unit.further_imports.Goals as goal

pub returns-then-not-is : goal.returns-then-not-is
unfolding further_imports
returns-then-not-is c =
    let e = one_more (λ n. further_imports c.args.limits n (record { names = c.loop-turn.names; notes = c.loop-turn.notes }) c.loop-turn.tokens) _ c.loop-turn._turn c.loop-turn-test.true c.loop-turn.invariant in
    first_of (search rules, grind (arith, common_steps))

pub returns-in_err-take : goal.returns-in_err-take
unfolding further_imports
returns-in_err-take c =
    let e = one_more (λ n. further_imports c.args.limits n (record { names = c.loop-turn.names; notes = c.loop-turn.notes }) c.loop-turn.tokens) _ c.loop-turn._turn c.loop-turn-test.true c.loop-turn.invariant in
    first_of (search rules, grind (arith, common_steps))

pub returns-in_err-named : goal.returns-in_err-named
unfolding further_imports
returns-in_err-named c =
    let e = one_more (λ n. further_imports c.args.limits n (record { names = c.loop-turn.names; notes = c.loop-turn.notes }) c.loop-turn.tokens) _ c.loop-turn._turn c.loop-turn-test.true c.loop-turn.invariant in
    first_of (search rules, grind (arith, common_steps))

pub returns-in_err-notes : goal.returns-in_err-notes
unfolding further_imports
returns-in_err-notes c =
    let e = one_more (λ n. further_imports c.args.limits n (record { names = c.loop-turn.names; notes = c.loop-turn.notes }) c.loop-turn.tokens) _ c.loop-turn._turn c.loop-turn-test.true c.loop-turn.invariant in
    first_of (search rules, grind (arith, common_steps))

pub loop-turn-preserved : goal.loop-turn-preserved
unfolding further_imports
loop-turn-preserved c =
    let e = one_more (λ n. further_imports c.args.limits n (record { names = c.loop-turn.names; notes = c.loop-turn.notes }) c.loop-turn.tokens) _ c.loop-turn._turn c.loop-turn-test.true c.loop-turn.invariant in
    first_of (search rules, grind (arith, common_steps))

pub returns : goal.returns
unfolding further_imports
returns c =
    let e = no_more (λ n. further_imports c.args.limits n (record { names = c.loop-turn.names; notes = c.loop-turn.notes }) c.loop-turn.tokens) _ c.loop-turn._turn c.loop-turn-test.false c.loop-turn.invariant in
    first_of (search rules, grind (arith, common_steps))
