use Rattle.std.proofs.Common.{◌≡◌, ◌∙◌, ◌-◌, ap, arith, rules, true, false, Some, []}
use Rattle.std.proofs.lemmas.Grind.{common_steps}
use Rattle.jav_parse_unit.specs.WordRules.{words, fit_class, no_words}
use Rattle.jav_parse_cursor.proofs.Turns.{one_more, no_more}
use Rattle.jav_parse_unit.proofs.words.class_words.Goals as goal

pub returns-then-not-is_word : goal.returns-then-not-is_word
unfolding words
returns-then-not-is_word c =
    let e = one_more (λ n. words fit_class n c.loop-turn.all c.loop-turn.tokens) _ c.loop-turn._turn c.loop-turn-test.true c.loop-turn.invariant in
    first_of (search rules, grind (arith, common_steps))

pub returns-in_default : goal.returns-in_default
unfolding words
returns-in_default c =
    let e = one_more (λ n. words fit_class n c.loop-turn.all c.loop-turn.tokens) _ c.loop-turn._turn c.loop-turn-test.true c.loop-turn.invariant in
    first_of (search rules, grind (arith, common_steps))

pub returns-in_default-2 : goal.returns-in_default-2
unfolding words
returns-in_default-2 c =
    let e = one_more (λ n. words fit_class n c.loop-turn.all c.loop-turn.tokens) _ c.loop-turn._turn c.loop-turn-test.true c.loop-turn.invariant in
    first_of (search rules, grind (arith, common_steps))

pub returns-in_err-take_word : goal.returns-in_err-take_word
unfolding words
returns-in_err-take_word c =
    let e = one_more (λ n. words fit_class n c.loop-turn.all c.loop-turn.tokens) _ c.loop-turn._turn c.loop-turn-test.true c.loop-turn.invariant in
    first_of (search rules, grind (arith, common_steps))

pub loop-turn-preserved : goal.loop-turn-preserved
unfolding words
loop-turn-preserved c =
    let e = one_more (λ n. words fit_class n c.loop-turn.all c.loop-turn.tokens) _ c.loop-turn._turn c.loop-turn-test.true c.loop-turn.invariant in
    first_of (search rules, grind (arith, common_steps))

pub returns : goal.returns
unfolding words
returns c =
    let e = no_more (λ n. words fit_class n c.loop-turn.all c.loop-turn.tokens) _ c.loop-turn._turn c.loop-turn-test.false c.loop-turn.invariant in
    first_of (search rules, grind (arith, common_steps))
