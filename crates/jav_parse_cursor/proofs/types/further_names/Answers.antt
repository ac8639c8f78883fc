use Rattle.std.proofs.Common.{◌≡◌, ◌∙◌, ◌-◌, ap, arith, rules, true, false, refl, [], ◌∷◌, ◌++◌}
use Rattle.std.proofs.lemmas.Grind.{common_steps}
use Rattle.jav_lex.specs.Token.{seen}
use Rattle.jav_parse_cursor.specs.TypeRules.{further_names}
use Rattle.jav_parse_cursor.proofs.Turns.{one_more, no_more}
use Rattle.jav_parse_cursor.proofs.types.further_names.Goals as goal

pub loop-turn-init : goal.loop-turn-init
loop-turn-init c =
    let e : c.args.limits.turns ≡ c.args.limits.turns - 0 = omega arith in
    (seen c.args.first.now ∷ [], ap (λ n. further_names n (seen c.args.first.now ∷ []) c.args.tokens.now) e)

pub returns-then-not-is : goal.returns-then-not-is
unfolding further_names
returns-then-not-is c =
    let e = one_more (λ n. further_names n c.loop-turn.invariant.0 c.loop-turn.tokens) _ c.loop-turn._turn c.loop-turn-test.true c.loop-turn.invariant.1 in
    (c.loop-turn.invariant.0, first_of (search rules, grind (arith, common_steps)))

pub returns-in_err-_dot : goal.returns-in_err-_dot
unfolding further_names
returns-in_err-_dot c =
    let e = one_more (λ n. further_names n c.loop-turn.invariant.0 c.loop-turn.tokens) _ c.loop-turn._turn c.loop-turn-test.true c.loop-turn.invariant.1 in
    first_of (search rules, grind (arith, common_steps))

pub returns-in_err-_name : goal.returns-in_err-_name
unfolding further_names
returns-in_err-_name c =
    let e = one_more (λ n. further_names n c.loop-turn.invariant.0 c.loop-turn.tokens) _ c.loop-turn._turn c.loop-turn-test.true c.loop-turn.invariant.1 in
    first_of (search rules, grind (arith, common_steps))

pub loop-turn-preserved : goal.loop-turn-preserved
unfolding further_names
loop-turn-preserved c =
    let e = one_more (λ n. further_names n c.loop-turn.invariant.0 c.loop-turn.tokens) _ c.loop-turn._turn c.loop-turn-test.true c.loop-turn.invariant.1 in
    (c.loop-turn.invariant.0 ++ seen c.in_ok-_dot._dot.now ∷ seen c.in_ok-_name._name.now ∷ [], first_of (search rules, grind (arith, common_steps)))

pub returns : goal.returns
unfolding further_names
returns c =
    let e = no_more (λ n. further_names n c.loop-turn.invariant.0 c.loop-turn.tokens) _ c.loop-turn._turn c.loop-turn-test.false c.loop-turn.invariant.1 in
    first_of (search rules, grind (arith, common_steps))
