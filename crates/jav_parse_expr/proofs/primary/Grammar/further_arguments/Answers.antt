use Rattle.std.proofs.Common.{◌≡◌, ◌∙◌, ◌-◌, ap, arith, rules, true, false, Some, []}
use Rattle.std.proofs.lemmas.Grind.{common_steps}
use Rattle.jav_parse_expr.specs.PrimaryRules.{further_arguments}
use Rattle.jav_parse_expr.specs.ExprRules.{expr, inside}
use Rattle.jav_parse_expr.specs.declared.primary.Goal.TheVariants.{Level, Init}
use Rattle.jav_parse_cursor.proofs.Turns.{one_more, no_more}
use Rattle.jav_parse_expr.proofs.primary.Grammar.further_arguments.Goals as goal

pub returns-then-not-is-clause-reads : goal.returns-then-not-is-clause-reads
unfolding further_arguments
returns-then-not-is-clause-reads g c =
    let e = one_more (λ n. further_arguments (expr c.args.self.now.limits (c.args.room - 1) (Level 1)) n c.loop-turn.all c.loop-turn.tokens) _ c.loop-turn._turn c.loop-turn-test.true c.loop-turn.invariant.same in
    first_of (search rules, grind (arith, common_steps))

pub returns-in_err-take-clause-reads : goal.returns-in_err-take-clause-reads
unfolding further_arguments
returns-in_err-take-clause-reads g c =
    let e = one_more (λ n. further_arguments (expr c.args.self.now.limits (c.args.room - 1) (Level 1)) n c.loop-turn.all c.loop-turn.tokens) _ c.loop-turn._turn c.loop-turn-test.true c.loop-turn.invariant.same in
    first_of (search rules, grind (arith, common_steps))

pub returns-in_err-x-clause-reads : goal.returns-in_err-x-clause-reads
unfolding further_arguments
returns-in_err-x-clause-reads g c =
    let e = one_more (λ n. further_arguments (expr c.args.self.now.limits (c.args.room - 1) (Level 1)) n c.loop-turn.all c.loop-turn.tokens) _ c.loop-turn._turn c.loop-turn-test.true c.loop-turn.invariant.same in
    first_of (search rules, grind (arith, common_steps))

pub loop-turn-preserved : goal.loop-turn-preserved
unfolding further_arguments
loop-turn-preserved g c =
    let e = one_more (λ n. further_arguments (expr c.args.self.now.limits (c.args.room - 1) (Level 1)) n c.loop-turn.all c.loop-turn.tokens) _ c.loop-turn._turn c.loop-turn-test.true c.loop-turn.invariant.same in
    first_of (search rules, grind (arith, common_steps))

pub returns-clause-reads : goal.returns-clause-reads
unfolding further_arguments
returns-clause-reads g c =
    let e = no_more (λ n. further_arguments (expr c.args.self.now.limits (c.args.room - 1) (Level 1)) n c.loop-turn.all c.loop-turn.tokens) _ c.loop-turn._turn c.loop-turn-test.false c.loop-turn.invariant.same in
    first_of (search rules, grind (arith, common_steps))
