use Rattle.std.proofs.Common.{◌≡◌, ◌∙◌, ◌-◌, ap, arith, rules, true, false, Some, []}
use Rattle.std.proofs.lemmas.Grind.{common_steps}
use Rattle.jav_parse_stmt.specs.StmtRules.{statements, stmt}
use Rattle.jav_parse_stmt.specs.declared.stmt.Place.TheVariants.{Item}
use Rattle.jav_parse_cursor.proofs.Turns.{one_more, no_more}
use Rattle.jav_parse_stmt.proofs.stmt.Rules.statements.Goals as goal

pub returns-in_err-notes-clause-reads : goal.returns-in_err-notes-clause-reads
unfolding statements
returns-in_err-notes-clause-reads g c =
    let e = one_more (λ n. statements c.args.self.now.limits (stmt c.args.self.now.limits c.args.room Item) c.args.room n c.loop-turn.all c.loop-turn.tokens) _ c.loop-turn._turn c.loop-turn-test.true c.loop-turn.invariant.same in
    first_of (search rules, grind (arith, common_steps))

pub returns-in_err-take-clause-reads : goal.returns-in_err-take-clause-reads
unfolding statements
returns-in_err-take-clause-reads g c =
    let e = one_more (λ n. statements c.args.self.now.limits (stmt c.args.self.now.limits c.args.room Item) c.args.room n c.loop-turn.all c.loop-turn.tokens) _ c.loop-turn._turn c.loop-turn-test.true c.loop-turn.invariant.same in
    first_of (search rules, grind (arith, common_steps))

pub returns-then-is-clause-reads : goal.returns-then-is-clause-reads
unfolding statements
returns-then-is-clause-reads g c =
    let e = one_more (λ n. statements c.args.self.now.limits (stmt c.args.self.now.limits c.args.room Item) c.args.room n c.loop-turn.all c.loop-turn.tokens) _ c.loop-turn._turn c.loop-turn-test.true c.loop-turn.invariant.same in
    first_of (search rules, grind (arith, common_steps))

pub returns-in_err-all-clause-reads : goal.returns-in_err-all-clause-reads
unfolding statements
returns-in_err-all-clause-reads g c =
    let e = one_more (λ n. statements c.args.self.now.limits (stmt c.args.self.now.limits c.args.room Item) c.args.room n c.loop-turn.all c.loop-turn.tokens) _ c.loop-turn._turn c.loop-turn-test.true c.loop-turn.invariant.same in
    first_of (search rules, grind (arith, common_steps))

pub loop-turn-preserved : goal.loop-turn-preserved
unfolding statements
loop-turn-preserved g c =
    let e = one_more (λ n. statements c.args.self.now.limits (stmt c.args.self.now.limits c.args.room Item) c.args.room n c.loop-turn.all c.loop-turn.tokens) _ c.loop-turn._turn c.loop-turn-test.true c.loop-turn.invariant.same in
    first_of (search rules, grind (arith, common_steps))

pub returns-clause-reads : goal.returns-clause-reads
unfolding statements
returns-clause-reads g c =
    let e = no_more (λ n. statements c.args.self.now.limits (stmt c.args.self.now.limits c.args.room Item) c.args.room n c.loop-turn.all c.loop-turn.tokens) _ c.loop-turn._turn c.loop-turn-test.false c.loop-turn.invariant.same in
    first_of (search rules, grind (arith, common_steps))
