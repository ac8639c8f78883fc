use Rattle.std.proofs.Common.{◌≡◌, ◌∙◌, ◌-◌, ap, arith, rules, true, false, Some, []}
use Rattle.std.proofs.lemmas.Grind.{common_steps}
use Rattle.jav_parse_expr.specs.PrimaryRules.{further_sizes}
use Rattle.jav_parse_expr.specs.ExprRules.{expr, inside}
use Rattle.jav_parse_cursor.proofs.Turns.{one_more, no_more}
use Rattle.jav_parse_expr.proofs.primary.Grammar.further_sizes.Goals as goal

pub returns-then-not-is-clause-reads : goal.returns-then-not-is-clause-reads
unfolding further_sizes
returns-then-not-is-clause-reads g c =
    let b = c.loop-count.invariant.kept in
    let e = one_more (λ n. further_sizes c.args.self.now.limits c.args.self.now.top c.args.self.now.rooms (inside c.args.self.now.limits c.args.self.now.rooms) c.args.at c.args.base n c.loop-count.count c.loop-count.sizes c.loop-count.tokens) _ c.loop-count.count c.loop-count-test.true c.loop-count.invariant.same in
    first_of (search rules, grind (arith, common_steps))

pub returns-in_err-take-clause-reads : goal.returns-in_err-take-clause-reads
unfolding further_sizes
returns-in_err-take-clause-reads g c =
    let b = c.loop-count.invariant.kept in
    let e = one_more (λ n. further_sizes c.args.self.now.limits c.args.self.now.top c.args.self.now.rooms (inside c.args.self.now.limits c.args.self.now.rooms) c.args.at c.args.base n c.loop-count.count c.loop-count.sizes c.loop-count.tokens) _ c.loop-count.count c.loop-count-test.true c.loop-count.invariant.same in
    first_of (search rules, grind (arith, common_steps))

pub returns-then-is-clause-reads : goal.returns-then-is-clause-reads
unfolding further_sizes
returns-then-is-clause-reads g c =
    let b = c.loop-count.invariant.kept in
    let e = one_more (λ n. further_sizes c.args.self.now.limits c.args.self.now.top c.args.self.now.rooms (inside c.args.self.now.limits c.args.self.now.rooms) c.args.at c.args.base n c.loop-count.count c.loop-count.sizes c.loop-count.tokens) _ c.loop-count.count c.loop-count-test.true c.loop-count.invariant.same in
    first_of (search rules, grind (arith, common_steps))

pub returns-in_err-size-clause-reads : goal.returns-in_err-size-clause-reads
unfolding further_sizes
returns-in_err-size-clause-reads g c =
    let b = c.loop-count.invariant.kept in
    let e = one_more (λ n. further_sizes c.args.self.now.limits c.args.self.now.top c.args.self.now.rooms (inside c.args.self.now.limits c.args.self.now.rooms) c.args.at c.args.base n c.loop-count.count c.loop-count.sizes c.loop-count.tokens) _ c.loop-count.count c.loop-count-test.true c.loop-count.invariant.same in
    first_of (search rules, grind (arith, common_steps))

pub returns-in_err-expect-clause-reads : goal.returns-in_err-expect-clause-reads
unfolding further_sizes
returns-in_err-expect-clause-reads g c =
    let b = c.loop-count.invariant.kept in
    let e = one_more (λ n. further_sizes c.args.self.now.limits c.args.self.now.top c.args.self.now.rooms (inside c.args.self.now.limits c.args.self.now.rooms) c.args.at c.args.base n c.loop-count.count c.loop-count.sizes c.loop-count.tokens) _ c.loop-count.count c.loop-count-test.true c.loop-count.invariant.same in
    first_of (search rules, grind (arith, common_steps))

pub loop-count-preserved : goal.loop-count-preserved
unfolding further_sizes
loop-count-preserved g c =
    let b = c.loop-count.invariant.kept in
    let e = one_more (λ n. further_sizes c.args.self.now.limits c.args.self.now.top c.args.self.now.rooms (inside c.args.self.now.limits c.args.self.now.rooms) c.args.at c.args.base n c.loop-count.count c.loop-count.sizes c.loop-count.tokens) _ c.loop-count.count c.loop-count-test.true c.loop-count.invariant.same in
    first_of (search rules, grind (arith, common_steps))

pub returns-clause-reads : goal.returns-clause-reads
unfolding further_sizes
returns-clause-reads g c =
    let b = c.loop-count.invariant.kept in
    let e = no_more (λ n. further_sizes c.args.self.now.limits c.args.self.now.top c.args.self.now.rooms (inside c.args.self.now.limits c.args.self.now.rooms) c.args.at c.args.base n c.loop-count.count c.loop-count.sizes c.loop-count.tokens) _ c.loop-count.count c.loop-count-test.false c.loop-count.invariant.same in
    first_of (search rules, grind (arith, common_steps))
