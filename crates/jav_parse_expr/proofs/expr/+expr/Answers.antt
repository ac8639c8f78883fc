use Rattle.std.proofs.Common.{◌≡◌, ◌∙◌, ap, arith, rules}
use Rattle.std.proofs.lemmas.Grind.{common_steps}
use Rattle.jav_parse_expr.specs.ExprRules.{expr}
use Rattle.jav_parse_expr.specs.declared.primary.Goal.TheVariants.{Level, Target, Init, After}
use Rattle.jav_parse_expr.proofs.AtHeight.{expr_is}
use Rattle.jav_parse_expr.proofs.expr.+expr.Goals as goal

pub returns-then-top-eq0-clause-reads : goal.returns-then-top-eq0-clause-reads
unfolding expr
returns-then-top-eq0-clause-reads t c =
    let none : c.args.top ≡ 0 = omega arith in
    ap (λ n. expr c.args.limits n c.args.goal c.args.tokens.now) none

pub returns-in-Level-clause-reads : goal.returns-in-Level-clause-reads
returns-in-Level-clause-reads t c =
    let e = expr_is c.args.limits c.args.top c.args.goal (omega arith) c.args.tokens.now in
    first_of (search rules, grind (arith, common_steps))

pub returns-in-Target-goal-clause-reads : goal.returns-in-Target-goal-clause-reads
returns-in-Target-goal-clause-reads t c =
    let e = expr_is c.args.limits c.args.top c.args.goal (omega arith) c.args.tokens.now in
    first_of (search rules, grind (arith, common_steps))

pub returns-in-Init-clause-reads : goal.returns-in-Init-clause-reads
returns-in-Init-clause-reads t c =
    let e = expr_is c.args.limits c.args.top c.args.goal (omega arith) c.args.tokens.now in
    first_of (search rules, grind (arith, common_steps))

pub returns-in-After-clause-reads : goal.returns-in-After-clause-reads
returns-in-After-clause-reads t c =
    let e = expr_is c.args.limits c.args.top c.args.goal (omega arith) c.args.tokens.now in
    first_of (search rules, grind (arith, common_steps))
