use Rattle.std.proofs.Common.{◌≡◌, ◌∙◌, ap, arith, rules}
use Rattle.std.proofs.lemmas.Grind.{common_steps}
use Rattle.jav_parse_stmt.specs.StmtRules.{stmt}
use Rattle.jav_parse_stmt.proofs.AtHeight.{stmt_is}
use Rattle.jav_parse_stmt.proofs.stmt.+stmt.Goals as goal

pub returns-then-top-eq0-clause-reads : goal.returns-then-top-eq0-clause-reads
unfolding stmt
returns-then-top-eq0-clause-reads t c =
    let none : c.args.top ≡ 0 = omega arith in
    ap (λ n. stmt c.args.limits n c.args.place c.args.tokens.now) none

pub returns-clause-reads : goal.returns-clause-reads
returns-clause-reads t c =
    let e = stmt_is c.args.limits c.args.top c.args.place (omega arith) c.args.tokens.now in
    first_of (search rules, grind (arith, common_steps))
