use Rattle.std.proofs.Common.{◌≡◌, ◌-◌, ◌≤◌, ◌<◌, Some, []}
use Rattle.jav_parse_expr.specs.PrimaryRules.{further_items}
use Rattle.jav_parse_expr.specs.ExprRules.{expr, inside}
use Rattle.jav_parse_expr.specs.declared.primary.Goal.TheVariants.{Level, Init}
use Rattle.jav_parse_expr.proofs.primary.Grammar.further_items.Given as goal

abbrev pub invariant-loop-turn : goal.invariant-loop-turn
invariant-loop-turn g l = record {
  same : further_items (expr l.self.limits (l.room - 1) Init) l.self.limits.turns l.fn.first l.fn.tokens ≡ further_items (expr l.self.limits (l.room - 1) Init) (l._turn-end - l._turn) l.all l.tokens;
  low : l.all.height ≤ l.room - 1;
}
