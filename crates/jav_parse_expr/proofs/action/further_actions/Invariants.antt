use Rattle.std.proofs.Common.{◌≡◌, ◌-◌, ◌≤◌, ◌<◌, Some, []}
use Rattle.jav_parse_expr.specs.ActionRules.{further_actions}
use Rattle.jav_parse_expr.proofs.action.further_actions.Given as goal

abbrev pub invariant-loop-turn : goal.invariant-loop-turn
invariant-loop-turn l = record {
  same : further_actions l.limits l.top l.limits.turns l.fn.first l.fn.tokens ≡ further_actions l.limits l.top (l._turn-end - l._turn) l.all l.tokens;
  low : l.all.height ≤ l.top;
}
