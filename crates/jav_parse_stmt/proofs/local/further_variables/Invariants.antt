use Rattle.std.proofs.Common.{◌≡◌, ◌-◌, ◌≤◌, ◌<◌, Some, []}
use Rattle.jav_parse_stmt.specs.LocalRules.{further_variables}
use Rattle.jav_parse_stmt.proofs.local.further_variables.Given as goal

abbrev pub invariant-loop-turn : goal.invariant-loop-turn
invariant-loop-turn l = record {
  same : further_variables l.limits l.top l.limits.turns l.fn.first l.fn.tokens ≡ further_variables l.limits l.top (l._turn-end - l._turn) l.all l.tokens;
  low : l.all.height ≤ l.top;
}
