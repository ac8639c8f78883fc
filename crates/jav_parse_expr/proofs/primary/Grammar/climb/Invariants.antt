use Rattle.std.proofs.Common.{◌≡◌, ◌-◌, ◌≤◌, ◌<◌, Some, []}
use Rattle.jav_parse_expr.specs.ExprRules.{climb, expr}
use Rattle.jav_parse_expr.proofs.primary.Grammar.climb.Given as goal

abbrev pub invariant-loop-turn : goal.invariant-loop-turn
invariant-loop-turn g l = record {
  same : climb l.self.limits l.self.top (expr l.self.limits (l.self.top - 1)) (expr l.self.limits (l.self.top - 1 - 1)) l.self.top l.least 12 l.fn.first l.fn.tokens ≡ climb l.self.limits l.self.top (expr l.self.limits (l.self.top - 1)) (expr l.self.limits (l.self.top - 1 - 1)) (l._turn-end - l._turn) l.least l.cap l.left l.tokens;
  low : l.left.height ≤ l.self.top;
}
