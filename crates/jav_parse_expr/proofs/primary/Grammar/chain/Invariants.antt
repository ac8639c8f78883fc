use Rattle.std.proofs.Common.{◌≡◌, ◌-◌, ◌≤◌, ◌<◌, Some, []}
use Rattle.jav_parse_expr.specs.PrimaryRules.{chain}
use Rattle.jav_parse_expr.specs.ExprRules.{expr, inside}
use Rattle.jav_parse_expr.proofs.primary.Grammar.chain.Given as goal

abbrev pub invariant-loop-turn : goal.invariant-loop-turn
invariant-loop-turn g l = record {
  same : chain l.self.limits l.self.top l.self.rooms (inside l.self.limits l.self.rooms) l.self.top l.fn.first l.fn.tokens ≡ chain l.self.limits l.self.top l.self.rooms (inside l.self.limits l.self.rooms) (l._turn-end - l._turn) l.left l.tokens;
  low : l.left.height ≤ l.self.top;
}
