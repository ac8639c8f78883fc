use Rattle.std.proofs.Common.{◌≡◌, ◌-◌, ◌≤◌, ◌<◌, Some, []}
use Rattle.jav_parse_expr.specs.PrimaryRules.{further_sizes}
use Rattle.jav_parse_expr.specs.ExprRules.{expr, inside}
use Rattle.jav_parse_expr.proofs.primary.Grammar.further_sizes.Given as goal

abbrev pub invariant-loop-count : goal.invariant-loop-count
invariant-loop-count g l = record {
  same : further_sizes l.self.limits l.self.top l.self.rooms (inside l.self.limits l.self.rooms) l.at l.fn.base (l.self.limits.most - 1) 1 l.fn.first l.fn.tokens ≡ further_sizes l.self.limits l.self.top l.self.rooms (inside l.self.limits l.self.rooms) l.at l.fn.base (l.count-end - l.count) l.count l.sizes l.tokens;
  low : l.sizes.height < l.self.rooms.rest;
  kept : l.base ≡ l.fn.base;
}
