use Rattle.std.proofs.Common.{◌≡◌, ◌-◌, ◌≤◌, ◌<◌, Some, []}
use Rattle.jav_parse_cursor.specs.TypeRules.{brackets}
use Rattle.jav_parse_cursor.proofs.types.brackets.Given as goal

abbrev pub invariant-loop-turn : goal.invariant-loop-turn
invariant-loop-turn l = record {
  same : brackets (l.fn.limits.most - l.fn.before) l.fn.before l.fn.tokens ≡ brackets (l._turn-end - l._turn) l.count l.tokens;
  counted : l.count ≡ l._turn;
}
