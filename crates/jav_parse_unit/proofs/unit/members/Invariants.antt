use Rattle.std.proofs.Common.{◌≡◌, ◌-◌, ◌≤◌, ◌<◌, Some, []}
use Rattle.jav_parse_unit.specs.UnitRules.{members}
use Rattle.jav_parse_unit.proofs.unit.members.Given as goal

abbrev pub invariant-loop-turn : goal.invariant-loop-turn
invariant-loop-turn l = members l.limits l.top (Some l.class) l.limits.turns [] l.fn.tokens ≡ members l.limits l.top (Some l.class) (l._turn-end - l._turn) l.items l.tokens
