use Rattle.std.proofs.Common.{◌≡◌, ◌-◌, ◌≤◌, ◌<◌, Some, []}
use Rattle.jav_parse_unit.specs.MemberRules.{further_params}
use Rattle.jav_parse_unit.proofs.member.further_params.Given as goal

abbrev pub invariant-loop-turn : goal.invariant-loop-turn
invariant-loop-turn l = further_params l.limits (l.limits.most - 1) l.fn.first l.fn.tokens ≡ further_params l.limits (l._turn-end - l._turn) l.all l.tokens
