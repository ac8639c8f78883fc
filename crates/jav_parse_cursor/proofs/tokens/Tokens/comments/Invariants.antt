use Rattle.std.proofs.Common.{◌≡◌, ◌-◌, ◌≤◌, ◌<◌, Some, []}
use Rattle.jav_parse_cursor.specs.Reading.{comments}
use Rattle.jav_parse_cursor.proofs.tokens.Tokens.comments.Given as goal

abbrev pub invariant-loop-turn : goal.invariant-loop-turn
invariant-loop-turn l = comments l.limits.turns l.fn.notes l.fn.self ≡ comments (l._turn-end - l._turn) l.all l.self
