use Rattle.std.proofs.Common.{◌≡◌, length, map}
use Rattle.jav_parse_cursor.specs.Sorts.{looked_up}
use Rattle.jav_parse_cursor.proofs.sort.looked_up.Given as goal

abbrev pub invariant-loop-after : goal.invariant-loop-after
invariant-loop-after l = looked_up (map (λ row. (row.0.now, row.1)) l.after) l.text ≡ looked_up (map (λ row. (row.0.now, row.1)) l.initial.after) l.text

abbrev pub decreases-loop-after : goal.decreases-loop-after
decreases-loop-after l = length l.after
