use Rattle.std.proofs.Common.{◌≡◌, length, map}
use Rattle.jav_parse_unit.specs.FeatureTables.{found}
use Rattle.jav_parse_unit.proofs.feature.looked_up.Given as goal

abbrev pub invariant-loop-after : goal.invariant-loop-after
invariant-loop-after l = found (map (λ row. (row.0.now, row.1)) l.after) l.text ≡ found (map (λ row. (row.0.now, row.1)) l.initial.after) l.text

abbrev pub decreases-loop-after : goal.decreases-loop-after
decreases-loop-after l = length l.after
