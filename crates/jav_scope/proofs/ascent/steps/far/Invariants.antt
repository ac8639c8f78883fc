use Rattle.std.proofs.Common.{◌≡◌, ◌-◌, ◌<◌, length, map}
use Rattle.std.specs.List.{range_with_len}
use Rattle.jav_scope.specs.ascent.Walked.{walked}
use Rattle.jav_scope.proofs.ascent.steps.far.Given as goal

abbrev pub invariant-loop-steps : goal.invariant-loop-steps
invariant-loop-steps l = record {
  positive : 0 < l.steps;
  places : l.far.items ≡ map (walked l.links l.steps) (range_with_len 0 (length l.links));
}

abbrev pub decreases-loop-steps : goal.decreases-loop-steps
decreases-loop-steps l = length l.links - l.steps
