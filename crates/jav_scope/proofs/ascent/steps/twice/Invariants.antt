use Rattle.std.proofs.Common.{◌≡◌, map, slice_index, take}
use Rattle.jav_scope.proofs.ascent.steps.twice.Given as goal

abbrev pub invariant-loop-place : goal.invariant-loop-place
invariant-loop-place l = l.twice.items ≡ map (slice_index l.far) (take l.place-index l.far)
