use Rattle.std.proofs.Common.{◌≡◌, take}
use Rattle.jav_names.specs.LookUps.{last_place}
use Rattle.jav_scope.proofs.places.last_place.Given as goal

abbrev pub invariant-loop-place : goal.invariant-loop-place
invariant-loop-place l = l.last ≡ last_place l.name (take l.place l.names)
