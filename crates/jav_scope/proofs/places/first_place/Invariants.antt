use Rattle.std.proofs.Common.{◌≡◌, take, None}
use Rattle.jav_names.specs.LookUps.{first_place}
use Rattle.jav_scope.proofs.places.first_place.Given as goal

abbrev pub invariant-loop-place : goal.invariant-loop-place
invariant-loop-place l = first_place l.name (take l.place l.names) ≡ None
