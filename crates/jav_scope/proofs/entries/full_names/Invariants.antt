use Rattle.std.proofs.Common.{◌≡◌, map, take}
use Rattle.jav_names.specs.UnitViews.{numbered}
use Rattle.jav_scope.specs.Entries.{units_of, class_entry}
use Rattle.jav_scope.proofs.entries.full_names.Given as goal

abbrev pub invariant-loop-place : goal.invariant-loop-place
invariant-loop-place l = l.entries.items ≡ map class_entry (numbered (units_of (take l.place l.sources)))
