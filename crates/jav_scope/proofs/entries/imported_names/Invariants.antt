use Rattle.std.proofs.Common.{◌≡◌, flat_map, take}
use Rattle.jav_names.specs.UnitViews.{numbered}
use Rattle.jav_scope.specs.Entries.{units_of, import_entries}
use Rattle.jav_scope.proofs.entries.imported_names.Given as goal

abbrev pub invariant-loop-place : goal.invariant-loop-place
invariant-loop-place l = l.entries.items ≡ flat_map import_entries (numbered (units_of (take l.place l.sources)))
