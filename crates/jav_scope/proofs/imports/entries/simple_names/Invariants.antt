use Rattle.std.proofs.Common.{◌≡◌, map, take}
use Rattle.jav_scope.specs.Entries.{import_entry}
use Rattle.jav_names.specs.UnitViews.{numbered}
use Rattle.jav_scope.proofs.imports.entries.simple_names.Given as goal

abbrev pub invariant-loop-place : goal.invariant-loop-place
invariant-loop-place l = l.entries.items ≡ map (import_entry 0) (numbered (take l.place l.imports))
