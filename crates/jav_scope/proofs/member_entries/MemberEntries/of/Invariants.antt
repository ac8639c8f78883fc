use Rattle.std.proofs.Common.{flat_map, take}
use Rattle.jav_names.specs.UnitViews.{numbered, fields_of, declarations_of}
use Rattle.jav_scope.specs.Entries.{units_of, classes_in}
use Rattle.jav_scope.specs.MemberLists.{AreListed}
use Rattle.jav_scope.proofs.member_entries.MemberEntries.of.Given as goal

abbrev pub invariant-loop-place : goal.invariant-loop-place
invariant-loop-place l = AreListed l.entries
    (flat_map (fields_of (classes_in l.sources)) (numbered (units_of (take l.place l.sources))))
    (flat_map (declarations_of (classes_in l.sources)) (numbered (units_of (take l.place l.sources))))
