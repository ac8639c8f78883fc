use Rattle.std.proofs.Common.{ℕ, filter_map, take}
use Rattle.jav_tree.specs.declared.unit.Unit.{Unit}
use Rattle.jav_names.specs.UnitViews.{numbered, field_in, declaration_in}
use Rattle.jav_names.specs.Views.{Classes}
use Rattle.jav_scope.specs.MemberLists.{AreAdded}
use Rattle.jav_scope.proofs.member_entries.MemberEntries.add_all.Given as goal

abbrev pub invariant-loop-place : goal.invariant-loop-place
invariant-loop-place l = (classes : Classes ℕ) (source : Unit) → AreAdded l.fn.self l.self
    (filter_map (field_in classes (l.unit, source)) (numbered (take l.place l.members)))
    (filter_map (declaration_in classes (l.unit, source)) (numbered (take l.place l.members)))
