use Rattle.std.proofs.Common.{◌≡◌, ◌↔◌, map, drop}
use Rattle.jav_tree.specs.Places.{unplaced_member}
use Rattle.jav_tree.proofs.same.unit.same_members.Given as goal

abbrev pub invariant-loop-i : goal.invariant-loop-i
invariant-loop-i l = (map unplaced_member (drop l.i l.items) ≡ map unplaced_member (drop l.i l.others)) ↔ (map unplaced_member l.items ≡ map unplaced_member l.others)
