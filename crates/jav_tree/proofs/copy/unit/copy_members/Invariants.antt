use Rattle.std.proofs.Common.{◌≡◌, take}
use Rattle.jav_tree.proofs.copy.unit.copy_members.Given as goal

abbrev pub invariant-loop-member : goal.invariant-loop-member
invariant-loop-member l = l.all ≡ take l.member-index l.members
