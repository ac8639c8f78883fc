use Rattle.std.proofs.Common.{◌≡◌, map, drop, max}
use Rattle.jav_tree.specs.Height.{tallest}
use Rattle.jav_print_height.specs.PrintedHeights.{member_height}
use Rattle.jav_print_height.proofs.unit.tallest_members.Given as goal

abbrev pub invariant-loop-item : goal.invariant-loop-item
invariant-loop-item l = max l.most (tallest (map member_height (drop l.item-index l.members))) ≡ tallest (map member_height l.members)
