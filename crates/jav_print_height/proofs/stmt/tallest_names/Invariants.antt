use Rattle.std.proofs.Common.{◌≡◌, map, drop, max}
use Rattle.jav_tree.specs.Height.{tallest}
use Rattle.jav_print_height.specs.PrintedHeights.{declarator_height}
use Rattle.jav_print_height.proofs.stmt.tallest_names.Given as goal

abbrev pub invariant-loop-item : goal.invariant-loop-item
invariant-loop-item l = max l.most (tallest (map declarator_height (drop l.item-index l.names))) ≡ tallest (map declarator_height l.names)
