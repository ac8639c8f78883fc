use Rattle.std.proofs.Common.{◌≡◌, map, drop, max}
use Rattle.jav_tree.specs.Height.{tallest}
use Rattle.jav_print_height.specs.PrintedHeights.{stmt_height}
use Rattle.jav_print_height.proofs.stmt.+printed.Given as goal

abbrev pub invariant-tallest_stmts-loop-item : goal.invariant-tallest_stmts-loop-item
invariant-tallest_stmts-loop-item l = max l.most (tallest (map stmt_height (drop l.item-index l.items))) ≡ tallest (map stmt_height l.items)
