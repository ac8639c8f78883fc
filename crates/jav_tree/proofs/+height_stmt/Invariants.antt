use Rattle.std.proofs.Common.{◌≡◌, map, drop, max}
use Rattle.jav_tree.specs.Height.{stmt_height, tallest}
use Rattle.jav_tree.proofs.+height_stmt.Given as goal

abbrev pub invariant-height::stmt::tallest_stmts-loop-item : goal.invariant-height::stmt::tallest_stmts-loop-item
invariant-height::stmt::tallest_stmts-loop-item l = max l.most (tallest (map stmt_height (drop l.item-index l.items))) ≡ tallest (map stmt_height l.items)
