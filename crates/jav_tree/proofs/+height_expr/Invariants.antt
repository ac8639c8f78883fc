use Rattle.std.proofs.Common.{◌≡◌, map, drop, max}
use Rattle.jav_tree.specs.Height.{expr_height, tallest}
use Rattle.jav_tree.proofs.+height_expr.Given as goal

abbrev pub invariant-height::expr::tallest-loop-item : goal.invariant-height::expr::tallest-loop-item
invariant-height::expr::tallest-loop-item l = max l.most (tallest (map expr_height (drop l.item-index l.items))) ≡ tallest (map expr_height l.items)
