use Rattle.std.proofs.Common.{◌≡◌, map, drop, max}
use Rattle.jav_tree.specs.Height.{tallest}
use Rattle.jav_print_height.specs.Measures.{measure, heights}
use Rattle.jav_print_height.proofs.expr.+measure.Given as goal

abbrev pub invariant-highest-loop-item : goal.invariant-highest-loop-item
invariant-highest-loop-item l = max l.most (tallest (heights (map measure (drop l.item-index l.items)))) ≡ tallest (heights (map measure l.items))
