use Rattle.std.proofs.Common.{◌≡◌, ◌↔◌, map, drop}
use Rattle.jav_tree.specs.Places.{unplaced_expr}
use Rattle.jav_tree.proofs.+same_expr.Given as goal

abbrev pub invariant-same::expr::same_all-loop-i : goal.invariant-same::expr::same_all-loop-i
invariant-same::expr::same_all-loop-i l = (map unplaced_expr (drop l.i l.items) ≡ map unplaced_expr (drop l.i l.others)) ↔ (map unplaced_expr l.items ≡ map unplaced_expr l.others)
