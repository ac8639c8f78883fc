use Rattle.std.proofs.Common.{◌≡◌, take}
use Rattle.jav_tree.proofs.+copy_expr.Given as goal

abbrev pub invariant-copy::expr::copy_all-loop-item : goal.invariant-copy::expr::copy_all-loop-item
invariant-copy::expr::copy_all-loop-item l = l.all ≡ take l.item-index l.items
