use Rattle.std.proofs.Common.{◌≡◌, map, take}
use Rattle.jav_tree.specs.Parens.{expr_without_parens}
use Rattle.jav_tree.proofs.+bare_expr.Given as goal

abbrev pub invariant-bare::expr::bare_all-loop-item : goal.invariant-bare::expr::bare_all-loop-item
invariant-bare::expr::bare_all-loop-item l = l.all ≡ map expr_without_parens (take l.item-index l.items)
