use Rattle.std.proofs.Common.{◌≡◌, map, take}
use Rattle.jav_tree.specs.EachExpression.{map_stmt}
use Rattle.jav_tree.specs.Parens.{expr_without_parens}
use Rattle.jav_tree.proofs.+bare_stmt.Given as goal

abbrev pub invariant-bare::stmt::bare_stmts-loop-item : goal.invariant-bare::stmt::bare_stmts-loop-item
invariant-bare::stmt::bare_stmts-loop-item l = l.all ≡ map (map_stmt expr_without_parens) (take l.item-index l.items)
