use Rattle.std.proofs.Common.{◌≡◌, map, take}
use Rattle.jav_tree.specs.EachExpression.{map_declarator}
use Rattle.jav_tree.specs.Parens.{expr_without_parens}
use Rattle.jav_tree.proofs.bare.stmt.bare_names.Given as goal

abbrev pub invariant-loop-item : goal.invariant-loop-item
invariant-loop-item l = l.all ≡ map (map_declarator expr_without_parens) (take l.item-index l.items)
