use Rattle.std.proofs.Common.{◌≡◌, take}
use Rattle.jav_tree.proofs.+copy_stmt.Given as goal

abbrev pub invariant-copy::stmt::copy_stmts-loop-item : goal.invariant-copy::stmt::copy_stmts-loop-item
invariant-copy::stmt::copy_stmts-loop-item l = l.all ≡ take l.item-index l.items
