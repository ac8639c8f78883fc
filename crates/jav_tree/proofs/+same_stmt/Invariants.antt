use Rattle.std.proofs.Common.{◌≡◌, ◌↔◌, map, drop}
use Rattle.jav_tree.specs.Places.{unplaced_stmt}
use Rattle.jav_tree.proofs.+same_stmt.Given as goal

abbrev pub invariant-same::stmt::same_stmts-loop-i : goal.invariant-same::stmt::same_stmts-loop-i
invariant-same::stmt::same_stmts-loop-i l = (map unplaced_stmt (drop l.i l.items) ≡ map unplaced_stmt (drop l.i l.others)) ↔ (map unplaced_stmt l.items ≡ map unplaced_stmt l.others)
