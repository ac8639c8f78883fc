use Rattle.std.proofs.Common.{◌≡◌, ◌↔◌, map, drop}
use Rattle.jav_tree.specs.Places.{unplaced_declarator}
use Rattle.jav_tree.proofs.same.stmt.same_names.Given as goal

abbrev pub invariant-loop-i : goal.invariant-loop-i
invariant-loop-i l = (map unplaced_declarator (drop l.i l.items) ≡ map unplaced_declarator (drop l.i l.others)) ↔ (map unplaced_declarator l.items ≡ map unplaced_declarator l.others)
