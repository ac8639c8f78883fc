use Rattle.std.proofs.Common.{◌≡◌, ◌↔◌, drop}
use Rattle.jav_tree.proofs.same.unit.same_params.Given as goal

abbrev pub invariant-loop-i : goal.invariant-loop-i
invariant-loop-i l = (drop l.i l.items ≡ drop l.i l.others) ↔ (l.items ≡ l.others)
