use Rattle.std.proofs.Common.{◌≡◌, ◌↔◌, drop}
use Rattle.mol_values.proofs.same.iblock.same_names.Given as goal

abbrev pub invariant-loop-i : goal.invariant-loop-i
invariant-loop-i l = (drop l.i l.items ≡ drop l.i l.others) ↔ (l.items ≡ l.others)
