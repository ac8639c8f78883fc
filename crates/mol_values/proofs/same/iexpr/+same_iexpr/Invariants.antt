use Rattle.std.proofs.Common.{◌≡◌, ◌↔◌, drop}
use Rattle.mol_values.proofs.same.iexpr.+same_iexpr.Given as goal

abbrev pub invariant-same_all-loop-i : goal.invariant-same_all-loop-i
invariant-same_all-loop-i l = (drop l.i l.items ≡ drop l.i l.others) ↔ (l.items ≡ l.others)

abbrev pub invariant-same_arguments-loop-i : goal.invariant-same_arguments-loop-i
invariant-same_arguments-loop-i l = (drop l.i l.items ≡ drop l.i l.others) ↔ (l.items ≡ l.others)
